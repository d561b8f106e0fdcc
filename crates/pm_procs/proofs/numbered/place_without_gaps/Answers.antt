use Rattle.std.proofs.Common.{sym, arith}
use Rattle.pm_procs.proofs.Places.{placed-once}
use Rattle.pm_procs.proofs.numbered.place_without_gaps.Goals as goal

pub returns : goal.returns
returns g c =
    sym (placed-once g.T.Numbered.number c.args.number c.args.items.now.items _ c.in_ok-get-2.field-0.now c.requires (sym c.in_ok-get-2.ensures)
    (omega (arith, c.number.ensures, c.if-number.false)))
