use Rattle.std.proofs.Common.{◌∙◌, arith}
use Rattle.pm_procs.proofs.Places.{cut-at_end, cut-at_another, cut-at_it}
use Rattle.pm_procs.proofs.numbered.place_by_halves.Goals as goal

pub returns-then-i-len : goal.returns-then-i-len
returns-then-i-len g c =
    cut-at_end g.T.Numbered.number c.args.number c.args.items.now.items c.count_lower-i.result c.count_lower-i.ensures (omega (arith, c.len.ensures))

pub returns-then-number : goal.returns-then-number
returns-then-number g c =
    cut-at_another g.T.Numbered.number c.args.number c.args.items.now.items c.count_lower-i.result c.at.result.now c.requires c.count_lower-i.ensures c.at.ensures
    (λ same. absurd (omega (arith, same, c.number.ensures)))

pub returns : goal.returns
returns g c =
    cut-at_it g.T.Numbered.number c.args.number c.args.items.now.items c.count_lower-i.result c.at.result.now c.count_lower-i.ensures c.at.ensures
    (omega (arith, c.number.ensures))
