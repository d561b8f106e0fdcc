use Rattle.std.proofs.Common.{◌∙◌, ap}
use Rattle.std.specs.Option.{option_copied}
use Rattle.pm_procs.proofs.Places.{find-placed, find-absent, has_number}
use Rattle.pm_procs.proofs.numbered.find.Goals as goal

pub returns-in_err-place : goal.returns-in_err-place
returns-in_err-place g c =
    ap option_copied c.from_residual.ensures ∙ find-absent (has_number g.T.Numbered.number c.args.number) c.args.items.now.items c.in_err-place.ensures

pub returns : goal.returns
returns g c =
    c.get.ensures ∙ find-placed (has_number g.T.Numbered.number c.args.number) c.args.items.now.items c.in_ok-place.field-0 c.in_ok-place.ensures
