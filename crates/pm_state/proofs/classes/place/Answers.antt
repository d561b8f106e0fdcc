use Rattle.std.proofs.Common.{arith}
use Rattle.std.proofs.lemmas.List.Edits.{length-insert}
use Rattle.pm_state.proofs.ClassPlaces.{remove-insert}
use Rattle.pm_state.proofs.classes.place.Goals as goal

pub returns-in-Ok-clause-back : goal.returns-in-Ok-clause-back
returns-in-Ok-clause-back c =
    let ms = c.args.classes.now in
    let i = c.place_of-i.result in
    let within = c.place_of-i.ensures.within in
    let longer = length-insert ms i c.args.id within in
    rw (c.in-Ok.ensures.ok) (omega (arith, longer, within), remove-insert ms i c.args.id within)
