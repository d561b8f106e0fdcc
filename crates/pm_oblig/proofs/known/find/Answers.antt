use Rattle.std.proofs.Common.{sym, ◌∙◌}
use Rattle.pm_oblig.specs.Awaited.{is_of}
use Rattle.pm_oblig.proofs.Firsts.{found-at, none-found}
use Rattle.pm_oblig.proofs.known.find.Goals as goal

pub returns-in-Some : goal.returns-in-Some
returns-in-Some c =
    sym (found-at (is_of c.args.operation) c.args.known.now.items c.in-Some.i (sym c.in-Some.ensures.value) ∙ c.at.ensures)

pub returns-in-None : goal.returns-in-None
returns-in-None c = sym (none-found (is_of c.args.operation) c.args.known.now.items (sym c.in-None.ensures.value))
