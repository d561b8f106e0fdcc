-- What was found now is known too.
use Rattle.pm_decide.specs.Sets.{IsSetOf}
use Rattle.pm_given.specs.Held.{is_held}
use Rattle.pm_given.proofs.Sources.{learned}
use Rattle.pm_given.proofs.given.Given.held_once.Goals as goal

pub returns-clause-known : goal.returns-clause-known
returns-clause-known g c = λ L told held.
    rw c.note_held.ensures.found
    (learned (λ e rights. IsSetOf (is_held (g.R.Reach.relation c.args.reach.now).below c.args.classes.now L e) rights)
    c.args.self.now.found c.args.self.now.known c.note_held.new.self.known c.args.element c.held-rights.result
    c.note_held.ensures.fits c.note_held.ensures.known held (c.held-rights.ensures.answer L told))
