-- What is told is told by these words.
use Rattle.std.proofs.Common.{◌≡◌}
use Rattle.pm_given.proofs.given.Given.held.Goals as goal

pub returns-clause-answer : goal.returns-clause-answer
returns-clause-answer g c = λ L told.
    let own : c.args.self.now.own ≡ c.self.inside.own.items = cc in
    let marks : c.args.self.now.marks ≡ c.self.inside.marks.items = cc in
    c.rights_held.ensures.answer L (rw (c.as_slice-own.ensures.value, c.as_slice-marks.ensures.value) (rw (own, marks) at told))
