use Rattle.pm_laws.proofs.Given.{numbers-given}
use Rattle.pm_laws.proofs.numbers_given.Goals as goal

pub returns : goal.returns
returns c = numbers-given
