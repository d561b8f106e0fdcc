use Rattle.pm_laws.proofs.Given.{numbers-below}
use Rattle.pm_laws.proofs.numbers_below.Goals as goal

pub returns : goal.returns
returns c = numbers-below
