use Rattle.pm_laws.proofs.Given.{next-numbers}
use Rattle.pm_laws.proofs.next_numbers.Goals as goal

pub returns : goal.returns
returns c = next-numbers
