use Rattle.pm_affect.proofs.Asked.{elements_asked, few_asked, users_asked}
use Rattle.pm_affect.proofs.laws.numbers_asked.Goals as goal

pub returns : goal.returns
returns c = record { elements = elements_asked; users = users_asked; few = few_asked }
