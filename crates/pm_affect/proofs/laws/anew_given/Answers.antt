use Rattle.pm_affect.proofs.Given.{anew_among, anew_given}
use Rattle.pm_affect.proofs.laws.anew_given.Goals as goal

pub returns : goal.returns
returns c = record { given = anew_given; among = anew_among }
