-- Small policies, computed.
use Rattle.std.proofs.Common.{◌≡◌, refl}
use Rattle.std.specs.Fmt.{digits}
use Rattle.pm_generator.specs.Generated.{generated}
use Rattle.pm_generator.specs.Worked.{policy_of_one, policy_of_three, part, last_groups_of_ten, associations_of_ten, reviews_of_ten}

pub one : generated 1 ≡ policy_of_one
unfolding digits
one = refl

pub three : generated 3 ≡ policy_of_three
unfolding digits
three = refl

pub groups : part 7 4 (generated 10) ≡ last_groups_of_ten
unfolding digits
groups = refl

pub associations : part 41 5 (generated 10) ≡ associations_of_ten
unfolding digits
associations = refl

pub reviews : part 66 8 (generated 10) ≡ reviews_of_ten
unfolding digits
reviews = refl
