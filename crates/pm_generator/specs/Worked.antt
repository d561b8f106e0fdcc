-- The smallest policy and some of the requests of a small one, written out by hand.
use Rattle.std.specs.Prelude.{ℕ, List, [], ◌∷◌, ◌++◌, take, drop, codes, None}
use Rattle.pm_model.specs.declared.elements.Kind.{Kind}
use Rattle.pm_model.specs.declared.elements.Kind.TheVariants.{User, Ua, Object, Oa}
use Rattle.pm_model.specs.declared.requests.Command.{Command}
use Rattle.pm_model.specs.declared.requests.Command.TheVariants as command
use Rattle.pm_model.specs.declared.requests.Body.{Body}
use Rattle.pm_model.specs.declared.requests.Body.TheVariants as body
use Rattle.pm_model.specs.declared.requests.Request.{Request}
use Rattle.pm_model.specs.declared.reviews.ReviewOf.TheVariants.{Caps}

-- a request that waits for no version
abbrev pub row : Body → Request
row b = record { after = None; body = b }

-- a command by process 0
abbrev pub command_row : Command → Request
command_row c = row (body.Admin 0 c)

abbrev pub create : Kind → List ℕ → List ℕ → Request
create kind name into = command_row (command.Create kind name into)

abbrev pub associate : List ℕ → List ℕ → Request
associate ua at = command_row (command.Associate ua (codes "read" ∷ []) at)

-- the process reads the object
abbrev pub read : ℕ → List ℕ → Request
read process target = row (body.Access process (codes "read") target)

abbrev pub assign : List ℕ → List ℕ → Request
assign from to = command_row (command.Assign from to)

-- the review of what the user may do is kept
abbrev pub keep : List ℕ → Request
keep user = command_row (command.Keep (Caps user))

-- the policy of size 1, whole
abbrev pub policy_of_one : List Request
policy_of_one =
    command_row (command.CreatePc (codes "c0"))
    ∷ create Ua (codes "g0") (codes "c0")
    ∷ create Oa (codes "d0") (codes "c0")
    ∷ create User (codes "u0") (codes "g0")
    ∷ create Object (codes "o0") (codes "d0")
    ∷ associate (codes "g0") (codes "d0")
    ∷ row (body.OpenSession (codes "u0"))
    ∷ row (body.StartProcess 1)
    ∷ keep (codes "u0")
    ∷ read 1 (codes "o0")
    ∷ read 1 (codes "o0")
    ∷ []

-- of the policy of size 3, what is there before the accesses
abbrev pub making_of_three : List Request
making_of_three =
    command_row (command.CreatePc (codes "c0"))
    ∷ create Ua (codes "g0") (codes "c0")
    ∷ create Ua (codes "g1") (codes "g0")
    ∷ create Ua (codes "g2") (codes "g0")
    ∷ create Oa (codes "d0") (codes "c0")
    ∷ create Oa (codes "d1") (codes "d0")
    ∷ create Oa (codes "d2") (codes "d0")
    ∷ create User (codes "u0") (codes "g0")
    ∷ create Object (codes "o0") (codes "d0")
    ∷ create User (codes "u1") (codes "g1")
    ∷ create Object (codes "o1") (codes "d1")
    ∷ create User (codes "u2") (codes "g2")
    ∷ create Object (codes "o2") (codes "d2")
    ∷ associate (codes "g1") (codes "d1")
    ∷ associate (codes "g2") (codes "d2")
    ∷ row (body.OpenSession (codes "u0"))
    ∷ row (body.StartProcess 1)
    ∷ row (body.OpenSession (codes "u1"))
    ∷ row (body.StartProcess 2)
    ∷ row (body.OpenSession (codes "u2"))
    ∷ row (body.StartProcess 3)
    ∷ keep (codes "u0")
    ∷ keep (codes "u1")
    ∷ keep (codes "u2")
    ∷ []

-- each user reads each object
abbrev pub round_of_three : List Request
round_of_three =
    read 1 (codes "o0") ∷ read 1 (codes "o1") ∷ read 1 (codes "o2")
    ∷ read 2 (codes "o0") ∷ read 2 (codes "o1") ∷ read 2 (codes "o2")
    ∷ read 3 (codes "o0") ∷ read 3 (codes "o1") ∷ read 3 (codes "o2")
    ∷ []

-- the policy of size 3, whole
abbrev pub policy_of_three : List Request
policy_of_three =
    making_of_three
    ++ round_of_three
    ++ assign (codes "g1") (codes "g0") ∷ assign (codes "g2") (codes "g1") ∷ []
    ++ round_of_three

-- so many requests, behind so many
abbrev pub part : ℕ → ℕ → List Request → List Request
part first count requests = take count (drop first requests)

-- of the policy of size 10: the last groups, the associations, and the reviews that are kept
abbrev pub last_groups_of_ten : List Request
last_groups_of_ten =
    create Ua (codes "g6") (codes "g2")
    ∷ create Ua (codes "g7") (codes "g3")
    ∷ create Ua (codes "g8") (codes "g3")
    ∷ create Ua (codes "g9") (codes "g4")
    ∷ []

abbrev pub associations_of_ten : List Request
associations_of_ten =
    associate (codes "g5") (codes "d5")
    ∷ associate (codes "g6") (codes "d6")
    ∷ associate (codes "g7") (codes "d7")
    ∷ associate (codes "g8") (codes "d8")
    ∷ associate (codes "g9") (codes "d9")
    ∷ []

abbrev pub reviews_of_ten : List Request
reviews_of_ten =
    keep (codes "u0") ∷ keep (codes "u1") ∷ keep (codes "u2") ∷ keep (codes "u3")
    ∷ keep (codes "u4") ∷ keep (codes "u5") ∷ keep (codes "u6") ∷ keep (codes "u7")
    ∷ []
