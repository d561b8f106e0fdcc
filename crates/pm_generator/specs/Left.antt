-- What is still to come, where the next request is given.
use Rattle.std.specs.Prelude.{◌≡◌, ◌<◌, ◌≤◌, ℕ, List, [], ◌∷◌, ◌++◌, ◌+◌, map, drop, Option, None, Some}
use Rattle.std.specs.List.{flat_map}
use Rattle.std.proofs.Common.{min}
use Rattle.pm_model.specs.declared.requests.Request.{Request}
use Rattle.pm_generator.specs.declared.place.Place.{Place}
use Rattle.pm_generator.specs.declared.place.Place.TheVariants.{Class, Group, Folder, User, Object, Association, Session, Process, Review, FirstAccess, Assignment, SecondAccess, Done}
use Rattle.pm_generator.specs.Generated.{numbers, steps, generated, create_class, create_group, create_folder, create_user, create_object, let_read, open_session, start_process, keep_caps, access, assign_group, member_pair, session_pair, accesses_by}

-- the requests behind the first k steps
abbrev pub behind : ℕ → ℕ → List Request
behind k n = flat_map (λ step. step) (drop k (steps n))

-- the accesses of a round from user i's of object j on
abbrev pub accesses_from : ℕ → ℕ → ℕ → List Request
accesses_from n i j = map (access i) (numbers j n) ++ flat_map (accesses_by n) (numbers (i + 1) n)

-- behind user i's access of object j the round is over, or goes on with a user's access of an object
abbrev pub GoesOn : ℕ → ℕ → ℕ → Option (ℕ × ℕ) → Type 0
GoesOn n i j None = accesses_from n i j ≡ access i j ∷ []
GoesOn n i j (Some next) = (accesses_from n i j ≡ access i j ∷ accesses_from n next.0 next.1) × (next.0 < n) × (next.1 < n)

-- the requests from the one at a place on
abbrev pub left : ℕ → Place → List Request
left n Class = generated n
left n (Group i) = map create_group (numbers i n) ++ behind 2 n
left n (Folder i) = map create_folder (numbers i n) ++ behind 3 n
left n (User i) = flat_map member_pair (numbers i n) ++ behind 4 n
left n (Object i) = create_object i ∷ (flat_map member_pair (numbers (i + 1) n) ++ behind 4 n)
left n (Association i) = map let_read (numbers i n) ++ behind 5 n
left n (Session i) = flat_map session_pair (numbers i n) ++ behind 6 n
left n (Process i) = start_process i ∷ (flat_map session_pair (numbers (i + 1) n) ++ behind 6 n)
left n (Review i) = map keep_caps (numbers i (min n 8)) ++ behind 7 n
left n (FirstAccess i j) = accesses_from n i j ++ behind 8 n
left n (Assignment i) = map assign_group (numbers i n) ++ behind 9 n
left n (SecondAccess i j) = accesses_from n i j ++ behind 10 n
left n Done = []

-- the request at a place
abbrev pub request_at : Place → Option Request
request_at Class = Some create_class
request_at (Group i) = Some (create_group i)
request_at (Folder i) = Some (create_folder i)
request_at (User i) = Some (create_user i)
request_at (Object i) = Some (create_object i)
request_at (Association i) = Some (let_read i)
request_at (Session i) = Some (open_session i)
request_at (Process i) = Some (start_process i)
request_at (Review i) = Some (keep_caps i)
request_at (FirstAccess i j) = Some (access i j)
request_at (Assignment i) = Some (assign_group i)
request_at (SecondAccess i j) = Some (access i j)
request_at Done = None

-- the numbers of a place are those of a request
abbrev pub IsPlace : ℕ → Place → Type 0
IsPlace n Class = Unit {0}
IsPlace n (Group i) = i < n
IsPlace n (Folder i) = i < n
IsPlace n (User i) = i < n
IsPlace n (Object i) = i < n
IsPlace n (Association i) = i < n
IsPlace n (Session i) = i < n
IsPlace n (Process i) = i < n
IsPlace n (Review i) = i < min n 8
IsPlace n (FirstAccess i j) = (i < n) × (j < n)
IsPlace n (Assignment i) = (0 < i) × (i < n)
IsPlace n (SecondAccess i j) = (i < n) × (j < n)
IsPlace n Done = Unit {0}

-- a group that is assigned to the one before it is not the first
abbrev pub HasGroupBefore : Place → Type 0
HasGroupBefore (Assignment i) = 0 < i
HasGroupBefore _ = Unit {0}

-- the sizes that a policy may have
abbrev pub IsSize : ℕ → Type 0
IsSize n = (0 < n) × (n ≤ 200)

-- a place in a policy
pub record IsIn (n : ℕ) (p : Place) : Type 0 where
  pub size : IsSize n
  pub place : IsPlace n p
