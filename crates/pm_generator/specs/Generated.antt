-- The requests of a generated policy, in order, by its size n. The policy and the order are the project's own.
use Rattle.std.specs.Prelude.{ℕ, Bool, List, [], ◌∷◌, ◌++◌, ◌+◌, ◌-◌, ◌*◌, ◌/◌, ◌==◌, if◌then◌else◌, map, filter, nat_le, codes, decimal, None}
use Rattle.std.specs.List.{range_with_len, flat_map}
use Rattle.std.proofs.Common.{min}
use Rattle.pm_model.specs.declared.elements.Kind.TheVariants.{User, Ua, Object, Oa}
use Rattle.pm_model.specs.declared.requests.Command.{Command}
use Rattle.pm_model.specs.declared.requests.Command.TheVariants as command
use Rattle.pm_model.specs.declared.requests.Body.{Body}
use Rattle.pm_model.specs.declared.requests.Body.TheVariants as body
use Rattle.pm_model.specs.declared.requests.Request.{Request}
use Rattle.pm_model.specs.declared.reviews.ReviewOf.TheVariants.{Caps}

-- the numbers from a on that are below b
abbrev pub numbers : ℕ → ℕ → List ℕ
numbers a b = range_with_len a (b - a)

-- ---- names: the class, and the groups, folders, users and objects by number

abbrev pub class_name : List ℕ
class_name = codes "c0"

abbrev pub group_name : ℕ → List ℕ
group_name i = codes "g" ++ decimal i

abbrev pub folder_name : ℕ → List ℕ
folder_name i = codes "d" ++ decimal i

abbrev pub user_name : ℕ → List ℕ
user_name i = codes "u" ++ decimal i

abbrev pub object_name : ℕ → List ℕ
object_name i = codes "o" ++ decimal i

-- what group or folder i is made in: 0 in the class, 1 and 2 in 0, 3 and 4 in 1, 5 and 6 in 2
abbrev pub container : (ℕ → List ℕ) → ℕ → List ℕ
container name_of i = if i == 0 then class_name else name_of ((i - 1) / 2)

-- ---- requests: none waits for a version, and each command is given by process 0

abbrev pub plain : Body → Request
plain b = record { after = None; body = b }

abbrev pub given : Command → Request
given c = plain (body.Admin 0 c)

abbrev pub create_class : Request
create_class = given (command.CreatePc class_name)

abbrev pub create_group : ℕ → Request
create_group i = given (command.Create Ua (group_name i) (container group_name i))

abbrev pub create_folder : ℕ → Request
create_folder i = given (command.Create Oa (folder_name i) (container folder_name i))

abbrev pub create_user : ℕ → Request
create_user i = given (command.Create User (user_name i) (group_name i))

abbrev pub create_object : ℕ → Request
create_object i = given (command.Create Object (object_name i) (folder_name i))

-- the users in group i may read what is in folder i
abbrev pub let_read : ℕ → Request
let_read i = given (command.Associate (group_name i) (codes "read" ∷ []) (folder_name i))

abbrev pub open_session : ℕ → Request
open_session i = plain (body.OpenSession (user_name i))

-- the machine counts sessions and processes from 1, so that session i + 1 and process i + 1 are user i's
abbrev pub start_process : ℕ → Request
start_process i = plain (body.StartProcess (i + 1))

abbrev pub keep_caps : ℕ → Request
keep_caps i = given (command.Keep (Caps (user_name i)))

-- user i reads object j
abbrev pub access : ℕ → ℕ → Request
access i j = plain (body.Access (i + 1) (codes "read") (object_name j))

-- group i is assigned to the one before it, too
abbrev pub assign_group : ℕ → Request
assign_group i = given (command.Assign (group_name i) (group_name (i - 1)))

-- ---- the ten steps

-- user i and object i
abbrev pub member_pair : ℕ → List Request
member_pair i = create_user i ∷ create_object i ∷ []

-- user i's session, and a process of it
abbrev pub session_pair : ℕ → List Request
session_pair i = open_session i ∷ start_process i ∷ []

-- user i reads each object
abbrev pub accesses_by : ℕ → ℕ → List Request
accesses_by n i = map (access i) (numbers 0 n)

-- each user reads each object
abbrev pub accesses : ℕ → List Request
accesses n = flat_map (accesses_by n) (numbers 0 n)

-- group i is a leaf: the first group that would be made in it is 2 * i + 1, and there is none of that number
abbrev pub is_leaf : ℕ → ℕ → Bool
is_leaf n i = nat_le n (2 * i + 1)

abbrev pub steps : ℕ → List (List Request)
steps n =
    -- 1. the class
    (create_class ∷ [])
    -- 2. the groups, a tree in the class
    ∷ map create_group (numbers 0 n)
    -- 3. the folders, a like tree
    ∷ map create_folder (numbers 0 n)
    -- 4. in each group a user, and in each folder an object
    ∷ flat_map member_pair (numbers 0 n)
    -- 5. the associations, of each group that is a leaf with the folder of its number
    ∷ map let_read (filter (is_leaf n) (numbers 0 n))
    -- 6. for each user a session, and a process of it
    ∷ flat_map session_pair (numbers 0 n)
    -- 7. the reviews that are kept, of the first eight users
    ∷ map keep_caps (numbers 0 (min n 8))
    -- 8. the accesses: each user reads each object
    ∷ accesses n
    -- 9. each group but the first is assigned to the one before it
    ∷ map assign_group (numbers 1 n)
    -- 10. the accesses again
    ∷ accesses n
    ∷ []

-- all requests, step after step
abbrev pub generated : ℕ → List Request
generated n = flat_map (λ step. step) (steps n)
