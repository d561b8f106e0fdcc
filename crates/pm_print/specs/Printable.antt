-- What may be printed as a reply's line.
use Rattle.std.specs.Prelude.{ℕ, ◌<◌, ◌^◌, List, [], ◌∷◌, map, Option, IfSome, IsTrue}
use Rattle.pm_model.specs.Formed.{Each}
use Rattle.pm_model.specs.Name.{is_name}
use Rattle.pm_model.specs.RightSet.{right_bits}
use Rattle.pm_model.specs.declared.replies.Reason.{Reason}
use Rattle.pm_model.specs.declared.replies.Reason.TheVariants.{Class, Prohibition}
use Rattle.pm_model.specs.declared.replies.Refusal.{Refusal}
use Rattle.pm_model.specs.declared.replies.Refusal.TheVariants.{UnknownName, Denied}
use Rattle.pm_model.specs.declared.replies.Reply.{Reply}
use Rattle.pm_model.specs.declared.replies.Reply.TheVariants.{Done, Granted, Caps, Entries, Survey, Kept, Changes, Refused, ResponseRefused}
use Rattle.pm_model.specs.declared.reviews.Changed.{Changed}
use Rattle.pm_model.specs.declared.reviews.Pair.{Pair}
use Rattle.pm_model.specs.declared.replies.Shown as made
use Rattle.pm_model.specs.declared.replies.Shown.TheVariants as shown

abbrev pub names_in_reason : (ℕ → List ℕ) → Reason → List (List ℕ)
names_in_reason names (Class pc) = names pc ∷ []
names_in_reason names (Prohibition name) = name ∷ []

abbrev pub names_in_refusal : (ℕ → List ℕ) → Refusal → List (List ℕ)
names_in_refusal names (UnknownName name) = name ∷ []
names_in_refusal names (Denied right target reason) = right ∷ names target ∷ names_in_reason names reason
names_in_refusal names _ = []

abbrev pub names_of_pairs : (ℕ → List ℕ) → List Pair → List (List ℕ)
names_of_pairs names list = map (λ (p : Pair). names p.element) list

abbrev pub names_of_changes : List Changed → List (List ℕ)
names_of_changes list = map (λ (c : Changed). c.name) list

-- the names that the reply shows, where elements have these
abbrev pub names_in : (ℕ → List ℕ) → Reply → List (List ℕ)
names_in names (Caps list) = names_of_pairs names list
names_in names (Entries list) = names_of_pairs names list
names_in names (Survey users counts) = map names users
names_in names (Kept list) = names_of_pairs names list
names_in names (Changes at list) = names_of_changes list
names_in names (Refused why) = names_in_refusal names why
names_in names (ResponseRefused obligation action why) = obligation ∷ []
names_in names _ = []

abbrev pub numbers_in_shown : made.Shown → List ℕ
numbers_in_shown shown.Nothing = []
numbers_in_shown (shown.Session n) = n ∷ []
numbers_in_shown (shown.Process n) = n ∷ []
numbers_in_shown (shown.Review n) = n ∷ []

abbrev pub rights_of_pairs : List Pair → List ℕ
rights_of_pairs list = map (λ (p : Pair). p.rights) list

abbrev pub rights_of_changes : List Changed → List ℕ
rights_of_changes [] = []
rights_of_changes (c ∷ cs) = c.old ∷ c.new ∷ rights_of_changes cs

-- the numbers that the reply shows beside the id and the version
abbrev pub numbers_in : Reply → List ℕ
numbers_in (Done fired what) = fired ∷ numbers_in_shown what
numbers_in (Granted fired) = fired ∷ []
numbers_in (Survey users counts) = counts
numbers_in (Changes at list) = at ∷ []
numbers_in (ResponseRefused obligation action why) = action ∷ []
numbers_in _ = []

-- the sets of rights that it shows
abbrev pub rights_in : Reply → List ℕ
rights_in (Caps list) = rights_of_pairs list
rights_in (Entries list) = rights_of_pairs list
rights_in (Kept list) = rights_of_pairs list
rights_in (Changes at list) = rights_of_changes list
rights_in _ = []

-- what is shown as a number has 64 bits
abbrev pub ShowsNumbers : List ℕ → Type 0
ShowsNumbers ns = Each (λ n. n < 2 ^ 64) ns

-- what is shown as a set of rights has a bit for each that there can be
abbrev pub ShowsRights : List ℕ → Type 0
ShowsRights ns = Each (λ n. n < 2 ^ right_bits) ns

-- what is shown as a name is one
abbrev pub ShowsNames : List (List ℕ) → Type 0
ShowsNames ns = Each (λ name. IsTrue (is_name name)) ns

-- the numbers have 64 bits, the sets of rights as many as they can, and what is shown as a name is one
pub record IsPrintable (id : Option ℕ) (version : ℕ) (names : ℕ → List ℕ) (reply : Reply) : Type 0 where
  pub id_fits : IfSome id (λ n. n < 2 ^ 64)
  pub version_fits : version < 2 ^ 64
  pub numbers_fit : ShowsNumbers (numbers_in reply)
  pub rights_fit : ShowsRights (rights_in reply)
  pub named : ShowsNames (names_in names reply)
