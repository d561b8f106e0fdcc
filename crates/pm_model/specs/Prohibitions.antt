-- The list of prohibitions: what it takes to put one on it or to take one off. Source: the standard's prohibitions; their
-- names, their order and the limit are the project's own.
use Rattle.std.specs.Prelude.{ℕ, Bool, false, not, ◌==◌, ◌&&◌, ◌||◌, nat_le, List, [], ◌∷◌, length, filter, Option, bytes_eq}
use Rattle.std.specs.List.{list_any, position_from}
use Rattle.pm_model.specs.declared.prohibitions.Prohibition.{Prohibition}
use Rattle.pm_model.specs.declared.prohibitions.Subject.{Subject}
use Rattle.pm_model.specs.declared.prohibitions.Subject.TheVariants.{User, Ua, Process}
use Rattle.pm_model.specs.declared.replies.Refusal.{Refusal}
use Rattle.pm_model.specs.declared.replies.Refusal.TheVariants.{NameTaken, EmptyRange, Full}
use Rattle.pm_model.specs.declared.replies.Table.TheVariants as table

abbrev pub max_prohibitions : ℕ
max_prohibitions = 4096

abbrev pub is_called : List ℕ → Prohibition → Bool
is_called name p = bytes_eq name p.name

-- the place, from 0, of the prohibition of a name
abbrev pub place_called : List Prohibition → List ℕ → Option ℕ
place_called prohibitions name = position_from (is_called name) 0 prohibitions

-- neither set has an element
abbrev pub has_empty_range : Prohibition → Bool
has_empty_range p = length p.inc == 0 && length p.exc == 0

-- preconditions in order
abbrev pub prohibit_checks : List Prohibition → Prohibition → List (Bool × Refusal)
prohibit_checks prohibitions p =
    (list_any (is_called p.name) prohibitions, NameTaken)
    ∷ (has_empty_range p, EmptyRange)
    ∷ (nat_le max_prohibitions (length prohibitions), Full table.Prohibitions) ∷ []

abbrev pub is_process_in : List ℕ → Subject ℕ ℕ → Bool
is_process_in ended (Process n) = list_any (λ m. m == n) ended
is_process_in ended _ = false

-- those whose subject is none of these processes
abbrev pub without_processes : List ℕ → List Prohibition → List Prohibition
without_processes ended prohibitions = filter (λ (p : Prohibition). not (is_process_in ended p.subject)) prohibitions

abbrev pub is_subject : ℕ → Subject ℕ ℕ → Bool
is_subject id (User n) = n == id
is_subject id (Ua n) = n == id
is_subject id (Process n) = false

-- the prohibition has the element as its subject or in one of its sets
abbrev pub names_element : ℕ → Prohibition → Bool
names_element id p = is_subject id p.subject || list_any (λ n. n == id) p.inc || list_any (λ n. n == id) p.exc
