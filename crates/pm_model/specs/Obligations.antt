-- Obligations: which events they match, and their list. Source: the standard's obligations, each an author, an event
-- pattern and a response; what a pattern can ask for, the names, their order and the limit are the project's own.
use Rattle.std.specs.Prelude.{ℕ, Bool, true, false, ◌&&◌, ◌||◌, ◌==◌, nat_le, List, [], ◌∷◌, length, filter, Option, None, Some, bytes_eq}
use Rattle.std.specs.List.{list_any, position_from}
use Rattle.pm_model.specs.declared.events.Event.{Event}
use Rattle.pm_model.specs.declared.events.Pattern.{Pattern}
use Rattle.pm_model.specs.declared.obligations.Obligation.{Obligation}
use Rattle.pm_model.specs.declared.replies.Refusal.{Refusal}
use Rattle.pm_model.specs.declared.replies.Refusal.TheVariants.{NameTaken, Full}
use Rattle.pm_model.specs.declared.replies.Table.TheVariants as table

module _ (below : ℕ → ℕ → Bool) where
  -- the element is contained in the one that the pattern gives, where it gives one
  abbrev pub is_in_given : Option ℕ → ℕ → Bool
  is_in_given None n = true
  is_in_given (Some x) n = below n x

  -- the operation is the pattern's, and the user and the target are in those that it gives
  abbrev pub matches : Pattern → Event → Bool
  matches pattern event =
      bytes_eq pattern.on event.operation && is_in_given pattern.user event.user && is_in_given pattern.target event.target

  -- the obligations that an event matches, in order of creation
  abbrev pub matching : List Obligation → Event → List Obligation
  matching obligations event = filter (λ (o : Obligation). matches o.pattern event) obligations

-- ---- the list of obligations

abbrev pub max_obligations : ℕ
max_obligations = 1024

abbrev pub is_called : List ℕ → Obligation → Bool
is_called name o = bytes_eq name o.name

-- the place, from 0, of the obligation of a name
abbrev pub place_called : List Obligation → List ℕ → Option ℕ
place_called obligations name = position_from (is_called name) 0 obligations

-- preconditions in order
abbrev pub oblige_checks : List Obligation → Obligation → List (Bool × Refusal)
oblige_checks obligations o =
    (list_any (is_called o.name) obligations, NameTaken)
    ∷ (nat_le max_obligations (length obligations), Full table.Obligations) ∷ []

abbrev pub is_given : ℕ → Option ℕ → Bool
is_given id None = false
is_given id (Some n) = n == id

-- the obligation has the element as its author or in its pattern
abbrev pub concerns : ℕ → Obligation → Bool
concerns id o = o.author == id || is_given id o.pattern.user || is_given id o.pattern.target
