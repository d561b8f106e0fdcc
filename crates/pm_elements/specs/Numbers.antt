-- The elements that are listed, by their numbers.
use Rattle.std.specs.Prelude.{ℕ, Bool, true, false, List, filter, Option, None, Some}
use Rattle.pm_model.specs.Effect.{is_user_kind}
use Rattle.pm_model.specs.Reviews.{is_user, numbers_in}
use Rattle.pm_model.specs.declared.elements.Element.{Element}
use Rattle.pm_elements.specs.declared.listing.Which.{Which}
use Rattle.pm_elements.specs.declared.listing.Which.TheVariants.{All, Users}
use Rattle.pm_elements.specs.declared.slots.Slot.{Slot}
use Rattle.pm_elements.specs.Slots.{shown_from}

-- the slot has an element that is listed
abbrev pub is_listed : Which → Option Slot → Bool
is_listed which None = false
is_listed All (Some s) = true
is_listed Users (Some s) = is_user_kind s.kind

abbrev pub is_wanted : Which → Element → Bool
is_wanted All e = true
is_wanted Users e = is_user e

-- the numbers of those in the slots, of which the first has number n
abbrev pub numbers_from : Which → ℕ → List (Option Slot) → List ℕ
numbers_from which n slots = numbers_in (filter (is_wanted which) (shown_from n slots))
