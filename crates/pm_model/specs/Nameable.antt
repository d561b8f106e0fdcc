-- Which replies can be told: those whose elements have names. The project's own.
use Rattle.std.specs.Prelude.{ℕ, Bool, IsTrue, List}
use Rattle.pm_model.specs.Formed.{Each}
use Rattle.pm_model.specs.declared.replies.Reason.{Reason}
use Rattle.pm_model.specs.declared.replies.Reason.TheVariants.{Class, Prohibition}
use Rattle.pm_model.specs.declared.replies.Refusal.{Refusal}
use Rattle.pm_model.specs.declared.replies.Refusal.TheVariants.{Denied}
use Rattle.pm_model.specs.declared.replies.Reply.{Reply}
use Rattle.pm_model.specs.declared.replies.Reply.TheVariants.{Caps, Entries, Survey, Kept, Refused}
use Rattle.pm_model.specs.declared.reviews.Pair.{Pair}

abbrev pub IsReasonNameable : (ℕ → Bool) → Reason → Type 0
IsReasonNameable named (Class pc) = IsTrue (named pc)
IsReasonNameable named (Prohibition name) = Unit {0}

abbrev pub IsRefusalNameable : (ℕ → Bool) → Refusal → Type 0
IsRefusalNameable named (Denied right target reason) = IsTrue (named target) × IsReasonNameable named reason
IsRefusalNameable named _ = Unit {0}

abbrev pub ArePairsNameable : (ℕ → Bool) → List Pair → Type 0
ArePairsNameable named list = Each (λ (p : Pair). IsTrue (named p.element)) list

-- each element that the reply tells by its number has a name
abbrev pub IsNameable : (ℕ → Bool) → Reply → Type 0
IsNameable named (Caps list) = ArePairsNameable named list
IsNameable named (Entries list) = ArePairsNameable named list
IsNameable named (Survey users counts) = Each (λ u. IsTrue (named u)) users
IsNameable named (Kept list) = ArePairsNameable named list
IsNameable named (Refused why) = IsRefusalNameable named why
IsNameable named _ = Unit {0}
