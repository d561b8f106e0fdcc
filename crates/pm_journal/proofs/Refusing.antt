-- Nothing that a line asks for is refused.
use Rattle.std.proofs.Common.{◌≡◌, ◌≤◌, ◌⊎◌, inl, inr, ℕ, List, ◌++◌, Option, None, Some, codes, length, refl, arith}
use Rattle.pm_model.specs.Asked.{asked}
use Rattle.pm_model.specs.declared.requests.Request.{Request}
use Rattle.pm_print.specs.Askable.{IsAskable, IsWholeIf, asking}
use Rattle.pm_print.specs.Requested.{request_text}
use Rattle.pm_journal.specs.Refusals.{IsRefused, IsTooLong}

abbrev pub AsksAskable : Type 0
AsksAskable = (line : List ℕ) (id : Option ℕ) (request : Request) → asked line ≡ asking id request → IsWholeIf id × IsAskable request

abbrev pub IsNoLonger : Type 0
IsNoLonger = (line again : List ℕ) (id other : Option ℕ) (request : Request) → asked line ≡ asking id request
    → (other ≡ id) ⊎ (other ≡ None) → request_text other request ≡ again ++ codes "\n" → length again ≤ length line

pub is_none : {A : Type 0} (o : Option A) → ((x : A) → o ≡ Some x → ⊥) → o ≡ None
is_none None none = refl
is_none (Some x) none = absurd (none x refl)

pub not_refused : AsksAskable → IsNoLonger → (line : List ℕ) (id : Option ℕ) (request : Request) → asked line ≡ asking id request → length line ≤ 8192
    → IsRefused request → ⊥
not_refused askable no_longer line id request asks short (inl none) = none (askable line id request asks).1
not_refused askable no_longer line id request asks short (inr long) =
    absurd (omega (arith, no_longer line long.0 id None request asks (inr refl) long.1, long.2, short))
