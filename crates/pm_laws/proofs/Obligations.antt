-- The obligations, where one comes or goes and where an element does: one lemma for each change of the lists.
use Rattle.std.proofs.Common.{◌≡◌, ◌<◌, ℕ, List, [], ◌∷◌, ◌++◌, zero, suc, length, Option, Some, None, IfSome, true, false, refl, arith, length-append, Contains, inl, inr, remove}
use Rattle.std.specs.List.{list_any}
use Rattle.std.proofs.lemmas.Bool.{or_parts}
use Rattle.std.proofs.lemmas.List.Edits.{length-remove}
use Rattle.std.proofs.lemmas.List.Elements.{Contains-push_cases}
use Rattle.pm_model.specs.Obligations.{is_called, max_obligations}
use Rattle.pm_model.specs.Effect.{placed, is_actor_kind, may_watch}
use Rattle.pm_model.specs.Resolve.{unused}
use Rattle.pm_model.specs.Formed.{IsLive, AreElements, AreOnceObliged, IsObligation, AreObligations}
use Rattle.pm_model.specs.declared.elements.Element.{Element}
use Rattle.pm_model.specs.declared.obligations.Obligation.{Obligation}
use Rattle.pm_laws.proofs.Items.{each-push, each-at, each-from, contains-removed, none-at, none-from}
use Rattle.pm_laws.proofs.Numbers.{live-placed}
use Rattle.pm_laws.proofs.Names.{other-swapped}
use Rattle.pm_laws.proofs.Ends.{kind-lives, user-lives}

-- ---- no two of one name

once_obliged-push : (os : List Obligation) (o : Obligation) → AreOnceObliged os → list_any (is_called o.name) os ≡ false →
    AreOnceObliged (os ++ o ∷ [])
once_obliged-push [] o h free = (refl, tt)
once_obliged-push (q ∷ os) o h free = (others, once_obliged-push os o h.1 apart.1) where
  apart : (is_called o.name q ≡ false) × (list_any (is_called o.name) os ≡ false)
  apart = or_parts (is_called o.name q) (list_any (is_called o.name) os) free

  others : list_any (is_called q.name) (os ++ o ∷ []) ≡ false
  others = none-from (is_called q.name) (os ++ o ∷ []) (λ r c. elim (Contains-push_cases os o r c) [
    | inl old ↦ none-at (is_called q.name) os r h.0 old
    | inr new ↦ rw (← new) (other-swapped o.name q.name apart.0)
  ])

once_obliged-removed : (os : List Obligation) (i : ℕ) → AreOnceObliged os → AreOnceObliged (remove os i)
once_obliged-removed [] zero h = tt
once_obliged-removed [] (suc i) h = tt
once_obliged-removed (o ∷ os) zero h = h.1
once_obliged-removed (o ∷ os) (suc i) h = (others, once_obliged-removed os i h.1) where
  others : list_any (is_called o.name) (remove os i) ≡ false
  others = none-from (is_called o.name) (remove os i) (λ q c. none-at (is_called o.name) os q h.0 (contains-removed os i q c))

-- ---- one comes or goes

module _ (es : List Element) where
  -- one more
  pub obligations-pushed : (os : List Obligation) (o : Obligation) → AreObligations es os → IsObligation es o →
      list_any (is_called o.name) os ≡ false → length os < max_obligations → AreObligations es (os ++ o ∷ [])
  obligations-pushed os o h new free room = let l = length-append os (o ∷ []) in record {
    once = once_obliged-push os o h.once free;
    each = each-push (IsObligation es) os o h.each new;
    few = omega (arith, l, room);
  }

  -- one less, at its place
  pub obligations-removed : (os : List Obligation) (i : ℕ) → AreObligations es os → i < length os → AreObligations es (remove os i)
  obligations-removed os i h below = let l = length-remove os i below in record {
    once = once_obliged-removed os i h.once;
    each = each-from (IsObligation es) (remove os i) (λ o c. each-at (IsObligation es) os o h.each (contains-removed os i o c));
    few = omega (arith, l, h.few);
  }

  pub obligations-none : AreObligations es []
  obligations-none = record { once = tt; each = tt; few = omega arith }

-- ---- an element comes or goes

-- what keeps each of them
pub obligations-to : (es fs : List Element) (os : List Obligation) →
    ((o : Obligation) → Contains os o → IsObligation es o → IsObligation fs o) → AreObligations es os → AreObligations fs os
obligations-to es fs os kept h = record {
  once = h.once;
  each = each-from (IsObligation fs) os (λ o c. kept o c (each-at (IsObligation es) os o h.each c));
  few = h.few;
}

-- an element more
pub obligations-placed : (es : List Element) (x : Element) (os : List Obligation) → AreElements es → x.number ≡ unused es →
    AreObligations es os → AreObligations (placed x es) os
obligations-placed es x os e u = obligations-to es (placed x es) os (λ o c is. record {
  author = rw (live-placed x es o.author e.rising u (user-lives es o.author is.author)) is.author;
  user = watched o.pattern.user is.user;
  target = given o.pattern.target is.target;
}) where
  watched : (user : Option ℕ) → may_watch es user ≡ true → may_watch (placed x es) user ≡ true
  watched None h = refl
  watched (Some n) h = rw (live-placed x es n e.rising u (kind-lives is_actor_kind es n h)) h

  given : (target : Option ℕ) → IfSome target (IsLive es) → IfSome target (IsLive (placed x es))
  given None h = tt
  given (Some n) h = rw (live-placed x es n e.rising u h) h

-- the user that is waited for is live
pub watched-live : (es : List Element) (user : Option ℕ) → may_watch es user ≡ true → IfSome user (IsLive es)
watched-live es None h = tt
watched-live es (Some n) h = kind-lives is_actor_kind es n h
