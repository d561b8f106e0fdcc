-- Which connection is next.
use Rattle.std.proofs.Common.{◌≡◌, ◌≢◌, ◌<◌, ℕ, Option, Some, None, IfSome, sym, ◌∙◌, ap, subst}
use mathlib.Core.Logic.{inl, inr}
use Rattle.std.proofs.lemmas.Bool.{cases_eq, cases_order}
use Rattle.slab.specs.Slab.{Slab, get, Updates}
use Rattle.pm_server.specs.KeySets.{HasKey, HasTaken}
use Rattle.pm_server.specs.Polled.{Polled, IsFirst, GoesOut, TakesOut, TakesNone}

pub no-some : {A : Type 0} (o : Option A) (x : A) → o ≡ Some x → o ≡ None → ⊥
no-some o x some none = let both : None ≡ Some x = sym none ∙ some in absurd (cc both)

abbrev pub value : {A : Type 0} → A → Option A → A
value d None = d
value d (Some x) = x

still : {A : Type 0} (f g : Polled A) (key : ℕ) (rest : A) (o : Option ℕ) → IsFirst f key rest → HasTaken f.round g.round o → IfSome o (λ k. get f.conns k ≡ None)
    → g.conns ≡ f.conns → IsFirst g key rest
still f g key rest None i t n c = absurd (t.1 key i.due)
still f g key rest (Some k) i t n c =
    let apart : key ≢ k = (λ same. no-some (get f.conns key) rest i.held (subst (λ m. get f.conns m ≡ None) (sym same) n)) in
    record {
      due = (t.4 key apart).1 i.due;
      held = ap (λ s. get s key) c ∙ i.held;
      lowest = λ j less h. elim (cases_eq j k) [
        | inl same ↦ absurd (t.2 (subst (λ m. HasKey g.round m) same h))
        | inr other ↦ ap (λ s. get s j) c ∙ i.lowest j less ((t.4 j other).0 h)
      ];
    }

-- a key with no connection was taken: the first is still the first
pub still_first : {A : Type 0} (f g : Polled A) (key : ℕ) (rest : A) → IsFirst f key rest → TakesNone f g → IsFirst g key rest
still_first f g key rest i t = still f g key rest t.key i t.taken t.none t.conns

-- a connection was taken: it is the first
pub first_goes : {A C : Type 0} (f g : Polled A) (key : ℕ) (rest : A) (conn : C) (conn_of : A → C) → IsFirst f key rest → TakesOut f g conn conn_of → (conn ≡ conn_of rest) × GoesOut f g key
first_goes f g key rest conn conn_of i t =
    let here : t.key ≡ key = elim (cases_order t.key key) [
      | inl same ↦ same
      | inr (inl less) ↦ absurd (no-some (get f.conns t.key) t.rest t.held (i.lowest t.key less t.taken.1))
      | inr (inr more) ↦ absurd (t.taken.3 key more i.due)
    ] in
    let both : Some t.rest ≡ Some rest = sym t.held ∙ ap (λ k. get f.conns k) here ∙ i.held in
    (t.is ∙ ap conn_of (ap (value rest) both), subst (λ k. GoesOut f g k) here t.goes)

-- from an earlier moment with the same connections
pub goes_from : {A : Type 0} (e f g : Polled A) (key : ℕ) → f.conns ≡ e.conns → f.later ≡ e.later → GoesOut f g key → GoesOut e g key
goes_from e f g key conns later h = record {
  gone = subst (λ s. Updates s g.conns key None) conns h.gone;
  place = h.place;
  later = h.later ∙ later;
}
