-- A guard has exactly three texts.
use Rattle.std.proofs.Common.{◌≡◌, ◌<◌, ◌≤◌, List, [], ◌∷◌, length, None, refl, arith}
use Rattle.serde_json.specs.View.{items_view}
use Rattle.serde_json.specs.declared.value.Value.{Value}
use Rattle.pm_model.specs.ResponseForms.{guard_of}

pub fewer : (vs : List Value) → length vs < 3 → guard_of (items_view vs) ≡ None
fewer [] h = refl
fewer (a ∷ []) h = refl
fewer (a ∷ b ∷ []) h = refl
fewer (a ∷ b ∷ c ∷ vs) h = absurd (omega (arith, h))

pub more : (vs : List Value) → 4 ≤ length vs → guard_of (items_view vs) ≡ None
more [] h = refl
more (a ∷ []) h = refl
more (a ∷ b ∷ []) h = refl
more (a ∷ b ∷ c ∷ []) h = absurd (omega (arith, h))
more (a ∷ b ∷ c ∷ d ∷ vs) h = refl
