-- Lists of exactly two and of exactly three values.
use Rattle.std.proofs.Common.{◌≡◌, ◌<◌, ◌≤◌, List, [], ◌∷◌, length, None, refl, arith}
use Rattle.serde_json.specs.View.{items_view}
use Rattle.serde_json.specs.declared.value.Value.{Value}
use Rattle.pm_document.specs.Forms.{two, three}

pub two-fewer : (vs : List Value) → length vs < 2 → two (items_view vs) ≡ None
two-fewer [] h = refl
two-fewer (a ∷ []) h = refl
two-fewer (a ∷ b ∷ vs) h = absurd (omega (arith, h))

pub two-more : (vs : List Value) → 3 ≤ length vs → two (items_view vs) ≡ None
two-more [] h = refl
two-more (a ∷ []) h = refl
two-more (a ∷ b ∷ []) h = absurd (omega (arith, h))
two-more (a ∷ b ∷ c ∷ vs) h = refl

pub three-fewer : (vs : List Value) → length vs < 3 → three (items_view vs) ≡ None
three-fewer [] h = refl
three-fewer (a ∷ []) h = refl
three-fewer (a ∷ b ∷ []) h = refl
three-fewer (a ∷ b ∷ c ∷ vs) h = absurd (omega (arith, h))

pub three-more : (vs : List Value) → 4 ≤ length vs → three (items_view vs) ≡ None
three-more [] h = refl
three-more (a ∷ []) h = refl
three-more (a ∷ b ∷ []) h = refl
three-more (a ∷ b ∷ c ∷ []) h = absurd (omega (arith, h))
three-more (a ∷ b ∷ c ∷ d ∷ vs) h = refl
