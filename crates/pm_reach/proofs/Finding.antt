-- Finding all that is contained in an element, page by page.
use Rattle.std.proofs.Common.{◌≡◌, ◌≢◌, ◌<◌, ◌≤◌, ◌+◌, ◌/◌, ℕ, Bool, false, List, Option, refl, sym, ◌∙◌, ◌||◌, inl, inr, arith}
use Rattle.std.proofs.lemmas.Bool.{cases_eq}
use Rattle.pm_reach.specs.Rows.{below}
use Rattle.pm_reach.specs.Unions.{AreUnions}
use Rattle.pm_reach.proofs.Covering.{union_lacks}

-- the pages before k were looked at
pub record Found (rows : List (List (Option (List ℕ)))) (x k : ℕ) (found : ℕ → Bool) : Type 0 where
  pub before : (q : ℕ) → q / 64 < k → found q ≡ below rows q x
  pub rest : (q : ℕ) → k ≤ q / 64 → found q ≡ false

-- page k was looked at, too
pub found_here : (rows : List (List (Option (List ℕ)))) (x k : ℕ) (old new : ℕ → Bool) → Found rows x k old →
    ((q : ℕ) → q / 64 ≡ k → new q ≡ (old q || below rows q x)) → ((q : ℕ) → q / 64 ≢ k → new q ≡ old q) → Found rows x (k + 1) new
found_here rows x k old new was here others = record {
  before = λ q l. elim (cases_eq (q / 64) k) [
    | inl e ↦ here q e ∙ rw (was.rest q (omega arith)) refl
    | inr ne ↦ others q ne ∙ was.before q (omega arith)
  ];
  rest = λ q l. let ne : q / 64 ≢ k = omega arith in others q ne ∙ was.rest q (omega arith);
}

-- page k was passed by, since its union lacks x
pub found_none : (rows unions : List (List (Option (List ℕ)))) (x k : ℕ) (old : ℕ → Bool) → AreUnions unions rows → below unions k x ≡ false →
    Found rows x k old → Found rows x (k + 1) old
found_none rows unions x k old are lacks was = record {
  before = λ q l. elim (cases_eq (q / 64) k) [
    | inl e ↦ was.rest q (omega arith) ∙ sym (union_lacks unions rows k x are lacks q e)
    | inr ne ↦ was.before q (omega arith)
  ];
  rest = λ q l. was.rest q (omega arith);
}
