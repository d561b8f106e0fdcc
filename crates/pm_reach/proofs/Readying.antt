-- A pass that makes the rows of all that is contained in x ready for another row, and puts that into the unions.
use Rattle.std.proofs.Common.{◌≡◌, ◌<◌, ◌≤◌, ◌+◌, ◌/◌, ℕ, true, false, List, length, Option, refl, sym, ◌∙◌, inl, inr, arith}
use Rattle.std.proofs.lemmas.Bool.{true≢false, cases_lt, cases_eq}
use Rattle.pm_reach.specs.Words.{in_row}
use Rattle.pm_reach.specs.Rows.{below}
use Rattle.pm_reach.specs.Table.{Table, IsReady, StaysReady}
use Rattle.pm_reach.specs.Passes.{Spans}
use Rattle.pm_reach.specs.Unions.{AreUnions, Keeps}

-- the numbers below z were passed; those of them that are contained in x are ready
pub record Readied (x : ℕ) (other : List ℕ) (old : List (List (Option (List ℕ)))) (now : Table) (unions : List (List (Option (List ℕ)))) (z : ℕ) : Type 0 where
  pub rows : now.rows ≡ old
  pub kept : AreUnions unions old
  pub ready : (p : ℕ) → p < z → below old p x ≡ true → IsReady now p (length other)
  pub covered : (p q : ℕ) → p < z → below old p x ≡ true → in_row other q ≡ true → below unions (p / 64) q ≡ true

pub Readied-none : {x : ℕ} {other : List ℕ} {t : Table} {unions : List (List (Option (List ℕ)))} {low high z : ℕ} → Spans t.rows x low high →
    AreUnions unions t.rows → ((p : ℕ) → low ≤ p → p < z → below t.rows p x ≡ false) → Readied x other t.rows t unions z
Readied-none {x} {other} {t} {unions} {low} {high} {z} spans are none = record {
  rows = refl;
  kept = are;
  ready = λ p l h. absurd (not-yet p l h);
  covered = λ p q l h k. absurd (not-yet p l h);
} where
  not-yet : (p : ℕ) → p < z → below t.rows p x ≡ true → ⊥
  not-yet p l h = true≢false (sym h ∙ none p (spans.from p h) l)

-- z was made ready, and the numbers from there to `next` are passed
pub Readied-more : {x : ℕ} {other : List ℕ} {old : List (List (Option (List ℕ)))} {now new : Table} {unions after : List (List (Option (List ℕ)))} {z next : ℕ} →
    Readied x other old now unions z → new.rows ≡ now.rows → StaysReady now new → IsReady new z (length other) → Keeps unions after →
    ((q : ℕ) → in_row other q ≡ true → below after (z / 64) q ≡ true) → ((p : ℕ) → z + 1 ≤ p → p < next → below old p x ≡ false) →
    Readied x other old new after next
unfolding AreUnions
Readied-more {x} {other} {old} {now} {new} {unions} {after} {z} {next} a same stays ready keeps covered none = record {
  rows = same ∙ a.rows;
  kept = λ p q h. keeps (p / 64) q (a.kept p q h);
  ready = λ p l h. elim (cases_lt p z) [
    | inl s ↦ stays p (length other) (a.ready p s h)
    | inr s ↦ rw (at p l h s) ready
  ];
  covered = λ p q l h k. elim (cases_lt p z) [
    | inl s ↦ keeps (p / 64) q (a.covered p q s h k)
    | inr s ↦ rw (at p l h s) (covered q k)
  ];
} where
  at : (p : ℕ) → p < next → below old p x ≡ true → z ≤ p → p ≡ z
  at p l h s = elim (cases_eq p z) [
    | inl e ↦ e
    | inr ne ↦ absurd (true≢false (sym h ∙ none p (omega arith) l))
  ]
