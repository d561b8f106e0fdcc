-- Among which numbers all is that is contained in an element, and what changes leave of the set of those that contain
-- something else.
use Rattle.std.proofs.Common.{◌≡◌, ◌≤◌, ◌<◌, ◌+◌, ℕ, Bool, true, false, not, List, ◌∷◌, Option, Some, None, IfSome, Result, Ok, Err, OnOk, OnErr, refl, sym, ap, ◌∙◌, ◌||◌, ◌&&◌, ◌==◌, inl, inr, arith}
use Rattle.std.proofs.lemmas.Bool.{true≢false, eqb-true, eq-eqb, or_parts}
use Rattle.pm_reach.specs.Words.{in_row}
use Rattle.pm_reach.specs.Rows.{has, below, most}
use Rattle.pm_reach.specs.Passes.{AreContainers, Spans, is_given}
use Rattle.pm_reach.specs.Ready.{Holds}
use Rattle.pm_reach.specs.Changes.{TellContainment, CanFollow, Adds, Creates, Makes, Assigns, Deassigns, Removes}
use Rattle.pm_reach.specs.declared.step.Step.TheVariants as step
use Rattle.pm_reach.proofs.Orders.{or-cases, and-both, less-contained}
use Rattle.pm_reach.proofs.Passing.{has_below}

module _ (rows : List (List (Option (List ℕ)))) (x : ℕ) where
  pub alone : (containers : List ℕ) (size : ℕ) → AreContainers rows containers → in_row containers x ≡ false → x < size → size ≤ most →
      Spans rows x x (x + 1)
  alone containers size are leaf short few = record {
    from = λ p h. let same : p ≡ x = are p x h leaf in omega arith;
    to = λ p h. let same : p ≡ x = are p x h leaf in omega arith;
    order = omega arith;
    few = omega arith;
  }

  pub all : (size : ℕ) → ((p : ℕ) → has rows p ≡ true → p < size) → size ≤ most → Spans rows x 0 size
  all size within few = record {
    from = λ p h. omega arith;
    to = λ p h. within p (has_below rows p x h);
    order = omega arith;
    few = few;
  }

-- ---- what contains something else, after a change

pub keep-less : (old new : List (List (Option (List ℕ)))) (containers : List ℕ) →
    ((p q : ℕ) → below new p q ≡ true → below old p q ≡ true) → AreContainers old containers → AreContainers new containers
keep-less old new containers less are = λ p y h leaf. are p y (less p y h) leaf

pub keep-deassigns : (assigned : List (ℕ × ℕ)) (old new : List (List (Option (List ℕ)))) (containers : List ℕ) (x y : ℕ) →
    TellContainment ((x, y) ∷ assigned) old → Deassigns x assigned old new → AreContainers old containers → AreContainers new containers
keep-deassigns assigned old new containers x y was d are =
    keep-less old new containers (λ p q h.
    let there = has_below new p q h in
    less-contained assigned old x y was p q (sym (d.live p) ∙ there) (sym (d.related p q there) ∙ h)) are

pub keep-removes : (old new : List (List (Option (List ℕ)))) (containers : List ℕ) (x : ℕ) → Removes x old new → AreContainers old containers →
    AreContainers new containers
keep-removes old new containers x r are =
    keep-less old new containers (λ p q h. (and-both (not (p == x)) (below old p q) (sym (r.related p q) ∙ h)).1) are

pub keep-adds : (old new : List (List (Option (List ℕ)))) (containers : List ℕ) (x : ℕ) → Adds x old new → AreContainers old containers →
    AreContainers new containers
keep-adds old new containers x a are = λ p q h leaf.
    elim (or-cases (below old p q) (p == x && q == x) (sym (a.related p q) ∙ h)) [
      | inl l ↦ are p q l leaf
      | inr r ↦ let b = and-both (p == x) (q == x) r in eqb-true p x b.0 ∙ sym (eqb-true q x b.1)
    ]

-- y is one of them already
module _ (old new : List (List (Option (List ℕ)))) (containers : List ℕ) (y : ℕ) (there : in_row containers y ≡ true)
    (are : AreContainers old containers) where
  not-above : (q : ℕ) → in_row containers q ≡ false → below old y q ≡ true → ⊥
  not-above q leaf h = true≢false (sym there ∙ ap (in_row containers) (are y q h leaf) ∙ leaf)

  pub keep-creates : (x : ℕ) → Creates x y old new → AreContainers new containers
  keep-creates x c = λ p q h leaf.
      elim (or-cases (below old p q) (p == x && (q == x || below old y q)) (sym (c.related p q) ∙ h)) [
        | inl l ↦ are p q l leaf
        | inr r ↦ let b = and-both (p == x) (q == x || below old y q) r in elim (or-cases (q == x) (below old y q) b.1) [
          | inl e ↦ eqb-true p x b.0 ∙ sym (eqb-true q x e)
          | inr l ↦ absurd (not-above q leaf l)
        ]
      ]

  pub keep-assigns : (x : ℕ) → Assigns x y old new → AreContainers new containers
  keep-assigns x c = λ p q h leaf.
      elim (or-cases (below old p q) (below old p x && below old y q) (sym (c.related p q) ∙ h)) [
        | inl l ↦ are p q l leaf
        | inr r ↦ absurd (not-above q leaf (and-both (below old p x) (below old y q) r).1)
      ]

pub keep-makes : (old new : List (List (Option (List ℕ)))) (containers : List ℕ) (x : ℕ) (into : Option ℕ) → Holds containers (step.Make x into) →
    AreContainers old containers → Makes x into old new → AreContainers new containers
keep-makes old new containers x None there are m = keep-adds old new containers x m are
keep-makes old new containers x (Some y) there are m = keep-creates old new containers y there are x m

-- ---- numbers that are put into the set

module _ {A E : Type 0} (given : ℕ → Bool) (before after : List ℕ) where
  pub keep-put : (rows : List (List (Option (List ℕ)))) (result : Result A E) → OnOk result ((q : ℕ) → in_row after q ≡ (given q || in_row before q)) →
      OnErr result (after ≡ before) → AreContainers rows before → AreContainers rows after
  keep-put rows (Ok r) ok err are = λ p y h leaf. are p y h (or_parts (given y) (in_row before y) (sym (ok y) ∙ leaf)).1
  keep-put rows (Err e) ok err are = rw err are

pub holds_given : (before after : List ℕ) (x : ℕ) (into : Option ℕ) → ((q : ℕ) → in_row after q ≡ (is_given into q || in_row before q)) →
    Holds after (step.Make x into)
holds_given before after x None put = tt
holds_given before after x (Some y) put = put y ∙ rw (eq-eqb y y refl) refl

pub container-below : (rows : List (List (Option (List ℕ)))) (x : ℕ) (into : Option ℕ) → CanFollow rows (step.Make x into) →
    ((y : ℕ) → has rows y ≡ true → y < most) → IfSome into (λ y. y < most)
container-below rows x None possible bounded = tt
container-below rows x (Some y) possible bounded = bounded y possible.2
