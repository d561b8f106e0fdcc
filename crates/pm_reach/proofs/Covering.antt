-- The unions of pages: which pages are passed by, and that each change leaves them with all that the rows have.
use Rattle.std.proofs.Common.{◌≡◌, ◌≢◌, ◌/◌, ℕ, Bool, true, false, not, List, ◌∷◌, Option, Some, None, refl, sym, ◌∙◌, ◌||◌, ◌&&◌, ◌==◌, inl, inr}
use Rattle.std.proofs.lemmas.Bool.{true≢false, cases_eq, eqb-true, false_from_ne_true}
use Rattle.pm_reach.specs.Rows.{place_at, has, below}
use Rattle.pm_reach.specs.Changes.{TellContainment, Makes, Assigns, Deassigns, Removes}
use Rattle.pm_reach.specs.Unions.{AreUnions, Keeps, Cover}
use Rattle.pm_reach.specs.declared.step.Step.TheVariants as step
use Rattle.pm_reach.proofs.Orders.{or-cases, and-both, less-contained}
use Rattle.pm_reach.proofs.Openings.{below-none}
use Rattle.pm_reach.proofs.Passing.{has_below, same_below}

-- ---- a page that is passed by

pub union_lacks : (unions rows : List (List (Option (List ℕ)))) (k y : ℕ) → AreUnions unions rows → below unions k y ≡ false →
    (x : ℕ) → x / 64 ≡ k → below rows x y ≡ false
unfolding AreUnions
union_lacks unions rows k y are lacks x at = false_from_ne_true (below rows x y) (λ is. true≢false (sym (are x y is) ∙ rw at lacks))

-- ---- a union that gets what another row has

pub keeps_unions : (unions new rows : List (List (Option (List ℕ)))) → Keeps unions new → AreUnions unions rows → AreUnions new rows
unfolding AreUnions
keeps_unions unions new rows keeps are = λ p q h. keeps (p / 64) q (are p q h)

module _ (old new : List (List (Option (List ℕ)))) (k : ℕ) (others : (p : ℕ) → p ≢ k → place_at new p ≡ place_at old p) where
  pub begun_keeps : has old k ≡ false → Keeps old new
  begun_keeps none p q h = elim (cases_eq p k) [
    | inl e ↦ absurd (true≢false (sym h ∙ rw e (below-none old k none q)))
    | inr ne ↦ same_below (others p ne) q ∙ h
  ]

  pub joined_keeps : (more : ℕ → Bool) → ((q : ℕ) → below new k q ≡ (below old k q || more q)) → Keeps old new
  joined_keeps more row p q h = elim (cases_eq p k) [
    | inl e ↦ rw e (row q ∙ rw (rw e at h) refl)
    | inr ne ↦ same_below (others p ne) q ∙ h
  ]

pub joined_has : (a b c : Bool) → a ≡ (b || c) → c ≡ true → a ≡ true
joined_has a true c e h = e
joined_has a false c e h = e ∙ h

-- ---- the unions, after a change of the rows

pub less_unions : (unions old new : List (List (Option (List ℕ)))) → ((p q : ℕ) → below new p q ≡ true → below old p q ≡ true) →
    AreUnions unions old → AreUnions unions new
unfolding AreUnions
less_unions unions old new less are = λ p q h. are p q (less p q h)

pub assigns_unions : (unions old new : List (List (Option (List ℕ)))) (x y : ℕ) → AreUnions unions old → Cover unions old (step.Assign x y) →
    Assigns x y old new → AreUnions unions new
unfolding AreUnions
assigns_unions unions old new x y are covered a = λ p q h.
    elim (or-cases (below old p q) (below old p x && below old y q) (sym (a.related p q) ∙ h)) [
      | inl l ↦ are p q l
      | inr r ↦ let b = and-both (below old p x) (below old y q) r in covered p q b.0 b.1
    ]

pub makes_unions : (unions old new : List (List (Option (List ℕ)))) (x : ℕ) (into : Option ℕ) → AreUnions unions old → Cover unions old (step.Make x into) →
    Makes x into old new → AreUnions unions new
unfolding AreUnions
makes_unions unions old new x None are covered m = λ p q h.
    elim (or-cases (below old p q) (p == x && q == x) (sym (m.related p q) ∙ h)) [
      | inl l ↦ are p q l
      | inr r ↦ let b = and-both (p == x) (q == x) r in rw (eqb-true p x b.0) (covered q b.1)
    ]
makes_unions unions old new x (Some y) are covered m = λ p q h.
    elim (or-cases (below old p q) (p == x && (q == x || below old y q)) (sym (m.related p q) ∙ h)) [
      | inl l ↦ are p q l
      | inr r ↦ let b = and-both (p == x) (q == x || below old y q) r in rw (eqb-true p x b.0) (covered q b.1)
    ]

pub deassigns_unions : (assigned : List (ℕ × ℕ)) (unions old new : List (List (Option (List ℕ)))) (x y : ℕ) →
    TellContainment ((x, y) ∷ assigned) old → Deassigns x assigned old new → AreUnions unions old → AreUnions unions new
deassigns_unions assigned unions old new x y was d are =
    less_unions unions old new (λ p q h.
    let there = has_below new p q h in
    less-contained assigned old x y was p q (sym (d.live p) ∙ there) (sym (d.related p q there) ∙ h)) are

pub removes_unions : (unions old new : List (List (Option (List ℕ)))) (x : ℕ) → Removes x old new → AreUnions unions old → AreUnions unions new
removes_unions unions old new x r are =
    less_unions unions old new (λ p q h. (and-both (not (p == x)) (below old p q) (sym (r.related p q) ∙ h)).1) are
