-- The next association of a list that has the right and is on what contains the element: none before it gives the right in any
-- class, and it does in those that what it is on is in.
use Rattle.std.proofs.Common.{◌≡◌, ℕ, suc, ◌+◌, ◌<◌, ◌||◌, Bool, true, false, List, [], ◌∷◌, drop, length, Option, Some, None, IfSome, slice_get, refl, sym, ap, ◌∙◌, arith, ◌⊎◌, inl, inr}
use Rattle.std.specs.List.{list_any, position_from}
use Rattle.std.proofs.lemmas.Option.{same_Some, slice_get_within}
use Rattle.pm_model.specs.declared.rights.Grant.{Grant}
use Rattle.pm_decide.specs.Gives.{gives, is_on}

module _ (below : ℕ → ℕ → Bool) (r e : ℕ) where
  abbrev on : Grant → Bool
  on = is_on below r e

  -- the association stands at the place i, and what the list gives is what it and those behind it give
  record IsNext (hs : List Grant) (i : ℕ) (h : Grant) : Type 0 where
    pub there : slice_get hs i ≡ Some h
    pub gives_rest : (pc : ℕ) → list_any (gives below r e pc) hs ≡ (below h.at pc || list_any (gives below r e pc) (drop (i + 1) hs))

  -- none, or the next, at its place counted from n
  abbrev IsWalked : ℕ → List Grant → Type 0
  IsWalked n hs =
      ((position_from on n hs ≡ None) × ((pc : ℕ) → list_any (gives below r e pc) hs ≡ false))
      ⊎ ((i : ℕ) × (h : Grant) × (position_from on n hs ≡ Some (n + i)) × IsNext hs i h)

  walked : (n : ℕ) (hs : List Grant) → IsWalked n hs
  walked n [] = inl (refl, λ pc. refl)
  walked n (x ∷ hs) = by_test (on x) refl (walked (n + 1) hs) where
    by_test : (b : Bool) → on x ≡ b → IsWalked (n + 1) hs → IsWalked n (x ∷ hs)
    by_test true is rest = inr (0, x, rw is (ap Some (omega arith)), record { there = refl; gives_rest = λ pc. rw is refl })
    by_test false is (inl rest) = inl (rw is rest.0, λ pc. rw is (rest.1 pc))
    by_test false is (inr rest) =
        let up : suc (rest.0 + 1) ≡ suc rest.0 + 1 = omega arith in
        inr (
          suc rest.0,
          rest.1,
          rw is (rest.2 ∙ ap Some (omega arith)),
          record {
            there = rest.3.there;
            gives_rest = λ pc. rw is (rest.3.gives_rest pc ∙ ap (λ k. below rest.1.at pc || list_any (gives below r e pc) (drop k (x ∷ hs))) up);
          },
        )

  pub next-none : (hs : List Grant) → None ≡ position_from on 0 hs → (pc : ℕ) → false ≡ list_any (gives below r e pc) hs
  next-none hs is pc = by_walk (walked 0 hs) where
    by_walk : IsWalked 0 hs → false ≡ list_any (gives below r e pc) hs
    by_walk (inl none) = sym (none.1 pc)
    by_walk (inr some) = let no : None ≡ Some (0 + some.0) = is ∙ some.2 in cc

  next-at : (hs : List Grant) (i : ℕ) → Some i ≡ position_from on 0 hs → (h : Grant) × IsNext hs i h
  next-at hs i is = by_walk (walked 0 hs) where
    by_walk : IsWalked 0 hs → (h : Grant) × IsNext hs i h
    by_walk (inl none) = let no : Some i ≡ None = is ∙ none.0 in cc
    by_walk (inr some) =
        let place : 0 + some.0 ≡ i = same_Some (0 + some.0) i (sym some.2 ∙ sym is) in
        let same : some.0 ≡ i = omega (arith, place) in (some.1, rw same at some.3)

  pub next-gives : (hs : List Grant) (i : ℕ) (h : Grant) → Some i ≡ position_from on 0 hs → slice_get hs i ≡ Some h → (pc : ℕ) →
      list_any (gives below r e pc) hs ≡ (below h.at pc || list_any (gives below r e pc) (drop (i + 1) hs))
  next-gives hs i h is there pc =
      let next = next-at hs i is in
      let same : next.0 ≡ h = same_Some next.0 h (sym next.1.there ∙ there) in
      rw same at (next.1.gives_rest pc)

  pub next_within : (hs : List Grant) (o : Option ℕ) → o ≡ position_from on 0 hs → IfSome o (λ i. i < length hs)
  next_within hs None is = tt
  next_within hs (Some i) is = let next = next-at hs i is in slice_get_within hs i next.0 next.1.there
