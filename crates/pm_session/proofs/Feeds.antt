-- Bytes with a line feed and without.
use Rattle.std.proofs.Common.{◌≡◌, ◌≢◌, inl, inr, ⊎_elim, ℕ, List, [], ◌∷◌, ◌++◌, replicate, false, ◌==◌, refl, arith, zero, suc}
use Rattle.std.proofs.lemmas.Bool.{eq-eqb}
use Rattle.std.proofs.lemmas.Bool.Decides.{eqb_tells}
use Rattle.std.proofs.lemmas.List.Elements.{Contains-append_right, Contains-append_cases, Contains-push_cases}
use Rattle.pm_session.specs.Cuts.{HasNoFeed}

-- a test for equality fails where the numbers differ
apart-eqb : (a b : ℕ) → a ≢ b → (a == b) ≡ false
apart-eqb a b apart = elim (eqb_tells a b) [ inl p ↦ absurd (apart p.1) | inr p ↦ p.0 ]

-- and where it fails they do
eqb-apart : (a b : ℕ) → (a == b) ≡ false → a ≢ b
eqb-apart a b apart same = let yes = eq-eqb a b same in cc

-- in no bytes there is no line feed
pub HasNoFeed-nil : HasNoFeed []
HasNoFeed-nil found = let low = found.1 in absurd (omega arith)

-- the first byte of such bytes is no line feed
pub HasNoFeed-head : (c : ℕ) (cs : List ℕ) → HasNoFeed (c ∷ cs) → (c == 10) ≡ false
HasNoFeed-head c cs plain = apart-eqb c 10 (λ same. plain (0, omega arith, same))

-- nor is one behind it
pub HasNoFeed-tail : (c : ℕ) (cs : List ℕ) → HasNoFeed (c ∷ cs) → HasNoFeed cs
HasNoFeed-tail c cs plain found = plain (Contains-append_right (c ∷ []) cs 10 found)

-- nor comes one with a further byte that is none
pub HasNoFeed-push : (cs : List ℕ) (c : ℕ) → HasNoFeed cs → (c == 10) ≡ false → HasNoFeed (cs ++ c ∷ [])
HasNoFeed-push cs c plain apart found =
    ⊎_elim plain (eqb-apart c 10 apart) (Contains-push_cases cs c 10 found)

-- or with such a byte before them
pub HasNoFeed-cons : (c : ℕ) (cs : List ℕ) → (c == 10) ≡ false → HasNoFeed cs → HasNoFeed (c ∷ cs)
HasNoFeed-cons c cs apart plain found =
    ⊎_elim (HasNoFeed-push [] c HasNoFeed-nil apart) plain (Contains-append_cases (c ∷ []) cs 10 found)

-- or with spaces
pub HasNoFeed-spaces : (n : ℕ) → HasNoFeed (replicate n 32)
HasNoFeed-spaces zero = HasNoFeed-nil
HasNoFeed-spaces (suc n) = HasNoFeed-cons 32 (replicate n 32) refl (HasNoFeed-spaces n)
