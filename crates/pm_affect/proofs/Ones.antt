-- A pair with what was made or is gone lies in the region.
use Rattle.std.proofs.Common.{◌≡◌, ℕ, Bool, true, ◌==◌, sym, eq-eqb}
use Rattle.std.proofs.lemmas.Bool.{eqb-true, or_left, or_right}
use Rattle.pm_affect.specs.Affected.{is_in}
use Rattle.pm_affect.specs.Right.{is_one}
use Rattle.pm_affect.specs.declared.region.Region.{Region}
use Rattle.pm_affect.specs.declared.region.Region.TheVariants.{Nothing, One, Under, Between, Barred}

pub one-caps : (below : ℕ → ℕ → Bool) (region : Region) (v n : ℕ) → is_one region n ≡ true → is_in below region v n ≡ true
one-caps below Nothing v n is = absurd (cc)
one-caps below (One x) v n is = or_right (v == x) (n == x) (eq-eqb n x (sym (eqb-true x n is)))
one-caps below (Under x) v n is = absurd (cc)
one-caps below (Between x y) v n is = absurd (cc)
one-caps below (Barred p) v n is = absurd (cc)

pub one-entries : (below : ℕ → ℕ → Bool) (region : Region) (n e : ℕ) → is_one region n ≡ true → is_in below region n e ≡ true
one-entries below Nothing n e is = absurd (cc)
one-entries below (One x) n e is = or_left (n == x) (e == x) (eq-eqb n x (sym (eqb-true x n is)))
one-entries below (Under x) n e is = absurd (cc)
one-entries below (Between x y) n e is = absurd (cc)
one-entries below (Barred p) n e is = absurd (cc)
