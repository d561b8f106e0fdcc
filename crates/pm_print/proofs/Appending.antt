-- One write after another.
use Rattle.std.proofs.Common.{◌≡◌, ◌≤◌, ◌+◌, ℕ, List, ◌++◌, Ok, Err, Result, Vec, ◌∙◌, arith, append_assoc, refl, subst, sym}
use Rattle.std.specs.Prelude.{⊤}
use Rattle.std.proofs.lemmas.Grind.{common_steps}
use Rattle.std.specs.declared.alloc.Global.{Global}
use Rattle.pm_print.specs.Growth.{Adds, Appended}

-- what is appended to what was appended
pub appended-then : {E : Type 0} (first second third : Vec ℕ Global) (text more whole : List ℕ) (most further total : ℕ) →
    Appended {E = E} first second text most (Ok tt) → Appended {E = E} second third more further (Ok tt) →
    whole ≡ text ++ more → total ≡ most + further → Appended {E = E} first third whole total (Ok tt)
appended-then first second third text more whole most further total a b is sum =
    let done = a.ok in
    let next = b.ok in
    record {
      ok = rw is (next ∙ rw done (append_assoc first.items text more));
      front = grind (arith, common_steps);
      capacity = omega (arith, a.capacity, b.capacity);
      grown = omega (arith, a.grown, b.grown, sum);
      fits = λ h. refl;
    }

-- the text told in another way
pub adds-as : {E : Type 0} (old new : Vec ℕ Global) (text other : List ℕ) (result : Result ⊤ E) → other ≡ text → Adds old new text result → Adds old new other result
adds-as old new text other result same a = subst (λ (t : List ℕ). Adds old new t result) (sym same) a

-- where the second write fails
pub appended-failed : {E : Type 0} (e : E) (first second third : Vec ℕ Global) (text more whole : List ℕ) (most further total : ℕ) →
    Appended {E = E} first second text most (Ok tt) → Appended {E = E} second third more further (Err e) →
    most + further ≤ total → Appended {E = E} first third whole total (Err e)
appended-failed e first second third text more whole most further total a b fits =
    let done = a.ok in
    let next = b.front in
    record {
      ok = tt;
      front = grind (arith, common_steps);
      capacity = omega (arith, a.capacity, b.capacity);
      grown = tt;
      fits = λ h. b.fits (omega (arith, h, a.grown, a.capacity, fits));
    }
