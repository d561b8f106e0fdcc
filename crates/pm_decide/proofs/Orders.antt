-- Tests that are asked in another order than the definition has.
use Rattle.std.proofs.Common.{◌≡◌, Bool, true, false, ◌&&◌, refl}

pub right_first : (applies has ranges : Bool) → (has && applies && ranges) ≡ (applies && (has && ranges))
right_first true true c = refl
right_first true false c = refl
right_first false true c = refl
right_first false false c = refl
