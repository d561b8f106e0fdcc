-- One more association, at its place in the list.
use Rattle.std.proofs.Common.{◌≡◌, ◌+◌, List, [], ◌∷◌, length, Bool, true, false, nat_lt, refl, arith}
use Rattle.pm_model.specs.Effect.{joined}
use Rattle.pm_model.specs.declared.rights.Association.{Association}

pub length-joined : (a : Association) (bs : List Association) → length (joined a bs) ≡ length bs + 1
length-joined a [] = omega arith
length-joined a (b ∷ bs) = either (length-joined a bs) (nat_lt a.ua b.ua) refl where
  either : length (joined a bs) ≡ length bs + 1 → (t : Bool) → nat_lt a.ua b.ua ≡ t → length (joined a (b ∷ bs)) ≡ length (b ∷ bs) + 1
  either rest true is = rw is (omega arith)
  either rest false is = rw is (omega (arith, rest))
