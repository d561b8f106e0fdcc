use Rattle.std.proofs.Common.{◌≡◌, ◌&&◌, ◌==◌, ◌-◌, ℕ, not, false, take, vec_len}
use Rattle.pm_model.specs.Grants.{is_told}
use Rattle.pm_model.proofs.grants.clear.Given as goal

-- of other numbers the words tell the same, and none up to here has this one
abbrev pub invariant-loop-i : goal.invariant-loop-i
invariant-loop-i l = record {
  others : (n : ℕ) → (is_told l.places.items n && not (n == l.number)) ≡ (is_told l.fn.places.items n && not (n == l.number));
  none : is_told (take l.i l.places.items) l.number ≡ false;
}

abbrev pub decreases-loop-i : goal.decreases-loop-i
decreases-loop-i l = vec_len l.places - l.i
