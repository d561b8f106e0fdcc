-- The marks and the first elements of the queue.
use Rattle.std.proofs.Common.{◌≡◌, ℕ, suc, ◌<◌, Bool, true, false, List, [], ◌∷◌, ◌==◌, length, get_or, take, inl, inr, sym, ◌∙◌, arith}
use Rattle.std.proofs.lemmas.List.{get_or_past}
use Rattle.std.proofs.lemmas.List.Folds.{list_any_at}
use Rattle.std.proofs.lemmas.Bool.{false≢true, cases_lt}
use Rattle.std.proofs.lemmas.Bool.Decides.{eqb_tells}
use Rattle.std.specs.List.{list_any}
use Rattle.pm_search.specs.Marks.{MarksQueued}

same_number : (n z : ℕ) → n ≡ z → (n == z) ≡ true
same_number n z is = elim (eqb_tells n z) [ inl e ↦ e.0 | inr ne ↦ absurd (ne.1 is) ]

-- an element of the list is found
pub any-at : (xs : List ℕ) (k z : ℕ) → k < length xs → get_or xs k 0 ≡ z → list_any (λ n. n == z) xs ≡ true
any-at xs k z below is = list_any_at (λ n. n == z) xs k 0 below (same_number _ z is)

-- what is found is an element of the list
pub any-found : (xs : List ℕ) (z : ℕ) → list_any (λ n. n == z) xs ≡ true → (k : ℕ) × (k < length xs) × (get_or xs k 0 ≡ z)
any-found [] z h = absurd (false≢true h)
any-found (x ∷ xs) z h = elim (eqb_tells x z) [
  | inl e ↦ (0, omega arith, e.1)
  | inr ne ↦ let r = any-found xs z (rw ne.0 at h) in (suc r.0, omega (arith, r.1), r.2)
]

-- a number that is marked has a mark
marked-below : (marks : List Bool) (z : ℕ) → get_or marks z false ≡ true → z < length marks
marked-below marks z h = elim (cases_lt z (length marks)) [
  | inl below ↦ below
  | inr past ↦ absurd (false≢true (sym (get_or_past marks z false past) ∙ h))
]

pub queued-below : (marks : List Bool) (queue : List ℕ) (end i n : ℕ) → MarksQueued marks queue end →
    i < length (take end queue) → get_or (take end queue) i 0 ≡ n → n < length marks
queued-below marks queue end i n queued below is = marked-below marks n (queued n ∙ any-at (take end queue) i n below is)
