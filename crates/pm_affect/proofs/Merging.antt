-- A row of pairs by rising number, merged with a list.
use Rattle.std.proofs.Common.{◌≡◌, ℕ, zero, suc, ◌+◌, ◌≤◌, ◌<◌, Bool, true, false, not, ◌&&◌, ◌==◌, nat_lt, List, [], ◌∷◌, ◌++◌, length, map, filter, Some, drop, slice_get, append_assoc, refl, sym, ap, ◌∙◌, subst, arith}
use Rattle.std.proofs.lemmas.Bool.{le-ltb, lt-ltb, ltb-true, ltb-false}
use Rattle.std.proofs.lemmas.Bool.Decides.{Decides-and, Decides-eqb, Decides-like}
use Rattle.std.proofs.lemmas.List.{drop_all}
use Rattle.std.specs.Bool.{Decides}
use Rattle.pm_model.proofs.Walks.{drop-item}
use Rattle.pm_model.specs.Reviews.{pair}
use Rattle.pm_model.specs.declared.reviews.Pair.{Pair}
use Rattle.pm_affect.specs.Lists.{IsInOrder, Listed, Rise}
use Rattle.pm_affect.specs.Puts.{elements_of, is_change, judged_pairs, put, put_across, put_all, put_at, rises, starts_lower, unless_empty, without_at}
use Rattle.pm_affect.proofs.Order.{same-pair}
use Rattle.pm_affect.proofs.Places.{rise-lower}
use Rattle.pm_affect.proofs.Puts.{put-order}

pub rises_rise : (low : ℕ) (ns : List ℕ) → rises low ns ≡ true → Rise low ns
rises_rise low [] is = tt
rises_rise low (n ∷ ns) is = go (nat_lt n low) refl (λ rest. rises_rise (n + 1) ns rest) is where
  go : (b : Bool) → nat_lt n low ≡ b → (rises (n + 1) ns ≡ true → Rise (n + 1) ns) → (not b && rises (n + 1) ns) ≡ true → Rise low (n ∷ ns)
  go true lower further is = absurd (cc)
  go false above further is = let least = ltb-false n low above in (omega (arith, least), further is)

module _ (row : List Pair) (n low : ℕ) (p : Pair) (at : slice_get row n ≡ Some p) where
  pub rises-lower : p.element < low → false ≡ rises low (elements_of (drop n row))
  rises-lower lower = rw (drop-item row n p at, lt-ltb p.element low lower) refl

  pub rises-next : low ≤ p.element → rises (p.element + 1) (elements_of (drop (n + 1) row)) ≡ rises low (elements_of (drop n row))
  rises-next least = rw (drop-item row n p at, le-ltb p.element low least) refl

pub put_all-order : (row ps : List Pair) → IsInOrder 0 ps → IsInOrder 0 (put_all row ps)
put_all-order [] ps h = h
put_all-order (q ∷ row) ps h = put_all-order row (put q.element q.rights ps) (put-order q.element q.rights 0 ps (omega arith) h)

-- ---- one more is put

pub put-more : (row : List Pair) (n : ℕ) (q : Pair) (before now whole : List Pair) → slice_get row n ≡ Some q → now ≡ put q.element q.rights before →
    put_all (drop n row) before ≡ whole → put_all (drop (n + 1) row) now ≡ whole
put-more row n q before now whole at more h = rw more (rw (drop-item row n q at) at h)

pub across-more : (u : ℕ) (row : List Pair) (n : ℕ) (q : Pair) (before now whole : List Listed) → slice_get row n ≡ Some q →
    now ≡ map (put_at q.element u q.rights) before → put_across u (drop n row) before ≡ whole → put_across u (drop (n + 1) row) now ≡ whole
across-more u row n q before now whole at more h = rw more (rw (drop-item row n q at) at h)

pub push-more : (ps : List Pair) (n : ℕ) (q : Pair) (before now whole : List Pair) → slice_get ps n ≡ Some q → now ≡ before ++ q ∷ [] →
    before ++ drop n ps ≡ whole → now ++ drop (n + 1) ps ≡ whole
push-more ps n q before now whole at more h = rw more (append_assoc before (q ∷ []) (drop (n + 1) ps) ∙ rw (drop-item ps n q at) at h)

pub judged-more : (rights : ℕ → ℕ) (es : List ℕ) (n e : ℕ) (before now whole : List Pair) → slice_get es n ≡ Some e → now ≡ before ++ pair e (rights e) ∷ [] →
    before ++ judged_pairs rights (drop n es) ≡ whole → now ++ judged_pairs rights (drop (n + 1) es) ≡ whole
judged-more rights es n e before now whole at more h =
    rw more (append_assoc before (pair e (rights e) ∷ []) (judged_pairs rights (drop (n + 1) es)) ∙ rw (drop-item es n e at) at h)

-- ---- changes are counted

module _ (ps row : List Pair) (n : ℕ) (q : Pair) (at : slice_get row n ≡ Some q) where
  pub change-more : is_change ps q ≡ true → length (filter (is_change ps) (drop n row)) ≡ length (filter (is_change ps) (drop (n + 1) row)) + 1
  change-more is = rw (drop-item row n q at, is) (omega arith)

  pub change-none : is_change ps q ≡ false → length (filter (is_change ps) (drop n row)) ≡ length (filter (is_change ps) (drop (n + 1) row))
  change-none is = rw (drop-item row n q at, is) refl

-- ---- two lists are compared

pub pair-decides : (p q : Pair) → Decides (p.element == q.element && p.rights == q.rights) (p ≡ q)
pair-decides p q = Decides-like (p.element == q.element && p.rights == q.rights) (λ h. same-pair p q h.0 h.1)
    (λ e. (ap (λ (p : Pair). p.element) e, ap (λ (p : Pair). p.rights) e))
    (Decides-and (p.element == q.element) (p.rights == q.rights) (Decides-eqb p.element q.element) (Decides-eqb p.rights q.rights))

-- ---- a pair that no pair of the row reaches

-- it stays the first
put_all-behind : (low : ℕ) (row : List Pair) (q : Pair) (ps : List Pair) → q.element < low → Rise low (elements_of row) →
    put_all row (q ∷ ps) ≡ q ∷ put_all row ps
put_all-behind low [] q ps below h = refl
put_all-behind low (p ∷ row) q ps below h =
    rw (lt-ltb q.element p.element (omega (arith, below, h.0)))
    (put_all-behind (p.element + 1) row q (put p.element p.rights ps) (omega (arith, below, h.0)) h.1)

put_all-unless : (n r : ℕ) (row ps : List Pair) → Rise (n + 1) (elements_of row) → put_all row (unless_empty n r ps) ≡ unless_empty n r (put_all row ps)
put_all-unless n r row ps h = go (r == 0) refl where
  go : (b : Bool) → (r == 0) ≡ b → put_all row (unless_empty n r ps) ≡ unless_empty n r (put_all row ps)
  go true is = rw is refl
  go false is = rw is (put_all-behind (n + 1) row (pair n r) ps (omega arith) h)

-- a pair put where nothing lower stands before
put-first : (n r : ℕ) (ps : List Pair) → starts_lower n ps ≡ false → put n r ps ≡ unless_empty n r (without_at n 0 ps)
put-first n r [] above = refl
put-first n r (p ∷ ps) above = go (p.element == n) refl where
  go : (b : Bool) → (p.element == n) ≡ b → put n r (p ∷ ps) ≡ unless_empty n r (without_at n 0 (p ∷ ps))
  go true at = rw (above, at) refl
  go false other = rw (above, other) refl

unless-append : (n r : ℕ) (all ps : List Pair) → (all ++ unless_empty n r []) ++ ps ≡ all ++ unless_empty n r ps
unless-append n r all ps = append_assoc all (unless_empty n r []) ps ∙ ap (λ l. all ++ l) (go (r == 0) refl) where
  go : (b : Bool) → (r == 0) ≡ b → unless_empty n r [] ++ ps ≡ unless_empty n r ps
  go true is = rw is refl
  go false is = rw is refl

-- ---- a step of the walk

row-drop : (low n : ℕ) (row : List Pair) → Rise low (elements_of row) → Rise 0 (elements_of (drop n row))
row-drop low n [] h = of n where
  of : (n : ℕ) → Rise 0 (elements_of (drop n []))
  of zero = tt
  of (suc n) = tt
row-drop low zero (p ∷ row) h = rise-lower low 0 (elements_of (p ∷ row)) (omega arith) h
row-drop low (suc n) (p ∷ row) h = row-drop (p.element + 1) n row h.1

row-rest : (row : List Pair) (n : ℕ) (p : Pair) → Rise 0 (elements_of row) → slice_get row n ≡ Some p → Rise (p.element + 1) (elements_of (drop (n + 1) row))
row-rest row n p h at =
    let both : Rise 0 (elements_of (p ∷ drop (n + 1) row)) = subst (λ l. Rise 0 (elements_of l)) (drop-item row n p at) (row-drop 0 n row h) in both.1

module _ (row ps : List Pair) (h : Rise 0 (elements_of row)) (n i : ℕ) (p : Pair) (at : slice_get row n ≡ Some p) (all whole : List Pair) where
  -- a lower pair of the list comes first
  pub merge-lower : (q : Pair) → slice_get ps i ≡ Some q → q.element < p.element → all ++ put_all (drop n row) (drop i ps) ≡ whole →
      (all ++ q ∷ []) ++ put_all (drop n row) (drop (i + 1) ps) ≡ whole
  merge-lower q is lower so_far =
      append_assoc all (q ∷ []) (put_all (drop n row) (drop (i + 1) ps)) ∙ ap (λ l. all ++ l) (sym first) ∙ so_far where
        least : Rise p.element (elements_of (p ∷ drop (n + 1) row))
        least = (omega arith, row-rest row n p h at)

        first : put_all (drop n row) (drop i ps) ≡ q ∷ put_all (drop n row) (drop (i + 1) ps)
        first = rw (drop-item ps i q is, drop-item row n p at) (put_all-behind p.element (p ∷ drop (n + 1) row) q (drop (i + 1) ps) lower least)

  -- else that of the row
  pub merge-row : (j : ℕ) → starts_lower p.element (drop i ps) ≡ false → drop j ps ≡ without_at p.element 0 (drop i ps) →
      all ++ put_all (drop n row) (drop i ps) ≡ whole → (all ++ unless_empty p.element p.rights []) ++ put_all (drop (n + 1) row) (drop j ps) ≡ whole
  merge-row j above past so_far =
      unless-append p.element p.rights all (put_all (drop (n + 1) row) (drop j ps)) ∙ ap (λ l. all ++ l) (sym first) ∙ so_far where
        first : put_all (drop n row) (drop i ps) ≡ unless_empty p.element p.rights (put_all (drop (n + 1) row) (drop j ps))
        first = rw (drop-item row n p at, past)
            (ap (put_all (drop (n + 1) row)) (put-first p.element p.rights (drop i ps) above)
            ∙ put_all-unless p.element p.rights (drop (n + 1) row) (without_at p.element 0 (drop i ps)) (row-rest row n p h at))

-- ---- what stands at a place

module _ (ps : List Pair) (i n : ℕ) where
  pub starts-at : (p : Pair) → slice_get ps i ≡ Some p → nat_lt p.element n ≡ starts_lower n (drop i ps)
  starts-at p at = rw (drop-item ps i p at) refl

  pub past-here : (p : Pair) → slice_get ps i ≡ Some p → (p.element == n) ≡ true → drop (i + 1) ps ≡ without_at n 0 (drop i ps)
  past-here p at here = rw (drop-item ps i p at, here) refl

  pub past-other : (p : Pair) → slice_get ps i ≡ Some p → (p.element == n) ≡ false → drop i ps ≡ without_at n 0 (drop i ps)
  past-other p at other = rw (drop-item ps i p at, other) refl

  pub past-end : length ps ≤ i → drop i ps ≡ without_at n 0 (drop i ps)
  past-end past = rw (drop_all i ps past) refl

  pub first-lower : (p : Pair) → slice_get ps i ≡ Some p → starts_lower n (drop i ps) ≡ true → p.element < n
  first-lower p at is = ltb-true p.element n (starts-at p at ∙ is)
