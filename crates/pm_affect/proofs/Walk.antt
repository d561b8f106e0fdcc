-- Pairs put one piece after another.
use Rattle.std.proofs.Common.{◌≡◌, ℕ, suc, ◌+◌, List, [], ◌∷◌, ◌++◌, length, map, drop, slice_get, Some, Bool, true, false, ◌==◌, ◌&&◌, All, refl, sym, ap, ◌∙◌, subst, arith, length-append, ◌<◌, ◌≤◌, ◌*◌, append-nil}
use Rattle.std.proofs.lemmas.Bool.{cond_both}
use Rattle.std.proofs.lemmas.List.{drop_all, length-map}
use Rattle.std.proofs.lemmas.List.Elements.{filter-append}
use Rattle.std.proofs.lemmas.Option.{get_or_from_slice_get, slice_get_within}
use Rattle.pm_laws.proofs.Items.{length-filter}
use Rattle.pm_model.proofs.Walks.{drop-item}
use Rattle.pm_model.specs.Reviews.{pair}
use Rattle.pm_model.specs.declared.reviews.Pair.{Pair}
use Rattle.pm_affect.specs.Judged.{judged, pairs_of}
use Rattle.pm_affect.specs.Lists.{Listed, Lists, subjects}
use Rattle.pm_affect.specs.Puts.{judged_pairs, put_all_at, put_at, put_each, with_put, with_rights, with_row}
use Rattle.pm_affect.specs.Rows.{with_each}

-- ---- what lists are of stays

put_at-subject : (s n r : ℕ) (k : Listed) → (put_at s n r k).subject ≡ k.subject
put_at-subject s n r k = cond_both (k.subject == s) (with_put n r k) k (λ (l : Listed). l.subject ≡ k.subject) (λ is. refl) (λ is. refl)

put_at-subjects : (s n r : ℕ) (ks : List Listed) → subjects (map (put_at s n r) ks) ≡ subjects ks
put_at-subjects s n r [] = refl
put_at-subjects s n r (k ∷ ks) = rw (put_at-subject s n r k, put_at-subjects s n r ks) refl

-- ---- a row into one list

none_put : (u : ℕ) (ks : List Listed) → ks ≡ map (put_all_at u []) ks
none_put u [] = refl
none_put u (k ∷ ks) = rw (← none_put u ks) (ap (λ l. l ∷ ks) (cond_both (k.subject == u) k k (λ (l : Listed). k ≡ l) (λ is. refl) (λ is. refl)))

one_put : (u e r : ℕ) (row : List Pair) (ks : List Listed) → map (put_all_at u row) (map (put_at u e r) ks) ≡ map (put_all_at u (pair e r ∷ row)) ks
one_put u e r row [] = refl
one_put u e r row (k ∷ ks) = rw (one_put u e r row ks) (ap (λ l. l ∷ map (put_all_at u (pair e r ∷ row)) ks) (go (k.subject == u) refl)) where
  go : (b : Bool) → (k.subject == u) ≡ b → put_all_at u row (put_at u e r k) ≡ put_all_at u (pair e r ∷ row) k
  go true is = rw (is, is) refl
  go false is = rw (is, is) refl

module _ (rights : ℕ → ℕ → ℕ) where
  pub put-caps : (qs : List (ℕ × ℕ)) (L : Lists) → subjects (put_each rights qs L).caps ≡ subjects L.caps
  put-caps [] L = refl
  put-caps (q ∷ qs) L = put-caps qs (with_rights q.0 q.1 (rights q.0 q.1) L) ∙ put_at-subjects q.0 q.1 (rights q.0 q.1) L.caps

  pub put-entries : (qs : List (ℕ × ℕ)) (L : Lists) → subjects (put_each rights qs L).entries ≡ subjects L.entries
  put-entries [] L = refl
  put-entries (q ∷ qs) L = put-entries qs (with_rights q.0 q.1 (rights q.0 q.1) L) ∙ put_at-subjects q.1 q.0 (rights q.0 q.1) L.entries

  pub put-asked : (qs : List (ℕ × ℕ)) (L : Lists) → (put_each rights qs L).asked ≡ L.asked
  put-asked [] L = refl
  put-asked (q ∷ qs) L = put-asked qs (with_rights q.0 q.1 (rights q.0 q.1) L)

  put-more : (ps qs : List (ℕ × ℕ)) (L : Lists) → put_each rights qs (put_each rights ps L) ≡ put_each rights (ps ++ qs) L
  put-more [] qs L = refl
  put-more (p ∷ ps) qs L = put-more ps qs (with_rights p.0 p.1 (rights p.0 p.1) L)

  -- the pairs of a row one after another, and as a row
  pub row_put : (u : ℕ) (es : List ℕ) (L : Lists) → with_row u (judged_pairs (rights u) es) L ≡ put_each rights (with_each u es) L
  row_put u [] L = ap (λ ks. record L { caps = ks }) (sym (none_put u L.caps))
  row_put u (e ∷ es) L =
      let next = with_rights u e (rights u e) L in
      ap (λ ks. record (with_row u (judged_pairs (rights u) es) next) { caps = ks }) (sym (one_put u e (rights u e) (judged_pairs (rights u) es) L.caps)) ∙ row_put u es next

  -- one piece more is put, of what is left
  pub one-more : (piece rest left : List (ℕ × ℕ)) (before now whole : Lists) → left ≡ piece ++ rest →
      now ≡ put_each rights piece before → put_each rights left before ≡ whole → put_each rights rest now ≡ whole
  one-more piece rest left before now whole split put h = rw put (put-more piece rest before ∙ ap (λ ps. put_each rights ps before) (sym split) ∙ h)

-- and so do the counts
pub count-more : (piece rest left : List (ℕ × ℕ)) (before now whole : ℕ) → left ≡ piece ++ rest → now ≡ before + length piece →
    before + length left ≡ whole → now + length rest ≡ whole
count-more piece rest left before now whole split more h =
    let parts = length-append piece rest in
    let same : length left ≡ length (piece ++ rest) = ap (λ (ps : List (ℕ × ℕ)). length ps) split in omega (arith, parts, same, more, h)

pub room-for : (piece rest left : List (ℕ × ℕ)) (now whole : ℕ) → left ≡ piece ++ rest → now + length left ≡ whole → whole < 18446744073709551616 →
    now + length piece < 18446744073709551616
room-for piece rest left now whole split h room =
    let parts = length-append piece rest in
    let same : length left ≡ length (piece ++ rest) = ap (λ (ps : List (ℕ × ℕ)). length ps) split in omega (arith, parts, same, h, room)

-- ---- the pieces

module _ (inside scope : ℕ → ℕ → Bool) where
  pub judged-split : (us es : List ℕ) (i u : ℕ) → slice_get us i ≡ Some u →
      judged inside scope (drop i us) es ≡ judged inside scope (u ∷ []) es ++ judged inside scope (drop (i + 1) us) es
  judged-split us es i u at = rw (drop-item us i u at, append-nil {A = ℕ × ℕ} (with_each u es))
      (filter-append (λ (p : ℕ × ℕ). inside p.0 p.1 && scope p.0 p.1) (with_each u es) (pairs_of (drop (i + 1) us) es))

  pub judged-end : (us es : List ℕ) (i : ℕ) → length us ≤ i → judged inside scope (drop i us) es ≡ []
  judged-end us es i past = rw (drop_all i us past) refl

  pairs-few : (us es : List ℕ) → length (pairs_of us es) ≡ length us * length es
  pairs-few [] es = omega arith
  pairs-few (u ∷ us) es =
      let rest = pairs-few us es in
      let parts = length-append (with_each u es) (pairs_of us es) in
      let same = length-map {B = ℕ × ℕ} es (λ e. (u, e)) in of (length us) (length es) _ _ _ rest parts same where
        of : (m n a b c : ℕ) → b ≡ m * n → c ≡ a + b → a ≡ n → c ≡ suc m * n
        of m n a b c rest parts same = rw (parts, rest, same) (grind arith)

  pub judged-few : (us es : List ℕ) → length (judged inside scope us es) ≤ length us * length es
  judged-few us es =
      let all = pairs-few us es in
      let fewer = length-filter (λ (p : ℕ × ℕ). inside p.0 p.1 && scope p.0 p.1) (pairs_of us es) in omega (arith, all, fewer)

-- what holds of all holds of one
pub all-at : (P : ℕ → Type 0) (xs : List ℕ) (i x : ℕ) → All P xs → slice_get xs i ≡ Some x → P x
all-at P xs i x h is = subst P (get_or_from_slice_get xs i x x is) (h i x (slice_get_within xs i x is))
