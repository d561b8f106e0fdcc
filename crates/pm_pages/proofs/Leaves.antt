-- Rows of lists in leaves: which may be written, what a change of a leaf does to the lists, and where an item of them stands.
use Rattle.std.proofs.Common.{◌≡◌, ◌<◌, ◌≤◌, ℕ, zero, suc, ◌+◌, ◌-◌, ◌*◌, ◌/◌, ◌%◌, Bool, true, false, ◌&&◌, List, [], ◌∷◌, ◌++◌, length, map, set, drop, insert, unwrap_or, slice_get, Option, Some, None, inl, inr, refl, sym, ap, subst, ◌∙◌, arith, length-append, Result, Ok, Err, OnOk, OnErr}
use Rattle.std.specs.List.{flat_map, list_all}
use Rattle.std.proofs.lemmas.Bool.{and_parts, cases_eq}
use Rattle.std.proofs.lemmas.List.{length-map}
use Rattle.std.proofs.lemmas.List.Edits.{length-insert}
use Rattle.std.proofs.lemmas.Option.{same_Some, none-some, slice_get_within}
use Rattle.pm_pages.specs.Leaves.{AreFull, Leaved, all_in, both_own, held, is_own_leaf, marks_in}
use Rattle.pm_pages.specs.Listed.{edited, list_at, IsSpot}
use Rattle.pm_pages.specs.Paged.{Keeps, Paged}
use Rattle.pm_pages.proofs.Changed.{pushed-last}
use Rattle.pm_pages.proofs.Spots.{get-left, get-right}

pub some-true : {A : Type 0} → Some false ≡ Some true → A
some-true h = absurd (grind (arith, same_Some false true h))

behind-first : (ms : List Bool) (k : ℕ) → slice_get (drop 1 ms) k ≡ slice_get ms (suc k)
behind-first [] k = refl
behind-first (m ∷ ms) k = refl

true-mark : (o : Option Bool) → Some (unwrap_or o false) ≡ Some true → o ≡ Some true
true-mark None h = some-true h
true-mark (Some b) h = h

module _ {T : Type 0} where
  -- ---- which lists may be written

  pub own-page-of : (ls : List (Leaved T)) (ms : List Bool) (k : ℕ) → slice_get (both_own ls ms) k ≡ Some true → slice_get ms k ≡ Some true
  own-page-of [] ms k h = absurd (none-some true h)
  own-page-of (l ∷ ls) [] zero h = some-true h
  own-page-of (l ∷ ls) [] (suc k) h = own-page-of ls [] k h
  own-page-of (l ∷ ls) (m ∷ ms) zero h = ap Some (and_parts l.own m (same_Some (l.own && m) true h)).1
  own-page-of (l ∷ ls) (m ∷ ms) (suc k) h = own-page-of ls ms k h

  pub own-leaf-of : (ls : List (Leaved T)) (ms : List Bool) (k : ℕ) (l : Leaved T) → slice_get (both_own ls ms) k ≡ Some true → slice_get ls k ≡ Some l → l.own ≡ true
  own-leaf-of [] ms k l h is = absurd (none-some true h)
  own-leaf-of (x ∷ ls) [] zero l h is = some-true h
  own-leaf-of (x ∷ ls) [] (suc k) l h is = own-leaf-of ls [] k l h is
  own-leaf-of (x ∷ ls) (m ∷ ms) zero l h is = ap (λ (y : Leaved T). y.own) (sym (same_Some x l is)) ∙ (and_parts x.own m (same_Some (x.own && m) true h)).0
  own-leaf-of (x ∷ ls) (m ∷ ms) (suc k) l h is = own-leaf-of ls ms k l h is

  pub leaf-there : (ls : List (Leaved T)) (ms : List Bool) (k : ℕ) → slice_get (both_own ls ms) k ≡ Some true → (l : Leaved T) × (slice_get ls k ≡ Some l)
  leaf-there [] ms k h = absurd (none-some true h)
  leaf-there (x ∷ ls) [] zero h = some-true h
  leaf-there (x ∷ ls) [] (suc k) h = leaf-there ls [] k h
  leaf-there (x ∷ ls) (m ∷ ms) zero h = (x, refl)
  leaf-there (x ∷ ls) (m ∷ ms) (suc k) h = leaf-there ls ms k h

  pub own-both : (ls : List (Leaved T)) (ms : List Bool) (k : ℕ) (l : Leaved T) → slice_get ms k ≡ Some true → slice_get ls k ≡ Some l → l.own ≡ true → slice_get (both_own ls ms) k ≡ Some true
  own-both [] ms k l page is own = absurd (none-some l is)
  own-both (x ∷ ls) [] k l page is own = absurd (none-some true page)
  own-both (x ∷ ls) (m ∷ ms) zero l page is own = rw (same_Some x l is, own, same_Some m true page) refl
  own-both (x ∷ ls) (m ∷ ms) (suc k) l page is own = own-both ls ms k l page is own

  set-leaf : (ls : List (Leaved T)) (k i : ℕ) (l new : Leaved T) → slice_get ls i ≡ Some l → l.own ≡ true → new.own ≡ true → (m : Leaved T) × (slice_get (set ls k new) i ≡ Some m) × (m.own ≡ true)
  set-leaf [] k i l new is own is_own = absurd (none-some l is)
  set-leaf (x ∷ ls) zero zero l new is own is_own = (new, refl, is_own)
  set-leaf (x ∷ ls) zero (suc i) l new is own is_own = (l, is, own)
  set-leaf (x ∷ ls) (suc k) zero l new is own is_own = (l, is, own)
  set-leaf (x ∷ ls) (suc k) (suc i) l new is own is_own = set-leaf ls k i l new is own is_own

  -- a leaf that is replaced by one of the row's own
  pub keeps-set : (ls : List (Leaved T)) (ms ns : List Bool) (k : ℕ) (new : Leaved T) → new.own ≡ true → ((i : ℕ) → slice_get ms i ≡ Some true → slice_get ns i ≡ Some true)
      → (i : ℕ) → slice_get (both_own ls ms) i ≡ Some true → slice_get (both_own (set ls k new) ns) i ≡ Some true
  keeps-set ls ms ns k new own keeps i h =
      let there = leaf-there ls ms i h in
      let after = set-leaf ls k i there.0 new there.1 (own-leaf-of ls ms i there.0 h there.1) own in
      own-both (set ls k new) ns i after.0 (keeps i (own-page-of ls ms i h)) after.1 after.2

  pub keeps-pages : (ls : List (Leaved T)) (ms ns : List Bool) → ((i : ℕ) → slice_get ms i ≡ Some true → slice_get ns i ≡ Some true)
      → (i : ℕ) → slice_get (both_own ls ms) i ≡ Some true → slice_get (both_own ls ns) i ≡ Some true
  keeps-pages ls ms ns keeps i h =
      let there = leaf-there ls ms i h in
      own-both ls ns i there.0 (keeps i (own-page-of ls ms i h)) there.1 (own-leaf-of ls ms i there.0 h there.1)

  more-leaf : (ls : List (Leaved T)) (new : Leaved T) (i : ℕ) (l : Leaved T) → slice_get ls i ≡ Some l → slice_get (ls ++ new ∷ []) i ≡ Some l
  more-leaf ls new i l is = get-left ls (new ∷ []) i (slice_get_within ls i l is) ∙ is

  pub keeps-more : (ls : List (Leaved T)) (ms ns : List Bool) (new : Leaved T) → ((i : ℕ) → slice_get ms i ≡ Some true → slice_get ns i ≡ Some true)
      → (i : ℕ) → slice_get (both_own ls ms) i ≡ Some true → slice_get (both_own (ls ++ new ∷ []) ns) i ≡ Some true
  keeps-more ls ms ns new keeps i h =
      let there = leaf-there ls ms i h in
      own-both (ls ++ new ∷ []) ns i there.0 (keeps i (own-page-of ls ms i h)) (more-leaf ls new i there.0 there.1) (own-leaf-of ls ms i there.0 h there.1)

  pub own-set : (ls : List (Leaved T)) (ns : List Bool) (k : ℕ) (new : Leaved T) → k < length ls → slice_get ns k ≡ Some true → new.own ≡ true → slice_get (both_own (set ls k new) ns) k ≡ Some true
  own-set ls ns k new h page own = own-both (set ls k new) ns k new page (set-there ls k new h) own where
    set-there : (ls : List (Leaved T)) (k : ℕ) (new : Leaved T) → k < length ls → slice_get (set ls k new) k ≡ Some new
    set-there [] k new h = absurd (omega (arith, h))
    set-there (x ∷ ls) zero new h = refl
    set-there (x ∷ ls) (suc k) new h = set-there ls k new (omega (arith, h))

  pub all-own-set : (ls : List (Leaved T)) (k : ℕ) (new : Leaved T) → new.own ≡ true → list_all is_own_leaf ls ≡ true → list_all is_own_leaf (set ls k new) ≡ true
  all-own-set [] k new own all = refl
  all-own-set (x ∷ ls) zero new own all = grind (arith, own, all)
  all-own-set (x ∷ ls) (suc k) new own all = grind (arith, all, all-own-set ls k new own (grind (arith, all)))

  pub all-own-more : (ls : List (Leaved T)) (new : Leaved T) → new.own ≡ true → list_all is_own_leaf ls ≡ true → list_all is_own_leaf (ls ++ new ∷ []) ≡ true
  all-own-more [] new own all = rw own refl
  all-own-more (x ∷ ls) new own all = grind (arith, all, all-own-more ls new own (grind (arith, all)))

  pub all-own-at : (ls : List (Leaved T)) (k : ℕ) (l : Leaved T) → list_all is_own_leaf ls ≡ true → slice_get ls k ≡ Some l → l.own ≡ true
  all-own-at [] k l all is = absurd (none-some l is)
  all-own-at (x ∷ ls) zero l all is = ap (λ (y : Leaved T). y.own) (sym (same_Some x l is)) ∙ grind (arith, all)
  all-own-at (x ∷ ls) (suc k) l all is = all-own-at ls k l (grind (arith, all)) is

  set-same : (ls : List (Leaved T)) (k : ℕ) (l : Leaved T) → slice_get ls k ≡ Some l → set ls k l ≡ ls
  set-same [] k l is = refl
  set-same (x ∷ ls) zero l is = ap (λ y. y ∷ ls) (sym (same_Some x l is))
  set-same (x ∷ ls) (suc k) l is = ap (λ ys. x ∷ ys) (set-same ls k l is)

  -- a leaf that becomes the row's own, or stays as it was
  pub keeps-put : {A E : Type 0} (r : Result A E) (ls : List (Leaved T)) (ms ns : List Bool) (k : ℕ) (old new : Leaved T) → slice_get ls k ≡ Some old
      → OnOk r (new.own ≡ true) → OnErr r (new ≡ old) → ((i : ℕ) → slice_get ms i ≡ Some true → slice_get ns i ≡ Some true)
      → (i : ℕ) → slice_get (both_own ls ms) i ≡ Some true → slice_get (both_own (set ls k new) ns) i ≡ Some true
  keeps-put (Ok x) ls ms ns k old new is own same keeps i h = keeps-set ls ms ns k new own keeps i h
  keeps-put (Err e) ls ms ns k old new is own same keeps i h = rw (same, set-same ls k old is) (keeps-pages ls ms ns keeps i h)

  -- a leaf that is written where it may be
  pub both-same : (ls : List (Leaved T)) (ms : List Bool) (k : ℕ) (l new : Leaved T) → slice_get ls k ≡ Some l → new.own ≡ l.own → both_own (set ls k new) ms ≡ both_own ls ms
  both-same [] ms k l new is e = refl
  both-same (x ∷ ls) [] zero l new is e = refl
  both-same (x ∷ ls) [] (suc k) l new is e = ap (λ bs. false ∷ bs) (both-same ls [] k l new is e)
  both-same (x ∷ ls) (m ∷ ms) zero l new is e = ap (λ b. (b && m) ∷ both_own ls ms) (e ∙ ap (λ (y : Leaved T). y.own) (sym (same_Some x l is)))
  both-same (x ∷ ls) (m ∷ ms) (suc k) l new is e = ap (λ bs. (x.own && m) ∷ bs) (both-same ls ms k l new is e)

  -- ---- the lists

  pub list-of : (ls : List (Leaved T)) (k : ℕ) (l : Leaved T) → slice_get ls k ≡ Some l → list_at (map held ls) k ≡ l.items
  list-of [] k l is = absurd (none-some l is)
  list-of (x ∷ ls) zero l is = ap held (same_Some x l is)
  list-of (x ∷ ls) (suc k) l is = list-of ls k l is

  pub list-there : (ls : List (Leaved T)) (k : ℕ) (l : Leaved T) → slice_get ls k ≡ Some l → slice_get (map held ls) k ≡ Some l.items
  list-there [] k l is = absurd (none-some l is)
  list-there (x ∷ ls) zero l is = ap (λ (y : Leaved T). Some y.items) (same_Some x l is)
  list-there (x ∷ ls) (suc k) l is = list-there ls k l is

  pub lists-set : (h : List T → List T) (ls : List (Leaved T)) (k : ℕ) (l new : Leaved T) → slice_get ls k ≡ Some l → new.items ≡ h l.items → map held (set ls k new) ≡ edited h k (map held ls)
  lists-set h [] k l new is e = refl
  lists-set h (x ∷ ls) zero l new is e = ap (λ xs. xs ∷ map held ls) (e ∙ ap (λ (y : Leaved T). h y.items) (sym (same_Some x l is)))
  lists-set h (x ∷ ls) (suc k) l new is e = ap (λ xs. held x ∷ xs) (lists-set h ls k l new is e)

  pub lists-same : (ls : List (Leaved T)) (k : ℕ) (l new : Leaved T) → slice_get ls k ≡ Some l → new.items ≡ l.items → map held (set ls k new) ≡ map held ls
  lists-same [] k l new is e = refl
  lists-same (x ∷ ls) zero l new is e = ap (λ xs. xs ∷ map held ls) (e ∙ ap held (sym (same_Some x l is)))
  lists-same (x ∷ ls) (suc k) l new is e = ap (λ xs. held x ∷ xs) (lists-same ls k l new is e)

  pub lists-more : (ls : List (Leaved T)) (new : Leaved T) → map held (ls ++ new ∷ []) ≡ map held ls ++ held new ∷ []
  lists-more [] new = refl
  lists-more (x ∷ ls) new = ap (λ xs. held x ∷ xs) (lists-more ls new)

  pub list-read : (lists : List (List T)) (k : ℕ) (l : List T) → slice_get lists k ≡ Some l → list_at lists k ≡ l
  list-read [] k l is = absurd (none-some l is)
  list-read (x ∷ lists) zero l is = same_Some x l is
  list-read (x ∷ lists) (suc k) l is = list-read lists k l is

  -- ---- where an item stands

  spot-full : (lists : List (List T)) (i k j : ℕ) → AreFull lists → i ≡ 16 * k + j → j < 16 → i < length (all_in lists) → IsSpot (λ (list : List T). list) lists i k j
  spot-full [] i k j full e h within = absurd (omega (arith, within))
  spot-full (l ∷ []) i zero j full e h within = let n = length-append l [] in (omega (arith, e), omega (arith, e, n, within))
  spot-full (l ∷ []) i (suc k) j full e h within = let n = length-append l [] in absurd (omega (arith, e, n, within, full))
  spot-full (l ∷ m ∷ ls) i zero j full e h within = (omega (arith, e), omega (arith, h, full.0))
  spot-full (l ∷ m ∷ ls) i (suc k) j full e h within =
      let n = length-append l (all_in (m ∷ ls)) in
      (omega (arith, e, full.0), spot-full (m ∷ ls) (i - length l) k j full.1 (omega (arith, e, full.0)) h (omega (arith, within, n, e, full.0)))

  pub spot-in : (lists : List (List T)) (i : ℕ) → AreFull lists → i < length (all_in lists) → IsSpot (λ (list : List T). list) lists i (i / 16) (i % 16)
  spot-in lists i full within = spot-full lists i (i / 16) (i % 16) full (omega arith) (omega arith) within

  all-said : (xs : List T) (b : Bool) (j : ℕ) → j < length xs → slice_get (map (λ _. b) xs) j ≡ Some b
  all-said [] b j h = absurd (omega (arith, h))
  all-said (x ∷ xs) b zero h = refl
  all-said (x ∷ xs) b (suc j) h = all-said xs b j (omega (arith, h))

  mark-at : (lists : List (List T)) (ms : List Bool) (i k j : ℕ) → IsSpot (λ (list : List T). list) lists i k j → slice_get (marks_in lists ms) i ≡ Some (unwrap_or (slice_get ms k) false)
  mark-at [] ms i k j s = absurd s
  mark-at (l ∷ ls) ms i zero j s =
      let b = unwrap_or (slice_get ms 0) false in
      let n = length-map l (λ _. b) in
      let P : ℕ → Type 0 = λ q. slice_get (marks_in (l ∷ ls) ms) q ≡ Some b in
      subst P (sym s.0) (get-left (map (λ _. b) l) (marks_in ls (drop 1 ms)) j (omega (arith, n, s.1)) ∙ all-said l b j s.1)
  mark-at (l ∷ ls) ms i (suc k) j s =
      let b = unwrap_or (slice_get ms 0) false in
      let n = length-map l (λ _. b) in
      let P : ℕ → Type 0 = λ m. slice_get (marks_in ls (drop 1 ms)) (i - m) ≡ Some (unwrap_or (slice_get ms (suc k)) false) in
      get-right (map (λ _. b) l) (marks_in ls (drop 1 ms)) i (omega (arith, n, s.0))
      ∙ subst P (sym n) (mark-at ls (drop 1 ms) (i - length l) k j s.1 ∙ ap (λ o. Some (unwrap_or o false)) (behind-first ms k))

  pub mark-list : (lists : List (List T)) (own : List Bool) (i k j : ℕ) → IsSpot (λ (list : List T). list) lists i k j → slice_get (marks_in lists own) i ≡ Some true → slice_get own k ≡ Some true
  mark-list lists own i k j s h = true-mark (slice_get own k) (sym (mark-at lists own i k j s) ∙ h)

  pub list-mark : (lists : List (List T)) (own : List Bool) (i k j : ℕ) → IsSpot (λ (list : List T). list) lists i k j → slice_get own k ≡ Some true → slice_get (marks_in lists own) i ≡ Some true
  list-mark lists own i k j s h = mark-at lists own i k j s ∙ rw h refl

  length-marks-in : (lists : List (List T)) (own : List Bool) → length (marks_in lists own) ≡ length (all_in lists)
  length-marks-in [] own = refl
  length-marks-in (l ∷ ls) own =
      let b = unwrap_or (slice_get own 0) false in
      let m = length-append (map (λ _. b) l) (marks_in ls (drop 1 own)) in
      let n = length-append l (all_in ls) in
      omega (arith, m, n, length-map l (λ _. b), length-marks-in ls (drop 1 own))

  pub mark-within : (lists : List (List T)) (own : List Bool) (i : ℕ) → slice_get (marks_in lists own) i ≡ Some true → i < length (all_in lists)
  mark-within lists own i h = let w = slice_get_within (marks_in lists own) i true h in let l = length-marks-in lists own in omega (arith, w, l)

  -- each item that might be written still may, in as many lists or more
  pub marks-keep : (old new : List (List T)) (ms ns : List Bool) → AreFull old → AreFull new → length (all_in old) ≤ length (all_in new)
      → ((k : ℕ) → slice_get ms k ≡ Some true → slice_get ns k ≡ Some true) → (i : ℕ) → slice_get (marks_in old ms) i ≡ Some true → slice_get (marks_in new ns) i ≡ Some true
  marks-keep old new ms ns full filled more keeps i h =
      let within = mark-within old ms i h in
      list-mark new ns i (i / 16) (i % 16) (spot-in new i filled (omega (arith, within, more)))
      (keeps (i / 16) (mark-list old ms i (i / 16) (i % 16) (spot-in old i full within) h))

  -- ---- lists that are written, and grow

  same-said : (xs ys : List T) (b : Bool) → length xs ≡ length ys → map (λ _. b) xs ≡ map (λ _. b) ys
  same-said [] [] b e = refl
  same-said [] (y ∷ ys) b e = absurd (omega (arith, e))
  same-said (x ∷ xs) [] b e = absurd (omega (arith, e))
  same-said (x ∷ xs) (y ∷ ys) b e = ap (λ ms. b ∷ ms) (same-said xs ys b (omega (arith, e)))

  module _ (g : List T → List T) (long : (l : List T) → length (g l) ≡ length l) where
    pub marks-edited : (k : ℕ) (lists : List (List T)) (ms : List Bool) → marks_in (edited g k lists) ms ≡ marks_in lists ms
    marks-edited k [] ms = refl
    marks-edited zero (l ∷ ls) ms = ap (λ xs. xs ++ marks_in ls (drop 1 ms)) (same-said (g l) l (unwrap_or (slice_get ms 0) false) (long l))
    marks-edited (suc k) (l ∷ ls) ms = ap (λ xs. map (λ _. unwrap_or (slice_get ms 0) false) l ++ xs) (marks-edited k ls (drop 1 ms))

    pub full-edited : (k : ℕ) (lists : List (List T)) → AreFull lists → AreFull (edited g k lists)
    full-edited k [] full = full
    full-edited zero (l ∷ []) full = let n = long l in omega (arith, n, full)
    full-edited (suc k) (l ∷ []) full = full
    full-edited zero (l ∷ m ∷ ls) full = (long l ∙ full.0, full.1)
    full-edited (suc zero) (l ∷ m ∷ ls) full = (full.0, full-edited zero (m ∷ ls) full.1)
    full-edited (suc (suc k)) (l ∷ m ∷ ls) full = (full.0, full-edited (suc k) (m ∷ ls) full.1)

  -- the last list, with so many items, and full lists before it
  pub record Last (lists : List (List T)) : Type 0 where
    pub k : ℕ
    pub n : ℕ
    pub many : length lists ≡ suc k
    pub items : length (list_at lists k) ≡ n
    pub few : n ≤ 16
    pub all : length (all_in lists) ≡ 16 * k + n

  last-of : (l : List T) (ls : List (List T)) → AreFull (l ∷ ls) → Last (l ∷ ls)
  last-of l [] full = let n = length-append l [] in record { k = 0; n = length l; many = refl; items = refl; few = full; all = omega (arith, n) }
  last-of l (m ∷ ls) full =
      let rest = last-of m ls full.1 in
      let n = length-append l (all_in (m ∷ ls)) in
      record { k = suc rest.k; n = rest.n; many = ap suc rest.many; items = rest.items; few = rest.few; all = omega (arith, n, rest.all, full.0) }

  -- the list in which an item behind the others has its place
  pub record HasPlace (count : ℕ) (lists : List (List T)) : Type 0 where
    pub last : length lists ≡ count / 16 + 1
    pub place : length (list_at lists (count / 16)) ≡ count % 16

  pub has-place : (lists : List (List T)) (count : ℕ) → AreFull lists → count ≡ length (all_in lists) → (length lists ≡ count / 16 → ⊥) → HasPlace count lists
  has-place [] count full e differs = absurd (differs (let z : count / 16 ≡ 0 = omega (arith, e) in sym z))
  has-place (l ∷ ls) count full e differs =
      let last = last-of l ls full in
      let more : last.n < 16 = not-full last.n last.few (λ is. differs (omega (arith, is, e, last.all, last.many))) in
      let k : count / 16 ≡ last.k = omega (arith, e, last.all, more) in
      record {
        last = omega (arith, k, last.many);
        place = ap (λ q. length (list_at (l ∷ ls) q)) k ∙ last.items ∙ omega (arith, e, last.all, more);
      } where
        not-full : (n : ℕ) → n ≤ 16 → (n ≡ 16 → ⊥) → n < 16
        not-full n few differs = elim (cases_eq n 16) [
          | inl is ↦ absurd (differs is)
          | inr ne ↦ omega (arith, few, ne)
        ]

  -- where the place of the next item is behind all lists, these are full
  pub all-full : (lists : List (List T)) → AreFull lists → length (all_in lists) / 16 ≡ length lists → length (all_in lists) % 16 ≡ 0
  all-full [] full e = omega arith
  all-full (l ∷ ls) full e = let last = last-of l ls full in omega (arith, e, last.all, last.many, last.few)

  full-then : (l : List T) (ls : List (List T)) → length l ≡ 16 → AreFull ls → AreFull (l ∷ ls)
  full-then l [] e full = omega (arith, e)
  full-then l (m ∷ ls) e full = (e, full)

  -- where all lists are full, an empty one may follow
  pub full-pushed : (lists : List (List T)) → AreFull lists → length (all_in lists) / 16 ≡ length lists → AreFull (lists ++ [] ∷ [])
  full-pushed [] full e = omega arith
  full-pushed (l ∷ []) full e =
      let n = length-append l [] in
      let all : length l ≡ 16 = omega (arith, n, full, e) in (all, omega arith)
  full-pushed (l ∷ m ∷ ls) full e =
      let n = length-append l (all_in (m ∷ ls)) in
      (full.0, full-pushed (m ∷ ls) full.1 (omega (arith, n, full.0, e)))

  pub place-pushed : (lists : List (List T)) (k : ℕ) → length lists ≡ k → list_at (lists ++ [] ∷ []) k ≡ []
  place-pushed [] zero e = refl
  place-pushed [] (suc k) e = absurd (omega (arith, e))
  place-pushed (l ∷ ls) zero e = absurd (omega (arith, e))
  place-pushed (l ∷ ls) (suc k) e = place-pushed ls k (omega (arith, e))

  pub items-pushed : (lists : List (List T)) → all_in (lists ++ [] ∷ []) ≡ all_in lists
  items-pushed [] = refl
  items-pushed (l ∷ ls) = ap (λ xs. l ++ xs) (items-pushed ls)

  -- the last list gets one item more
  pub full-grown : (lists : List (List T)) (k j : ℕ) (x : T) → AreFull lists → length lists ≡ suc k → length (list_at lists k) ≡ j → j < 16 → AreFull (edited (λ l. insert l j x) k lists)
  full-grown [] k j x full e at h = absurd (omega (arith, e))
  full-grown (l ∷ []) zero j x full e at h = let n = length-insert l j x (omega (arith, at)) in omega (arith, n, at, h)
  full-grown (l ∷ m ∷ ls) zero j x full e at h = absurd (omega (arith, e))
  full-grown (l ∷ []) (suc k) j x full e at h = absurd (omega (arith, e))
  full-grown (l ∷ m ∷ ls) (suc zero) j x full e at h = (full.0, full-grown (m ∷ ls) zero j x full.1 (omega (arith, e)) at h)
  full-grown (l ∷ m ∷ ls) (suc (suc k)) j x full e at h = (full.0, full-grown (m ∷ ls) (suc k) j x full.1 (omega (arith, e)) at h)

  pub grown-items : (lists : List (List T)) (count : ℕ) (x : T) → length lists ≡ count / 16 + 1 → length (list_at lists (count / 16)) ≡ count % 16
      → all_in (edited (λ l. insert l (count % 16) x) (count / 16) lists) ≡ all_in lists ++ x ∷ []
  grown-items lists count x last place =
      pushed-last (λ l. l) (λ l. insert l (count % 16) x) lists (count / 16) (count % 16) x (omega (arith, last)) (sym place) (λ p. refl)

-- what may be written still may, where a leaf is put behind the others
pub keeps-pushed : {A E T : Type 0} (r : Result A E) (old new : Paged (Leaved T)) (l : Leaved T) → OnOk r (new.items ≡ old.items ++ l ∷ []) → Keeps old new → OnErr r (new ≡ old)
    → (k : ℕ) → slice_get (both_own old.items old.own) k ≡ Some true → slice_get (both_own new.items new.own) k ≡ Some true
keeps-pushed (Ok x) old new l ok keeps err k h = rw ok (keeps-more old.items old.own new.own l keeps k h)
keeps-pushed (Err e) old new l ok keeps err k h = rw err h
