-- Which items stand in pages of the list's own.
use Rattle.std.proofs.Common.{◌≡◌, ◌<◌, ◌≤◌, ℕ, zero, suc, ◌+◌, ◌-◌, Bool, true, List, [], ◌∷◌, ◌++◌, length, get_or, set, map, insert, remove, slice_get, Some, refl, sym, ap, subst, ◌∙◌, arith, length-append, length-set, append_assoc}
use Rattle.std.proofs.lemmas.List.{map-append, length-map}
use Rattle.std.proofs.lemmas.List.Edits.{length-insert}
use Rattle.std.proofs.lemmas.Option.{slice_get_within, same_Some, none-some}
use Rattle.pm_pages.specs.Listed.{piece, IsSpot, IsSplit, edited, items_of, is_own, listed, all_own, marks_of, marks, IsOwnAt, KeepsOwn, own_page, without_item, changed_item, with_item}
use Rattle.pm_pages.specs.declared.pages.Page.{Page}
use Rattle.pm_pages.specs.declared.pages.Page.TheVariants.{Own}
use Rattle.pm_pages.proofs.Spots.{get-left, get-right, spot-within, spot-removed, pushed-page}

-- ---- lists

pub all_marked : {A : Type 0} (xs : List A) (b : Bool) (i : ℕ) → b ≡ true → i < length xs → slice_get (map (λ _. b) xs) i ≡ Some true
all_marked [] b i e h = absurd (omega (arith, h))
all_marked (x ∷ xs) b zero e h = ap Some e
all_marked (x ∷ xs) b (suc i) e h = all_marked xs b i e (omega (arith, h))

mark_true : {A : Type 0} (xs : List A) (b : Bool) (i : ℕ) → slice_get (map (λ _. b) xs) i ≡ Some true → b ≡ true
mark_true [] b i h = absurd (none-some true h)
mark_true (x ∷ xs) b zero h = same_Some b true h
mark_true (x ∷ xs) b (suc i) h = mark_true xs b i h

same_marks : {A : Type 0} (xs ys : List A) (b : Bool) → length xs ≡ length ys → map (λ _. b) xs ≡ map (λ _. b) ys
same_marks [] [] b e = refl
same_marks [] (y ∷ ys) b e = absurd (omega (arith, e))
same_marks (x ∷ xs) [] b e = absurd (omega (arith, e))
same_marks (x ∷ xs) (y ∷ ys) b e = ap (λ ms. b ∷ ms) (same_marks xs ys b (omega (arith, e)))

map-removed : {A B : Type 0} (f : A → B) (xs : List A) (j : ℕ) → map f (remove xs j) ≡ remove (map f xs) j
map-removed f [] zero = refl
map-removed f [] (suc j) = refl
map-removed f (x ∷ xs) zero = refl
map-removed f (x ∷ xs) (suc j) = ap (λ ys. f x ∷ ys) (map-removed f xs j)

-- a list that changes behind, and one that changes in front
keeps-behind : (xs ys zs : List Bool) → ((i : ℕ) → slice_get ys i ≡ Some true → slice_get zs i ≡ Some true)
    → (i : ℕ) → slice_get (xs ++ ys) i ≡ Some true → slice_get (xs ++ zs) i ≡ Some true
keeps-behind [] ys zs e i h = e i h
keeps-behind (x ∷ xs) ys zs e zero h = h
keeps-behind (x ∷ xs) ys zs e (suc i) h = keeps-behind xs ys zs e i h

keeps-before : (xs ys zs : List Bool) → length xs ≡ length ys → ((i : ℕ) → slice_get xs i ≡ Some true → slice_get ys i ≡ Some true)
    → (i : ℕ) → slice_get (xs ++ zs) i ≡ Some true → slice_get (ys ++ zs) i ≡ Some true
keeps-before [] [] zs l e i h = h
keeps-before [] (y ∷ ys) zs l e i h = absurd (omega (arith, l))
keeps-before (x ∷ xs) [] zs l e i h = absurd (omega (arith, l))
keeps-before (x ∷ xs) (y ∷ ys) zs l e zero h = e zero h
keeps-before (x ∷ xs) (y ∷ ys) zs l e (suc i) h = keeps-before xs ys zs (omega (arith, l)) (λ n. e (suc n)) i h

module _ {T : Type 0} where
  pub length-marks_of : (p : Page T) → length (marks_of p) ≡ length (items_of p)
  length-marks_of p = length-map (items_of p) (λ _. is_own p)

  pub length-marks : (ps : List (Page T)) → length (marks ps) ≡ length (listed ps)
  length-marks [] = refl
  length-marks (p ∷ ps) =
      let l = length-append (marks_of p) (marks ps) in
      let m = length-append (items_of p) (listed ps) in
      omega (arith, l, m, length-marks_of p, length-marks ps)

  pub own-within : (ps : List (Page T)) (i : ℕ) → IsOwnAt ps i → i < length (listed ps)
  own-within ps i h = let w = slice_get_within (marks ps) i true h in let l = length-marks ps in omega (arith, w, l)

  marks-left : (p : Page T) (ps : List (Page T)) (j : ℕ) → j < length (items_of p) → slice_get (marks (p ∷ ps)) j ≡ slice_get (marks_of p) j
  marks-left p ps j h = let l = length-marks_of p in get-left (marks_of p) (marks ps) j (omega (arith, l, h))

  marks-right : (p : Page T) (ps : List (Page T)) (i : ℕ) → length (items_of p) ≤ i → slice_get (marks (p ∷ ps)) i ≡ slice_get (marks ps) (i - length (items_of p))
  marks-right p ps i h =
      let l = length-marks_of p in
      let e : i - length (marks_of p) ≡ i - length (items_of p) = omega (arith, l) in
      get-right (marks_of p) (marks ps) i (omega (arith, l, h)) ∙ ap (slice_get (marks ps)) e

  -- ---- an item and its page

  pub own-page : (ps : List (Page T)) (i k j : ℕ) → IsSpot items_of ps i k j → IsOwnAt ps i → own_page ps k ≡ true
  own-page [] i k j s h = absurd s
  own-page (p ∷ ps) i zero j s h =
      let P : ℕ → Type 0 = λ n. IsOwnAt (p ∷ ps) n in
      mark_true (items_of p) (is_own p) j (sym (marks-left p ps j s.1) ∙ subst P s.0 h)
  own-page (p ∷ ps) i (suc k) j s h = own-page ps (i - length (items_of p)) k j s.1 (sym (marks-right p ps i s.0) ∙ h)

  pub own-there : (ps : List (Page T)) (i k j : ℕ) → IsSpot items_of ps i k j → own_page ps k ≡ true → IsOwnAt ps i
  own-there [] i k j s o = absurd s
  own-there (p ∷ ps) i zero j s o =
      let P : ℕ → Type 0 = λ n. IsOwnAt (p ∷ ps) n in
      subst P (sym s.0) (marks-left p ps j s.1 ∙ all_marked (items_of p) (is_own p) j o s.1)
  own-there (p ∷ ps) i (suc k) j s o = marks-right p ps i s.0 ∙ own-there ps (i - length (items_of p)) k j s.1 o

  pub own_page_read : (ps : List (Page T)) (k : ℕ) (p : Page T) → k < length ps → p ≡ get_or ps k p → own_page ps k ≡ is_own p
  own_page_read [] k p h is = absurd (omega (arith, h))
  own_page_read (q ∷ ps) zero p h is = ap is_own (sym is)
  own_page_read (q ∷ ps) (suc k) p h is = own_page_read ps k p (omega (arith, h)) is

  pub own_page_all : (ps : List (Page T)) (k : ℕ) → k < length ps → all_own ps ≡ true → own_page ps k ≡ true
  own_page_all [] k h all = absurd (omega (arith, h))
  own_page_all (p ∷ ps) zero h all = grind (arith, all)
  own_page_all (p ∷ ps) (suc k) h all = own_page_all ps k (omega (arith, h)) (grind (arith, all))

  -- ---- changes of one page

  spot-edited : (g : Page T → Page T) (j : ℕ) → ((p : Page T) → j < length (items_of p) → j < length (items_of (g p))) → (ps : List (Page T)) (i k : ℕ) → IsSpot items_of ps i k j → IsSpot items_of (edited g k ps) i k j
  spot-edited g j e [] i k s = absurd s
  spot-edited g j e (p ∷ ps) i zero s = (s.0, e p s.1)
  spot-edited g j e (p ∷ ps) i (suc k) s = (s.0, spot-edited g j e ps (i - length (items_of p)) k s.1)

  pub page-edited : (g : Page T → Page T) → ((p : Page T) → is_own (g p) ≡ true) → (ps : List (Page T)) (k : ℕ) → k < length ps → own_page (edited g k ps) k ≡ true
  page-edited g e [] k h = absurd (omega (arith, h))
  page-edited g e (p ∷ ps) zero h = e p
  page-edited g e (p ∷ ps) (suc k) h = page-edited g e ps k (omega (arith, h))

  -- an item that stays where it is, in a page that is the list's own now
  pub own-edited : (g : Page T → Page T) (j : ℕ) → ((p : Page T) → is_own (g p) ≡ true) → ((p : Page T) → j < length (items_of p) → j < length (items_of (g p)))
      → (ps : List (Page T)) (i k : ℕ) → k < length ps → IsSpot items_of ps i k j → IsOwnAt (edited g k ps) i
  own-edited g j own stays ps i k h s = own-there (edited g k ps) i k j (spot-edited g j stays ps i k s) (page-edited g own ps k h)

  keeps-page : (p q : Page T) (ps : List (Page T)) → length (items_of q) ≡ length (items_of p) → (is_own p ≡ true → is_own q ≡ true) → KeepsOwn (p ∷ ps) (q ∷ ps)
  keeps-page p q ps l e = keeps-before (marks_of p) (marks_of q) (marks ps) (let lp = length-marks_of p in let lq = length-marks_of q in omega (arith, l, lp, lq))
      (λ n m. all_marked (items_of q) (is_own q) n (e (mark_true (items_of p) (is_own p) n m))
      (let lp = length-marks_of p in let w = slice_get_within (marks_of p) n true m in omega (arith, l, lp, w)))

  pub keeps-edited : (g : Page T → Page T) → ((p : Page T) → length (items_of (g p)) ≡ length (items_of p)) → ((p : Page T) → is_own p ≡ true → is_own (g p) ≡ true)
      → (k : ℕ) (ps : List (Page T)) → KeepsOwn ps (edited g k ps)
  keeps-edited g l e k [] i h = h
  keeps-edited g l e zero (p ∷ ps) i h = keeps-page p (g p) ps (l p) (e p) i h
  keeps-edited g l e (suc k) (p ∷ ps) i h = keeps-behind (marks_of p) (marks ps) (marks (edited g k ps)) (keeps-edited g l e k ps) i h

  pub marks-changed : (ps : List (Page T)) (k j : ℕ) (x : T) → k < length ps → own_page ps k ≡ true → marks (edited (changed_item j x) k ps) ≡ marks ps
  marks-changed [] k j x h o = refl
  marks-changed (p ∷ ps) zero j x h o =
      let l = length-set (items_of p) j x in
      ap (λ ms. ms ++ marks ps) (same_marks (set (items_of p) j x) (items_of p) true (omega (arith, l)) ∙ ap (λ b. map (λ _. b) (items_of p)) (sym o))
  marks-changed (p ∷ ps) (suc k) j x h o = ap (λ ms. marks_of p ++ ms) (marks-changed ps k j x (omega (arith, h)) o)

  -- ---- an item taken out

  spot-marks : (ps : List (Page T)) (i k j : ℕ) → IsSpot items_of ps i k j → IsSpot marks_of ps i k j
  spot-marks [] i k j s = s
  spot-marks (p ∷ ps) i zero j s = let l = length-marks_of p in (s.0, omega (arith, l, s.1))
  spot-marks (p ∷ ps) i (suc k) j s =
      let l = length-marks_of p in
      let P : ℕ → Type 0 = λ n. IsSpot marks_of ps (i - n) k j in
      (omega (arith, l, s.0), subst P (sym l) (spot-marks ps (i - length (items_of p)) k j s.1))

  marks-without : (p : Page T) (j : ℕ) → is_own p ≡ true → marks_of (without_item j p) ≡ remove (marks_of p) j
  marks-without p j o = map-removed (λ _. true) (items_of p) j ∙ ap (λ b. remove (map (λ _. b) (items_of p)) j) (sym o)

  pub marks-removed : (ps : List (Page T)) (i k j : ℕ) → k < length ps → own_page ps k ≡ true → IsSpot items_of ps i k j → marks (edited (without_item j) k ps) ≡ remove (marks ps) i
  marks-removed ps i k j h o s =
      spot-removed marks_of (without_item j) ps i k j (spot-marks ps i k j s) (λ p is. marks-without p j (sym (own_page_read ps k p h is) ∙ o))

  pub length-piece : (ps : List (Page T)) (k : ℕ) → length (piece marks_of ps k) ≡ length (piece items_of ps k)
  length-piece [] k = refl
  length-piece (p ∷ ps) zero = length-marks_of p
  length-piece (p ∷ ps) (suc k) = length-piece ps k

  -- ---- an item put in

  pub longer : (j : ℕ) (x : T) (p : Page T) → j < length (items_of p) → j < length (items_of (with_item j x p))
  longer j x p h = let l = length-insert (items_of p) j x (omega (arith, h)) in omega (arith, l, h)

  own-halves : (ps : List (Page T)) (i k j : ℕ) (a b : List T) → IsSpot items_of ps i k j → j < length (a ++ b) → IsOwnAt (set (insert ps (suc k) (Own b)) k (Own a)) i
  own-halves [] i k j a b s h = absurd s
  own-halves (p ∷ ps) i zero j a b s h =
      let yes : T → Bool = λ _. true in
      let e = map-append yes a b in
      let l = ap length e in
      let m = length-map (a ++ b) yes in
      let P : ℕ → Type 0 = λ n. slice_get (map yes a ++ (map yes b ++ marks ps)) n ≡ Some true in
      subst P (sym s.0) (
      ap (λ ms. slice_get ms j) (sym (append_assoc (map yes a) (map yes b) (marks ps)))
      ∙ get-left (map yes a ++ map yes b) (marks ps) j (omega (arith, l, m, h))
      ∙ ap (λ ms. slice_get ms j) (sym e)
      ∙ all_marked (a ++ b) true j refl h)
  own-halves (p ∷ ps) i (suc k) j a b s h = marks-right p (set (insert ps (suc k) (Own b)) k (Own a)) i s.0 ∙ own-halves ps (i - length (items_of p)) k j a b s.1 h

  pub own-halved : (old new : List (Page T)) (i k j : ℕ) (x : T) → IsSpot items_of old i k j → IsSplit k j x old new → IsOwnAt new i
  own-halved old new i k j x s split =
      let next : k + 1 ≡ suc k = omega arith in
      let w = spot-within items_of old i k j s in
      let l = length-insert (piece items_of old k) j x (omega (arith, w)) in
      let m = ap length split.halves in
      let P : ℕ → Type 0 = λ n. IsOwnAt (set (insert old n (Own split.tail)) k (Own split.head)) i in
      let Q : List (Page T) → Type 0 = λ ps. IsOwnAt ps i in
      subst Q (sym split.pages) (subst P (sym next) (own-halves old i k j split.head split.tail s (omega (arith, l, m, w))))

  -- ---- an item behind the others

  pub keeps-pushed : (ps : List (Page T)) (k j : ℕ) (x : T) → length ps ≡ suc k → j ≡ length (piece items_of ps k) → KeepsOwn ps (edited (with_item j x) k ps)
  keeps-pushed [] k j x l e i h = absurd (omega (arith, l))
  keeps-pushed (p ∷ []) zero j x l e i h =
      let w = own-within (p ∷ []) i h in
      let n = length-append (items_of p) [] in
      let m = length-insert (items_of p) j x (omega (arith, e)) in
      let within : i < length (insert (items_of p) j x) = omega (arith, w, n, m) in
      marks-left (Own (insert (items_of p) j x)) [] i within ∙ all_marked (insert (items_of p) j x) true i refl within
  keeps-pushed (p ∷ q ∷ ps) zero j x l e i h = absurd (omega (arith, l))
  keeps-pushed (p ∷ ps) (suc k) j x l e i h =
      keeps-behind (marks_of p) (marks ps) (marks (edited (with_item j x) k ps)) (keeps-pushed ps k j x (omega (arith, l)) e) i h

  pub own-pushed : (ps : List (Page T)) (k j : ℕ) (x : T) → length ps ≡ suc k → j ≡ length (piece items_of ps k) → IsOwnAt (edited (with_item j x) k ps) (length (listed ps))
  own-pushed [] k j x l e = absurd (omega (arith, l))
  own-pushed (p ∷ []) zero j x l e =
      let n = length-append (items_of p) [] in
      let m = length-insert (items_of p) j x (omega (arith, e)) in
      let within : length (items_of p ++ []) < length (insert (items_of p) j x) = omega (arith, n, m) in
      marks-left (Own (insert (items_of p) j x)) [] (length (items_of p ++ [])) within ∙ all_marked (insert (items_of p) j x) true (length (items_of p ++ [])) refl within
  own-pushed (p ∷ q ∷ ps) zero j x l e = absurd (omega (arith, l))
  own-pushed (p ∷ ps) (suc k) j x l e =
      let n = length-append (items_of p) (listed ps) in
      let rest : length (items_of p ++ listed ps) - length (items_of p) ≡ length (listed ps) = omega (arith, n) in
      marks-right p (edited (with_item j x) k ps) (length (items_of p ++ listed ps)) (omega (arith, n))
      ∙ ap (slice_get (marks (edited (with_item j x) k ps))) rest ∙ own-pushed ps k j x (omega (arith, l)) e

  pub keeps-page_more : (ps : List (Page T)) (p : Page T) → KeepsOwn ps (ps ++ p ∷ [])
  keeps-page_more ps p i h =
      ap (λ ms. slice_get ms i) (pushed-page marks_of ps p) ∙ get-left (marks ps) (marks_of p) i (slice_get_within (marks ps) i true h) ∙ h

  pub own-page_more : (ps : List (Page T)) (x : T) → IsOwnAt (ps ++ Own (x ∷ []) ∷ []) (length (listed ps))
  own-page_more ps x =
      let l = length-marks ps in
      let here : length (listed ps) - length (marks ps) ≡ 0 = omega (arith, l) in
      ap (λ ms. slice_get ms (length (listed ps))) (pushed-page marks_of ps (Own (x ∷ [])))
      ∙ get-right (marks ps) (true ∷ []) (length (listed ps)) (omega (arith, l)) ∙ ap (slice_get (true ∷ [])) here
