-- Where an item stands among pages, and what a change there leaves of all items.
use Rattle.std.proofs.Common.{◌≡◌, ◌<◌, ◌≤◌, ℕ, zero, suc, ◌+◌, ◌-◌, List, [], ◌∷◌, ◌++◌, length, map, get_or, set, take, drop, insert, remove, slice_get, slice_index, refl, sym, ap, ◌∙◌, subst, arith, length-append, append_assoc, append-nil}
use Rattle.std.specs.List.{flat_map}
use Rattle.std.proofs.lemmas.List.{set-append_left, set-append_right, take_more}
use Rattle.std.proofs.lemmas.List.Folds.{length-flat_map-take, flat_map-map}
use Rattle.std.proofs.Math.Seq.{take-append_seam}
use Rattle.std.proofs.lemmas.List.Edits.{insert-append_left, insert-append_right, remove-append_left, remove-append_right}
use Rattle.pm_pages.specs.Listed.{starts_from, piece, IsSpot, IsStretch, edited}

pub get-left : {A : Type 0} (xs ys : List A) (i : ℕ) → i < length xs → slice_get (xs ++ ys) i ≡ slice_get xs i
get-left [] ys i h = absurd (omega (arith, h))
get-left (x ∷ xs) ys zero h = refl
get-left (x ∷ xs) ys (suc i) h = get-left xs ys i (omega (arith, h))

pub get-right : {A : Type 0} (xs ys : List A) (i : ℕ) → length xs ≤ i → slice_get (xs ++ ys) i ≡ slice_get ys (i - length xs)
get-right [] ys i h = let e : i ≡ i - 0 = omega arith in ap (slice_get ys) e
get-right (x ∷ xs) ys zero h = absurd (omega (arith, h))
get-right (x ∷ xs) ys (suc i) h = get-right xs ys i (omega (arith, h)) ∙ (let e : i - length xs ≡ suc i - suc (length xs) = omega arith in ap (slice_get ys) e)

drop-left : {A : Type 0} (xs ys : List A) (i : ℕ) → i < length xs → drop i (xs ++ ys) ≡ drop i xs ++ ys
drop-left [] ys i h = absurd (omega (arith, h))
drop-left (x ∷ xs) ys zero h = refl
drop-left (x ∷ xs) ys (suc i) h = drop-left xs ys i (omega (arith, h))

drop-right : {A : Type 0} (xs ys : List A) (i : ℕ) → length xs ≤ i → drop i (xs ++ ys) ≡ drop (i - length xs) ys
drop-right [] ys i h = let e : i ≡ i - 0 = omega arith in ap (λ n. drop n ys) e
drop-right (x ∷ xs) ys zero h = absurd (omega (arith, h))
drop-right (x ∷ xs) ys (suc i) h = drop-right xs ys i (omega (arith, h)) ∙ (let e : i - length xs ≡ suc i - suc (length xs) = omega arith in ap (λ n. drop n ys) e)

module _ {X A : Type 0} (f : X → List A) where
  pub piece_read : (ps : List X) (k : ℕ) (x : X) → k < length ps → x ≡ get_or ps k x → piece f ps k ≡ f x
  piece_read [] k x h e = absurd (omega (arith, h))
  piece_read (p ∷ ps) zero x h e = ap f (sym e)
  piece_read (p ∷ ps) (suc k) x h e = piece_read ps k x (omega (arith, h)) e

  pub piece_within : (ps : List X) (k j : ℕ) → j < length (piece f ps k) → k < length ps
  piece_within [] k j h = absurd (omega (arith, h))
  piece_within (p ∷ ps) zero j h = omega arith
  piece_within (p ∷ ps) (suc k) j h = let rest = piece_within ps k j h in omega (arith, rest)

  pub spot-within : (ps : List X) (i k j : ℕ) → IsSpot f ps i k j → j < length (piece f ps k)
  spot-within [] i k j s = absurd s
  spot-within (p ∷ ps) i zero j s = s.1
  spot-within (p ∷ ps) i (suc k) j s = spot-within ps (i - length (f p)) k j s.1

  pub spot-get : (ps : List X) (i k j : ℕ) → IsSpot f ps i k j → slice_get (flat_map f ps) i ≡ slice_get (piece f ps k) j
  spot-get [] i k j s = absurd s
  spot-get (p ∷ ps) i zero j s = rw s.0 (get-left (f p) (flat_map f ps) j s.1)
  spot-get (p ∷ ps) i (suc k) j s = get-right (f p) (flat_map f ps) i s.0 ∙ spot-get ps (i - length (f p)) k j s.1

  pub spot-drop : (ps : List X) (i k j : ℕ) → IsSpot f ps i k j → drop i (flat_map f ps) ≡ drop j (piece f ps k) ++ flat_map f (drop (suc k) ps)
  spot-drop [] i k j s = absurd s
  spot-drop (p ∷ ps) i zero j s = rw s.0 (drop-left (f p) (flat_map f ps) j s.1)
  spot-drop (p ∷ ps) i (suc k) j s = drop-right (f p) (flat_map f ps) i s.0 ∙ spot-drop ps (i - length (f p)) k j s.1

  pub spot-run : (ps : List X) (i k j : ℕ) (r : List A) → IsSpot f ps i k j → r ≡ drop j (piece f ps k) → r ≡ take (length r) (drop i (flat_map f ps))
  spot-run ps i k j r s e = rw (spot-drop ps i k j s, e) (sym (take-append_seam (drop j (piece f ps k)) (flat_map f (drop (suc k) ps))))

  -- a change of a list at a place, which changes its own part alone
  module _ (g : X → X) (change : List A → ℕ → List A)
      (left : (xs ys : List A) (i : ℕ) → i < length xs → change (xs ++ ys) i ≡ change xs i ++ ys)
      (right : (xs ys : List A) (n i : ℕ) → length xs ≡ n → n ≤ i → change (xs ++ ys) i ≡ xs ++ change ys (i - n)) where
    spot-changed : (ps : List X) (i k j : ℕ) → IsSpot f ps i k j → ((p : X) → p ≡ get_or ps k p → f (g p) ≡ change (f p) j) → flat_map f (edited g k ps) ≡ change (flat_map f ps) i
    spot-changed [] i k j s e = absurd s
    spot-changed (p ∷ ps) i zero j s e = rw s.0 (ap (λ xs. xs ++ flat_map f ps) (e p refl) ∙ sym (left (f p) (flat_map f ps) j s.1))
    spot-changed (p ∷ ps) i (suc k) j s e =
        ap (λ xs. f p ++ xs) (spot-changed ps (i - length (f p)) k j s.1 e) ∙ sym (right (f p) (flat_map f ps) (length (f p)) i refl s.0)

  pub spot-set : (g : X → X) (ps : List X) (i k j : ℕ) (x : A) → IsSpot f ps i k j → ((p : X) → p ≡ get_or ps k p → f (g p) ≡ set (f p) j x) → flat_map f (edited g k ps) ≡ set (flat_map f ps) i x
  spot-set g ps i k j x s e =
      spot-changed g (λ xs n. set xs n x) (λ xs ys n h. set-append_left xs ys n x h) (λ xs ys m n e h. set-append_right xs ys m n x e h) ps i k j s e

  pub spot-removed : (g : X → X) (ps : List X) (i k j : ℕ) → IsSpot f ps i k j → ((p : X) → p ≡ get_or ps k p → f (g p) ≡ remove (f p) j) → flat_map f (edited g k ps) ≡ remove (flat_map f ps) i
  spot-removed g ps i k j s e = spot-changed g remove remove-append_left remove-append_right ps i k j s e

  pub spot-inserted : (g : X → X) (ps : List X) (i k j : ℕ) (x : A) → IsSpot f ps i k j → ((p : X) → p ≡ get_or ps k p → f (g p) ≡ insert (f p) j x) → flat_map f (edited g k ps) ≡ insert (flat_map f ps) i x
  spot-inserted g ps i k j x s e =
      spot-changed g (λ xs n. insert xs n x) (λ xs ys n h. insert-append_left xs ys n x (omega (arith, h))) (λ xs ys m n e h. insert-append_right xs ys m n x e h) ps i k j s e

  pub pushed-page : (ps : List X) (p : X) → flat_map f (ps ++ p ∷ []) ≡ flat_map f ps ++ f p
  pushed-page [] p = append-nil (f p)
  pushed-page (q ∷ ps) p = ap (λ xs. f q ++ xs) (pushed-page ps p) ∙ sym (append_assoc (f q) (flat_map f ps) (f p))

  -- ---- where pages start

  pub length-starts : (n : ℕ) (ps : List X) → length (starts_from f n ps) ≡ length ps
  length-starts n [] = refl
  length-starts n (p ∷ ps) = ap suc (length-starts (n + length (f p)) ps)

  starts-least : (n : ℕ) (ps : List X) (k : ℕ) → k < length (starts_from f n ps) → n ≤ slice_index (starts_from f n ps) k
  starts-least n [] k h = absurd (omega (arith, h))
  starts-least n (p ∷ ps) zero h = omega arith
  starts-least n (p ∷ ps) (suc k) h = let rest = starts-least (n + length (f p)) ps k (omega (arith, h)) in omega (arith, rest)

  spot-from : (n : ℕ) (ps : List X) (i k : ℕ) → k < length (starts_from f n ps) → slice_index (starts_from f n ps) k ≤ i
      → (suc k < length (starts_from f n ps) → i < slice_index (starts_from f n ps) (suc k))
      → i < n + length (flat_map f ps) → IsSpot f ps (i - n) k (i - slice_index (starts_from f n ps) k)
  spot-from n [] i k within behind before all = absurd (omega (arith, within))
  spot-from n (p ∷ []) i zero within behind before all =
      let l = length-append (f p) [] in (refl, omega (arith, l, all, behind))
  spot-from n (p ∷ q ∷ ps) i zero within behind before all = let b = before (omega arith) in (refl, omega (arith, b, behind))
  spot-from n (p ∷ ps) i (suc k) within behind before all =
      let least = starts-least (n + length (f p)) ps k (omega (arith, within)) in
      let l = length-append (f p) (flat_map f ps) in
      let shift : i - n - length (f p) ≡ i - (n + length (f p)) = omega arith in
      (omega (arith, least, behind), rw shift (spot-from (n + length (f p)) ps i k (omega (arith, within)) behind (λ h. before (omega (arith, h))) (omega (arith, l, all))))

  spot-first : (ps : List X) (i k : ℕ) → IsStretch (starts_from f 0 ps) i k → i < length (flat_map f ps) → IsSpot f ps i k (i - slice_index (starts_from f 0 ps) k)
  spot-first ps i k s h =
      let next : k + 1 ≡ suc k = omega arith in
      let same : i - 0 ≡ i = omega arith in
      let P : ℕ → Type 0 = λ n. n < length (starts_from f 0 ps) → i < slice_index (starts_from f 0 ps) n in
      let Q : ℕ → Type 0 = λ n. IsSpot f ps n k (i - slice_index (starts_from f 0 ps) k) in
      subst Q same (spot-from 0 ps i k s.within s.behind (subst P next s.before) (omega (arith, h)))

  pub spot-of : (ps : List X) (starts : List ℕ) (i k : ℕ) → starts ≡ starts_from f 0 ps → IsStretch starts i k → i < length (flat_map f ps)
      → IsSpot f ps i k (i - slice_index starts k)
  spot-of ps starts i k e s h =
      let P : List ℕ → Type 0 = λ l. IsStretch l i k → IsSpot f ps i k (i - slice_index l k) in
      subst P (sym e) (λ t. spot-first ps i k t h) s

  pub starts-same : (g : X → X) → ((p : X) → length (f (g p)) ≡ length (f p)) → (n : ℕ) (ps : List X) (k : ℕ) → starts_from f n (edited g k ps) ≡ starts_from f n ps
  starts-same g e n [] k = refl
  starts-same g e n (p ∷ ps) zero = rw (e p) refl
  starts-same g e n (p ∷ ps) (suc k) = ap (λ l. n ∷ l) (starts-same g e (n + length (f p)) ps k)

  -- a change of the last page moves no start
  pub starts-last : (g : X → X) (n : ℕ) (ps : List X) (k : ℕ) → length ps ≡ suc k → starts_from f n (edited g k ps) ≡ starts_from f n ps
  starts-last g n [] k e = refl
  starts-last g n (p ∷ []) zero e = refl
  starts-last g n (p ∷ q ∷ ps) zero e = absurd (omega (arith, e))
  starts-last g n (p ∷ ps) (suc k) e = ap (λ l. n ∷ l) (starts-last g (n + length (f p)) ps k (omega (arith, e)))

  pub starts-more : (n : ℕ) (ps : List X) (p : X) → starts_from f n (ps ++ p ∷ []) ≡ starts_from f n ps ++ (n + length (flat_map f ps)) ∷ []
  starts-more n [] p = let e : n ≡ n + 0 = omega arith in ap (λ m. m ∷ []) e
  starts-more n (q ∷ ps) p =
      let l = length-append (f q) (flat_map f ps) in
      let e : n + length (f q) + length (flat_map f ps) ≡ n + length (f q ++ flat_map f ps) = omega (arith, l) in
      ap (λ l. n ∷ l) (starts-more (n + length (f q)) ps p ∙ ap (λ m. starts_from f (n + length (f q)) ps ++ m ∷ []) e)

  -- one page more in a walk over the pages
  pub starts-step : (ps : List X) (i : ℕ) (x : X) → i < length ps → x ≡ get_or ps i x →
      starts_from f 0 (take (i + 1) ps) ≡ starts_from f 0 (take i ps) ++ length (flat_map f (take i ps)) ∷ []
  starts-step ps i x h is =
      let last : 0 + length (flat_map f (take i ps)) ≡ length (flat_map f (take i ps)) = omega arith in
      rw (take_more ps i x h) (starts-more 0 (take i ps) (get_or ps i x) ∙ ap (λ n. starts_from f 0 (take i ps) ++ n ∷ []) last)

  pub length-step : (ps : List X) (i : ℕ) (x : X) → i < length ps → x ≡ get_or ps i x →
      length (flat_map f (take (i + 1) ps)) ≡ length (flat_map f (take i ps)) + length (f x)
  length-step ps i x h is =
      let l = length-append (flat_map f (take i ps)) (f x) in
      rw (take_more ps i x h, ← is) (ap length (pushed-page (take i ps) x) ∙ l)

  pub length-walk : (ps : List X) (i : ℕ) (x : X) → i < length ps → x ≡ get_or ps i x →
      length (flat_map f (take i ps)) + length (f x) ≤ length (flat_map f ps)
  length-walk ps i x h is = let b = length-flat_map-take f ps i x h in rw is b

  pub some-starts : (ps : List X) (i : ℕ) → i < length (flat_map f ps) → 0 < length (starts_from f 0 ps)
  some-starts [] i h = absurd (omega (arith, h))
  some-starts (p ∷ ps) i h = omega arith

  pub first-start : (ps : List X) (i : ℕ) → slice_index (starts_from f 0 ps) 0 ≤ i
  first-start [] i = omega arith
  first-start (p ∷ ps) i = omega arith

  starts-map : (n : ℕ) (ps : List X) → starts_from (λ (p : List A). p) n (map f ps) ≡ starts_from f n ps
  starts-map n [] = refl
  starts-map n (p ∷ ps) = ap (λ l. n ∷ l) (starts-map (n + length (f p)) ps)

  -- the same items in each page
  pub same-starts : (n : ℕ) (ps qs : List X) → map f ps ≡ map f qs → starts_from f n ps ≡ starts_from f n qs
  same-starts n ps qs e = sym (starts-map n ps) ∙ ap (starts_from (λ (p : List A). p) n) e ∙ starts-map n qs

  pub same-listed : (ps qs : List X) → map f ps ≡ map f qs → flat_map f ps ≡ flat_map f qs
  same-listed ps qs e = sym (flat_map-map (λ (p : List A). p) f ps) ∙ ap (flat_map (λ (p : List A). p)) e ∙ flat_map-map (λ (p : List A). p) f qs
