-- Pages that are written, put in and taken out.
use Rattle.std.proofs.Common.{◌≡◌, ◌==◌, ◌<◌, ◌≤◌, ℕ, zero, suc, ◌+◌, ◌-◌, Bool, true, false, List, [], ◌∷◌, ◌++◌, length, get_or, set, map, take, drop, insert, remove, refl, sym, ap, subst, ◌∙◌, arith, Result, Ok, Err, OnOk, OnErr, append_assoc, append-nil}
use Rattle.std.specs.List.{flat_map, list_all}
use Rattle.std.proofs.lemmas.List.Edits.{insert-append_left, insert-append_right, insert_end, length-remove}
use Rattle.std.proofs.lemmas.Bool.{eqb-true}
use Rattle.pm_pages.specs.Listed.{piece, IsSpot, edited, items_of, is_own, listed, all_own, without_empty, IsSplit}
use Rattle.pm_pages.specs.declared.pages.Page.{Page}
use Rattle.pm_pages.specs.declared.pages.Page.TheVariants.{Own}
use Rattle.pm_pages.proofs.Spots.{piece_read}

module _ {X : Type 0} where
  pub set_edited : (g : X → X) (ps : List X) (k : ℕ) (x : X) → k < length ps → x ≡ get_or ps k x → set ps k (g x) ≡ edited g k ps
  set_edited g [] k x h is = absurd (omega (arith, h))
  set_edited g (p ∷ ps) zero x h is = rw is refl
  set_edited g (p ∷ ps) (suc k) x h is = ap (λ qs. p ∷ qs) (set_edited g ps k x (omega (arith, h)) is)

  pub map-edited : {A : Type 0} (f : X → A) (g : X → X) → ((x : X) → f (g x) ≡ f x) → (k : ℕ) (ps : List X) → map f (edited g k ps) ≡ map f ps
  map-edited f g e k [] = refl
  map-edited f g e zero (p ∷ ps) = ap (λ x. x ∷ map f ps) (e p)
  map-edited f g e (suc k) (p ∷ ps) = ap (λ xs. f p ∷ xs) (map-edited f g e k ps)

  -- two changes that are the same at page k
  pub edited-as : (g h : X → X) (ps : List X) (k : ℕ) → ((x : X) → x ≡ get_or ps k x → g x ≡ h x) → edited g k ps ≡ edited h k ps
  edited-as g h [] k e = refl
  edited-as g h (p ∷ ps) zero e = ap (λ x. x ∷ ps) (e p refl)
  edited-as g h (p ∷ ps) (suc k) e = ap (λ xs. p ∷ xs) (edited-as g h ps k e)

  pub edited-none : (h : X → X) (ps : List X) (k : ℕ) → ((x : X) → x ≡ get_or ps k x → x ≡ h x) → ps ≡ edited h k ps
  edited-none h [] k e = refl
  edited-none h (p ∷ ps) zero e = ap (λ x. x ∷ ps) (e p refl)
  edited-none h (p ∷ ps) (suc k) e = ap (λ xs. p ∷ xs) (edited-none h ps k e)

  -- one more turn of a loop that changes each item
  pub edited-front : (g : X → X) (xs : List X) (k : ℕ) → k < length xs → edited g k (map g (take k xs) ++ drop k xs) ≡ map g (take (k + 1) xs) ++ drop (k + 1) xs
  edited-front g [] k h = absurd (omega (arith, h))
  edited-front g (x ∷ xs) zero h = refl
  edited-front g (x ∷ xs) (suc k) h =
      let next : suc k + 1 ≡ suc (k + 1) = omega arith in
      rw next (ap (λ ys. g x ∷ ys) (edited-front g xs k (omega (arith, h))))

  pub map-set : {A : Type 0} (f : X → A) (ps : List X) (k : ℕ) (x y : X) → k < length ps → x ≡ get_or ps k x → f y ≡ f x → map f (set ps k y) ≡ map f ps
  map-set f [] k x y h is e = refl
  map-set f (p ∷ ps) zero x y h is e = ap (λ z. z ∷ map f ps) (e ∙ ap f is)
  map-set f (p ∷ ps) (suc k) x y h is e = ap (λ zs. f p ∷ zs) (map-set f ps k x y (omega (arith, h)) is e)

  pub all-step : (test : X → Bool) (g : X → X) → ((x : X) → test (g x) ≡ true) → (ps : List X) (k : ℕ) → k < length ps →
      list_all test (take k ps) ≡ true → list_all test (take (k + 1) (edited g k ps)) ≡ true
  all-step test g e [] k h all = absurd (omega (arith, h))
  all-step test g e (p ∷ ps) zero h all = rw (e p) refl
  all-step test g e (p ∷ ps) (suc k) h all =
      let next : suc k + 1 ≡ suc (k + 1) = omega arith in
      rw next (grind (arith, all, all-step test g e ps k (omega (arith, h)) (grind (arith, all))))

  pub length-edited : (g : X → X) (k : ℕ) (ps : List X) → length (edited g k ps) ≡ length ps
  length-edited g k [] = refl
  length-edited g zero (p ∷ ps) = refl
  length-edited g (suc k) (p ∷ ps) = ap suc (length-edited g k ps)

module _ {X : Type 0} (test : X → Bool) where
  pub all-edited : (g : X → X) → ((p : X) → test p ≡ true → test (g p) ≡ true) → (k : ℕ) (ps : List X) → list_all test ps ≡ true → list_all test (edited g k ps) ≡ true
  all-edited g e k [] h = h
  all-edited g e zero (p ∷ ps) h = let here : test p ≡ true = grind (arith, h) in grind (arith, e p here, h)
  all-edited g e (suc k) (p ∷ ps) h = grind (arith, all-edited g e k ps, h)

  pub all-split : (ps : List X) (k : ℕ) (a b : X) → test a ≡ true → test b ≡ true → list_all test ps ≡ true → list_all test (set (insert ps (suc k) b) k a) ≡ true
  all-split [] zero a b ta tb all = rw ta refl
  all-split [] (suc k) a b ta tb all = rw tb refl
  all-split (p ∷ ps) zero a b ta tb all = grind (arith, all, ta, tb)
  all-split (p ∷ ps) (suc k) a b ta tb all = grind (arith, all, all-split ps k a b ta tb (grind (arith, all)))

  pub all-removed : (ps : List X) (k : ℕ) → list_all test ps ≡ true → list_all test (remove ps k) ≡ true
  all-removed [] zero all = refl
  all-removed [] (suc k) all = refl
  all-removed (p ∷ ps) zero all = grind (arith, all)
  all-removed (p ∷ ps) (suc k) all = grind (arith, all, all-removed ps k (grind (arith, all)))

-- a fact that holds whether a call changed the pages or not
pub either_way : {A E X : Type 0} (r : Result A E) (new changed old : X) (P : X → Type 0) → OnOk r (new ≡ changed) → OnErr r (new ≡ old) → P changed → P old → P new
either_way (Ok x) new changed old P ok err after before = subst P (sym ok) after
either_way (Err e) new changed old P ok err after before = subst P (sym err) before

module _ {X A : Type 0} (f : X → List A) where
  -- the last page with one item more
  pub pushed-last : (g : X → X) (ps : List X) (k j : ℕ) (x : A) → length ps ≡ suc k → j ≡ length (piece f ps k) → ((p : X) → f (g p) ≡ insert (f p) j x) → flat_map f (edited g k ps) ≡ flat_map f ps ++ x ∷ []
  pushed-last g [] k j x l is e = absurd (omega (arith, l))
  pushed-last g (p ∷ []) zero j x l is e =
      append-nil (f (g p)) ∙ e p ∙ ap (λ n. insert (f p) n x) is ∙ insert_end (f p) x ∙ ap (λ xs. xs ++ x ∷ []) (sym (append-nil (f p)))
  pushed-last g (p ∷ q ∷ ps) zero j x l is e = absurd (omega (arith, l))
  pushed-last g (p ∷ ps) (suc k) j x l is e = ap (λ xs. f p ++ xs) (pushed-last g ps k j x (omega (arith, l)) is e) ∙ sym (append_assoc (f p) (flat_map f ps) (x ∷ []))

  -- a page without items taken out
  pub dropped-empty : (ps : List X) (k : ℕ) → k < length ps → piece f ps k ≡ [] → flat_map f (remove ps k) ≡ flat_map f ps
  dropped-empty [] k h e = absurd (omega (arith, h))
  dropped-empty (p ∷ ps) zero h e = rw e refl
  dropped-empty (p ∷ ps) (suc k) h e = ap (λ xs. f p ++ xs) (dropped-empty ps k (omega (arith, h)) e)

  -- a page in two halves with one item more
  pub spot-split : (ps : List X) (i k j : ℕ) (x : A) (a b : X) → IsSpot f ps i k j → f a ++ f b ≡ insert (piece f ps k) j x
      → flat_map f (set (insert ps (suc k) b) k a) ≡ insert (flat_map f ps) i x
  spot-split [] i k j x a b s e = absurd s
  spot-split (p ∷ ps) i zero j x a b s e =
      rw s.0 (sym (append_assoc (f a) (f b) (flat_map f ps)) ∙ ap (λ xs. xs ++ flat_map f ps) e ∙ sym (insert-append_left (f p) (flat_map f ps) j x (omega (arith, s.1))))
  spot-split (p ∷ ps) i (suc k) j x a b s e =
      ap (λ xs. f p ++ xs) (spot-split ps (i - length (f p)) k j x a b s.1 e) ∙ sym (insert-append_right (f p) (flat_map f ps) (length (f p)) i x refl s.0)

pub no_items : {A : Type 0} (xs : List A) → length xs ≡ 0 → xs ≡ []
no_items [] e = refl
no_items (x ∷ xs) e = absurd (omega (arith, e))

module _ {T : Type 0} where
  pub remove-empty : (ps : List (Page T)) (k : ℕ) (x : Page T) → k < length ps → x ≡ get_or ps k x → (length (items_of x) == 0) ≡ true → remove ps k ≡ without_empty k ps
  remove-empty ps k x h is none = rw (piece_read items_of ps k x h is, none) refl

  pub keep-full : (ps : List (Page T)) (k : ℕ) (x : Page T) → k < length ps → x ≡ get_or ps k x → (length (items_of x) == 0) ≡ false → ps ≡ without_empty k ps
  keep-full ps k x h is some = rw (piece_read items_of ps k x h is, some) refl

  emptied : {A : Type 0} (f : Page T → List A) (b : Bool) (ps : List (Page T)) (k : ℕ) → (length (piece items_of ps k) == 0) ≡ b → length (piece f ps k) ≡ length (piece items_of ps k) → k < length ps → flat_map f (without_empty k ps) ≡ flat_map f ps
  emptied f true ps k is l h = rw is (dropped-empty f ps k h (no_items (piece f ps k) (l ∙ eqb-true _ 0 is)))
  emptied f false ps k is l h = rw is refl

  -- a page without items has nothing to tell of them
  pub flat-emptied : {A : Type 0} (f : Page T → List A) (ps : List (Page T)) (k : ℕ) → length (piece f ps k) ≡ length (piece items_of ps k) → k < length ps → flat_map f (without_empty k ps) ≡ flat_map f ps
  flat-emptied f ps k l h = emptied f (length (piece items_of ps k) == 0) ps k refl l h

  fewer : (b : Bool) (ps : List (Page T)) (k : ℕ) → (length (piece items_of ps k) == 0) ≡ b → k < length ps → length (without_empty k ps) ≤ length ps
  fewer true ps k is h = let l = length-remove ps k h in rw is (omega (arith, l))
  fewer false ps k is h = rw is (omega arith)

  pub length-emptied : (ps : List (Page T)) (k : ℕ) → k < length ps → length (without_empty k ps) ≤ length ps
  length-emptied ps k h = fewer (length (piece items_of ps k) == 0) ps k refl h

  own-left : (b : Bool) (ps : List (Page T)) (k : ℕ) → (length (piece items_of ps k) == 0) ≡ b → all_own ps ≡ true → all_own (without_empty k ps) ≡ true
  own-left true ps k is all = rw is (all-removed is_own ps k all)
  own-left false ps k is all = rw is all

  pub own-emptied : (ps : List (Page T)) (k : ℕ) → all_own ps ≡ true → all_own (without_empty k ps) ≡ true
  own-emptied ps k all = own-left (length (piece items_of ps k) == 0) ps k refl all

  pub listed-split : (old new : List (Page T)) (i k j : ℕ) (x : T) → IsSpot items_of old i k j → IsSplit k j x old new → listed new ≡ insert (listed old) i x
  listed-split old new i k j x s split =
      let next : k + 1 ≡ suc k = omega arith in
      rw (split.pages, next) (spot-split items_of old i k j x (Own split.head) (Own split.tail) s split.halves)

  pub own-split : {A E : Type 0} (r : Result A E) (old new : List (Page T)) (k j : ℕ) (x : T) → OnOk r (IsSplit k j x old new) → OnErr r (new ≡ old) → all_own old ≡ true → all_own new ≡ true
  own-split (Ok a) old new k j x split same all =
      let next : k + 1 ≡ suc k = omega arith in
      rw (split.pages, next) (all-split is_own old k (Own split.head) (Own split.tail) refl refl all)
  own-split (Err e) old new k j x split same all = rw same all
