-- Entries that go into a map from the last to the first stand in it as sorted.
use Rattle.std.proofs.Common.{zero, suc, ◌≡◌, ◌<◌, ◌≤◌, ◌+◌, ◌-◌, ℕ, Bool, true, false, List, [], ◌∷◌, length, map, drop, get_or, Contains, refl, sym, ◌∙◌, ap, subst, arith, if◌then◌else◌}
use Rattle.std.specs.List.{list_any}
use Rattle.std.specs.BTreeMap.{insert_entry}
use Rattle.std.specs.Ordering.{is_eq, is_lt, match_ordering}
use Rattle.std.specs.declared.cmp.Ordering.{Ordering}
use Rattle.std.specs.declared.cmp.Ordering.TheVariants.{Less, Equal, Greater}
use Rattle.std.proofs.lemmas.Bool.{or_parts}
use Rattle.std.proofs.Math.Seq.{drop-length}
use Rattle.pm_laws.proofs.Items.{contains-first, contains-rest, none-at, none-from}
use Rattle.pm_policy.specs.Order.{inserted, sorted}
use Rattle.pm_policy.specs.Sound.{AreOnce}
use Rattle.pm_policy.proofs.Sorted.{has-sorted}
use Rattle.pm_by_name.specs.Keyed.{goes_first, has_key_of}

module _ {K V : Type 0} (cmp : K → K → Ordering) where
  insert-new : (k : K) (v : V) (es : List (K × V)) → list_any (has_key_of cmp (k, v)) es ≡ false →
      insert_entry cmp es k v ≡ inserted (goes_first cmp) (k, v) es
  insert-new k v [] h = refl
  insert-new k v (e ∷ es) h =
      let p = or_parts (is_eq (cmp k e.0)) (list_any (has_key_of cmp (k, v)) es) h in
      of (cmp k e.0) p.0 (insert-new k v es p.1) where
        of : (o : Ordering) → is_eq o ≡ false → insert_entry cmp es k v ≡ inserted (goes_first cmp) (k, v) es →
            match_ordering o ((k, v) ∷ e ∷ es) ((e.0, v) ∷ es) (e ∷ insert_entry cmp es k v)
            ≡ (if is_lt o then (k, v) ∷ e ∷ es else e ∷ inserted (goes_first cmp) (k, v) es)
        of Less h rest = refl
        of Equal h rest = absurd (cc)
        of Greater h rest = ap (λ l. e ∷ l) rest

  -- one entry more
  pub entry-more : (es : List (K × V)) (i : ℕ) (d : K × V) → AreOnce (has_key_of cmp) es → i < length es →
      insert_entry cmp (sorted (goes_first cmp) (drop (i + 1) es)) (get_or es i d).0 (get_or es i d).1 ≡ sorted (goes_first cmp) (drop i es)
  entry-more [] i d once below = absurd (omega (arith, below))
  entry-more (e ∷ es) zero d once below =
      insert-new e.0 e.1 (sorted (goes_first cmp) es)
      (none-from (has_key_of cmp e) (sorted (goes_first cmp) es) (λ z c. none-at (has_key_of cmp e) es z once.0 (has-sorted (goes_first cmp) es z c)))
  entry-more (e ∷ es) (suc i) d once below =
      subst (λ m. insert_entry cmp (sorted (goes_first cmp) (drop m (e ∷ es))) (get_or es i d).0 (get_or es i d).1 ≡ sorted (goes_first cmp) (drop i es))
      (let is : suc (i + 1) ≡ suc i + 1 = omega arith in is) (entry-more es i d once.1 (omega (arith, below)))

  -- all of them, from the last on
  pub entries-none : (es : List (K × V)) → sorted (goes_first cmp) (drop (length es - 0) es) ≡ []
  entries-none es =
      let whole : length es - 0 ≡ length es = omega arith in
      ap (λ n. sorted (goes_first cmp) (drop n es)) whole ∙ ap (λ l. sorted (goes_first cmp) l) (drop-length es)

  pub entries-step : (es : List (K × V)) (k : ℕ) (e : K × V) (old new : List (K × V)) → AreOnce (has_key_of cmp) es → k < length es →
      e ≡ get_or es (length es - 1 - k) e → old ≡ sorted (goes_first cmp) (drop (length es - k) es) → new ≡ insert_entry cmp old e.0 e.1 →
      new ≡ sorted (goes_first cmp) (drop (length es - (k + 1)) es)
  entries-step es k e old new once below is before inserted_is =
      let i = length es - 1 - k in
      let within : i < length es = omega (arith, below) in
      let next : i + 1 ≡ length es - k = omega (arith, below) in
      let this : i ≡ length es - (k + 1) = omega (arith, below) in
      inserted_is ∙ ap (λ l. insert_entry cmp l e.0 e.1) before
      ∙ subst (λ n. insert_entry cmp (sorted (goes_first cmp) (drop n es)) e.0 e.1 ≡ sorted (goes_first cmp) (drop i es)) next
      (subst (λ (x : K × V). insert_entry cmp (sorted (goes_first cmp) (drop (i + 1) es)) x.0 x.1 ≡ sorted (goes_first cmp) (drop i es)) (sym is) (entry-more es i e once within))
      ∙ ap (λ n. sorted (goes_first cmp) (drop n es)) this

  pub entries-whole : (es : List (K × V)) (k : ℕ) (old : List (K × V)) → length es ≤ k → old ≡ sorted (goes_first cmp) (drop (length es - k) es) →
      old ≡ sorted (goes_first cmp) es
  entries-whole es k old past is =
      let none : length es - k ≡ 0 = omega (arith, past) in is ∙ ap (λ n. sorted (goes_first cmp) (drop n es)) none

-- ---- what is made of items that are sorted

module _ {X Y : Type 0} (f : X → Y) (b : X → X → Bool) (c : Y → Y → Bool) where
  inserted-map : (x : X) (ys : List X) → ((y : X) → Contains ys y → b x y ≡ c (f x) (f y)) → map f (inserted b x ys) ≡ inserted c (f x) (map f ys)
  inserted-map x [] same = refl
  inserted-map x (y ∷ ys) same =
      of (b x y) (same y (contains-first y ys)) (inserted-map x ys (λ z d. same z (contains-rest y z ys d))) where
        of : (t : Bool) → t ≡ c (f x) (f y) → map f (inserted b x ys) ≡ inserted c (f x) (map f ys) →
            map f (if t then x ∷ y ∷ ys else y ∷ inserted b x ys) ≡ (if c (f x) (f y) then f x ∷ f y ∷ map f ys else f y ∷ inserted c (f x) (map f ys))
        of true is rest = rw (← is) refl
        of false is rest = rw (← is) (ap (λ l. f y ∷ l) rest)

  pub sorted-map : (xs : List X) → ((x y : X) → Contains xs x → Contains xs y → b x y ≡ c (f x) (f y)) → map f (sorted b xs) ≡ sorted c (map f xs)
  sorted-map [] same = refl
  sorted-map (x ∷ xs) same =
      inserted-map x (sorted b xs) (λ y d. same x y (contains-first x xs) (contains-rest x y xs (has-sorted b xs y d)))
      ∙ ap (λ l. inserted c (f x) l) (sorted-map xs (λ y z d e. same y z (contains-rest x y xs d) (contains-rest x z xs e)))

module _ {X Y : Type 0} (f : X → Y) (a : X → X → Bool) (b : Y → Y → Bool) (same : (x y : X) → b (f x) (f y) ≡ a x y) where
  any-map : (x : X) (ys : List X) → list_any (b (f x)) (map f ys) ≡ list_any (a x) ys
  any-map x [] = refl
  any-map x (y ∷ ys) = rw (same x y, any-map x ys) refl

  pub once-map : (xs : List X) → AreOnce a xs → AreOnce b (map f xs)
  once-map [] h = tt
  once-map (x ∷ xs) h = (any-map x xs ∙ h.0, once-map xs h.1)
