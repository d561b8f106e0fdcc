-- Pages of rows.
use Rattle.std.proofs.Common.{◌≡◌, ◌≢◌, ℕ, zero, suc, ◌*◌, ◌/◌, ◌%◌, ◌<◌, ◌≤◌, true, false, List, [], ◌∷◌, ◌++◌, length, map, Option, Some, None, is_some, option_map, unwrap_or, slice_get, set, get_or, Vec, vec_capacity, Global, refl, sym, ap, ◌∙◌, arith, inl, inr}
use Rattle.std.proofs.lemmas.Bool.{true≢false, false≢true, cases_eq}
use Rattle.std.proofs.lemmas.List.{map-set, length-append, length-map}
use Rattle.std.proofs.lemmas.Option.{slice_get-map, slice_get_read, slice_get_within}
use Rattle.pm_reach.specs.Rows.{option_at, page_at, place_at, has}
use Rattle.pm_reach.specs.Table.{words_of, spare, page_rows, page_rooms, page_places, tabled, is_own, IsPushed, HasRoom, Writes}
use Rattle.pm_reach.specs.declared.shared.HeldPage.{HeldPage}
use Rattle.pm_reach.specs.declared.shared.HeldPage.TheVariants.{Empty, Own, Shared}
use Rattle.pm_reach.specs.declared.page.Page.{Page}
use Rattle.pm_reach.proofs.Bits.{same_number}
use Rattle.pm_reach.proofs.Tables.{option_at_map, some-shown, shown-others, spare-others}

abbrev page_of : {X Y : Type 0} → (X → List Y) → Option X → List Y
page_of f o = unwrap_or (option_map f o) []

page_at-map : {X Y : Type 0} (f : X → List Y) (xs : List X) (k : ℕ) → page_at (map f xs) k ≡ page_of f (slice_get xs k)
page_at-map f xs k = ap (λ o. unwrap_or o []) (slice_get-map f xs k)

-- a place by its page
pub place_in : (pages : List HeldPage) (x : ℕ) → place_at (map page_rows pages) x ≡ option_at (page_of page_rows (slice_get pages (x / 64))) (x % 64)
place_in pages x = ap (λ (xs : List (Option (List ℕ))). option_at xs (x % 64)) (page_at-map page_rows pages (x / 64))

room_in : (pages : List HeldPage) (x : ℕ) → place_at (map page_rooms pages) x ≡ option_at (page_of page_rooms (slice_get pages (x / 64))) (x % 64)
room_in pages x = ap (λ (xs : List (Option ℕ)). option_at xs (x % 64)) (page_at-map page_rooms pages (x / 64))

pub is_own_some : (pages : List HeldPage) (k : ℕ) → is_own (slice_get pages k) ≡ true → (p : Page) × (slice_get pages k ≡ Some (Own p))
is_own_some pages k h = go (slice_get pages k) refl h where
  go : (o : Option HeldPage) → slice_get pages k ≡ o → is_own o ≡ true → (p : Page) × (slice_get pages k ≡ Some (Own p))
  go (Some Empty) e h = absurd (false≢true h)
  go (Some (Own p)) e h = (p, e)
  go (Some (Shared a)) e h = absurd (false≢true h)
  go None e h = absurd (false≢true h)

pub has_within : (pages : List HeldPage) (x : ℕ) → has (map page_rows pages) x ≡ true → x < length pages * 64
has_within pages x h = go (slice_get pages (x / 64)) refl (rw (← place_in pages x) h) where
  go : (o : Option HeldPage) → slice_get pages (x / 64) ≡ o → is_some (option_at (page_of page_rows o) (x % 64)) ≡ true → x < length pages * 64
  go None e h = absurd (false≢true h)
  go (Some page) e h = let below : x / 64 < length pages = slice_get_within pages (x / 64) page e in omega arith

slice_get-set_same : {X : Type 0} (xs : List X) (n : ℕ) (v x : X) → slice_get xs n ≡ Some x → slice_get (set xs n v) n ≡ Some v
slice_get-set_same [] n v x h = absurd (true≢false (sym (ap is_some h)))
slice_get-set_same (y ∷ xs) zero v x h = refl
slice_get-set_same (y ∷ xs) (suc n) v x h = slice_get-set_same xs n v x h

slice_get-set_other : {X : Type 0} (xs : List X) (n m : ℕ) (v : X) → m ≢ n → slice_get (set xs n v) m ≡ slice_get xs m
slice_get-set_other [] n m v h = refl
slice_get-set_other (x ∷ xs) zero zero v h = absurd (h refl)
slice_get-set_other (x ∷ xs) zero (suc m) v h = refl
slice_get-set_other (x ∷ xs) (suc n) zero v h = refl
slice_get-set_other (x ∷ xs) (suc n) (suc m) v h = slice_get-set_other xs n m v (λ e. h (ap suc e))

-- a page was replaced
pub record Swapped (old new : List HeldPage) (k : ℕ) (page made : HeldPage) : Type 0 where
  pub was : slice_get old k ≡ Some page
  pub is : slice_get new k ≡ Some made
  pub others : (m : ℕ) → m ≢ k → slice_get new m ≡ slice_get old m
  pub at : new ≡ set old k made

pub swapped : (old mid new : List HeldPage) (k : ℕ) (page made : HeldPage) → slice_get old k ≡ Some page →
    ((v : HeldPage) → set mid k v ≡ set old k v) → new ≡ set mid k made → Swapped old new k page made
swapped old mid new k page made was out back =
    let at : new ≡ set old k made = back ∙ out made in
    record {
      was = was;
      is = rw at (slice_get-set_same old k made page was);
      others = λ m ne. rw at (slice_get-set_other old k m made ne);
      at = at;
    }

-- one that was looked at where it stands
pub page_put : (old new : List HeldPage) (k : ℕ) (h made : HeldPage) → k < length old → h ≡ get_or old k h → new ≡ set old k made → Swapped old new k h made
page_put old new k h made fits read is = swapped old old new k h made (slice_get_read old (length old) k h refl fits read) (λ v. refl) is

-- what isn't the table's own has no room
pub no-room : (h : HeldPage) → is_own (Some h) ≡ false → (i n : ℕ) → HasRoom (option_at (page_rooms h) i) n → ⊥
no-room Empty h i n r = r
no-room (Own p) h i n r = true≢false h
no-room (Shared a) h i n r = r

-- by one with the same rows
pub swapped-same : {old new : List HeldPage} {k : ℕ} {page made : HeldPage} → Swapped old new k page made → page_rows made ≡ page_rows page →
    map page_rows new ≡ map page_rows old
swapped-same {old} {new} {k} {page} {made} s same =
    ap (map page_rows) s.at ∙ map-set page_rows old k made ∙ ap (λ (rows : List (Option (List ℕ))). set (map page_rows old) k rows) same ∙ back old k s.was where
      back : (xs : List HeldPage) (n : ℕ) → slice_get xs n ≡ Some page → set (map page_rows xs) n (page_rows page) ≡ map page_rows xs
      back [] n h = refl
      back (x ∷ xs) zero h = ap (λ (o : Option HeldPage). page_rows (unwrap_or o x) ∷ map page_rows xs) (sym h)
      back (x ∷ xs) (suc n) h = ap (λ ys. page_rows x ∷ ys) (back xs n h)

pub rows-new : {old new : List HeldPage} {k : ℕ} {page made : HeldPage} → Swapped old new k page made →
    (y : ℕ) → y / 64 ≡ k → place_at (map page_rows new) y ≡ option_at (page_rows made) (y % 64)
rows-new {new = new} s y e = place_in new y ∙ rw (e, s.is) refl

pub rows-old : {old new : List HeldPage} {k : ℕ} {page made : HeldPage} → Swapped old new k page made →
    (y : ℕ) → y / 64 ≡ k → place_at (map page_rows old) y ≡ option_at (page_rows page) (y % 64)
rows-old {old} s y e = place_in old y ∙ rw (e, s.was) refl

rows-other : {old new : List HeldPage} {k : ℕ} {page made : HeldPage} → Swapped old new k page made →
    (y : ℕ) → y / 64 ≢ k → place_at (map page_rows new) y ≡ place_at (map page_rows old) y
rows-other {old} {new} s y ne = place_in new y ∙ rw (s.others (y / 64) ne) (sym (place_in old y))

rooms-new : {old new : List HeldPage} {k : ℕ} {page made : HeldPage} → Swapped old new k page made →
    (y : ℕ) → y / 64 ≡ k → place_at (map page_rooms new) y ≡ option_at (page_rooms made) (y % 64)
rooms-new {new = new} s y e = room_in new y ∙ rw (e, s.is) refl

rooms-old : {old new : List HeldPage} {k : ℕ} {page made : HeldPage} → Swapped old new k page made →
    (y : ℕ) → y / 64 ≡ k → place_at (map page_rooms old) y ≡ option_at (page_rooms page) (y % 64)
rooms-old {old} s y e = room_in old y ∙ rw (e, s.was) refl

rooms-other : {old new : List HeldPage} {k : ℕ} {page made : HeldPage} → Swapped old new k page made →
    (y : ℕ) → y / 64 ≢ k → place_at (map page_rooms new) y ≡ place_at (map page_rooms old) y
rooms-other {old} {new} s y ne = room_in new y ∙ rw (s.others (y / 64) ne) (sym (room_in old y))

-- where one place of the page was written, the others are as they were
pub swapped-others : {old new : List HeldPage} (x : ℕ) {page made : HeldPage} → Swapped old new (x / 64) page made →
    ((i : ℕ) → i ≢ x % 64 → option_at (page_rows made) i ≡ option_at (page_rows page) i) →
    (y : ℕ) → y ≢ x → place_at (map page_rows new) y ≡ place_at (map page_rows old) y
swapped-others x s h y ne = elim (cases_eq (y / 64) (x / 64)) [
  | inl e ↦ rows-new s y e ∙ h (y % 64) (λ m. ne (same_number y x e m)) ∙ sym (rows-old s y e)
  | inr d ↦ rows-other s y d
]

pub swapped-stays : {old new : List HeldPage} {k : ℕ} {page made : HeldPage} → Swapped old new k page made →
    ((i n : ℕ) → HasRoom (option_at (page_rooms page) i) n → HasRoom (option_at (page_rooms made) i) n) →
    (y n : ℕ) → HasRoom (place_at (map page_rooms old) y) n → HasRoom (place_at (map page_rooms new) y) n
swapped-stays {k = k} s h y n r = elim (cases_eq (y / 64) k) [
  | inl e ↦ rw (rooms-new s y e) (h (y % 64) n (rw (rooms-old s y e) at r))
  | inr d ↦ rw (rooms-other s y d) r
]

pub swapped-room : {old new : List HeldPage} (x : ℕ) {page : HeldPage} {made : Page} → Swapped old new (x / 64) page (Own made) →
    (n : ℕ) → HasRoom (option_at (spare made.rows.items) (x % 64)) n → HasRoom (place_at (map page_rooms new) x) n
swapped-room x s n h = rw (rooms-new s x refl) h

-- a row that is ready stands in a page of the table's own
pub ready-own : (pages : List HeldPage) (x n : ℕ) → HasRoom (place_at (map page_rooms pages) x) n → is_own (slice_get pages (x / 64)) ≡ true
ready-own pages x n h = go (slice_get pages (x / 64)) (rw room_in at h) where
  go : (o : Option HeldPage) → HasRoom (option_at (page_of page_rooms o) (x % 64)) n → is_own o ≡ true
  go (Some Empty) h = absurd h
  go (Some (Own p)) h = refl
  go (Some (Shared a)) h = absurd h
  go None h = absurd h

pub ready-page : (pages : List HeldPage) (x n : ℕ) (p : Page) → slice_get pages (x / 64) ≡ Some (Own p) → HasRoom (place_at (map page_rooms pages) x) n →
    HasRoom (option_at (spare p.rows.items) (x % 64)) n
ready-page pages x n p e h = rw (room_in pages x, e) at h

-- a page of the table's own that was written where it stands
pub page_written : (pages : List HeldPage) (k : ℕ) (h : HeldPage) {page : Page} (made : Page) → is_own (slice_get pages k) ≡ true →
    h ≡ get_or pages k h → h ≡ Own page → Swapped pages (set pages k (Own made)) k (Own page) (Own made)
page_written pages k h {page} made owned read own =
    let there = is_own_some pages k owned in
    let fits : k < length pages = slice_get_within pages k (Own there.0) there.1 in
    swapped pages pages (set pages k (Own made)) k (Own page) (Own made) (slice_get_read pages (length pages) k h refl fits read ∙ ap Some own) (λ v. refl) refl

-- a row stands in its page
pub has-page : (pages : List HeldPage) (x : ℕ) (p : Page) → slice_get pages (x / 64) ≡ Some (Own p) → has (map page_rows pages) x ≡ true →
    is_some (option_at p.rows.items (x % 64)) ≡ true
has-page pages x p e h = sym (some-shown p.rows.items (x % 64)) ∙ rw (place_in pages x, e) at h

pub writes-page : (old new : Vec HeldPage Global) (x : ℕ) {page made : Page} → Swapped old.items new.items (x / 64) (Own page) (Own made) →
    is_some (option_at page.rows.items (x % 64)) ≡ true → is_some (option_at made.rows.items (x % 64)) ≡ true →
    ((i : ℕ) → i ≢ x % 64 → option_at made.rows.items i ≡ option_at page.rows.items i) → Writes x (tabled old) (tabled new)
writes-page old new x {page} {made} s before after same =
    let others = swapped-others x s (shown-others page.rows.items made.rows.items (x % 64) same) in
    record {
      others = others;
      has = λ y. elim (cases_eq y x) [
        | inl e ↦ rw e (ap is_some (rows-new s x refl) ∙ some-shown made.rows.items (x % 64) ∙ after ∙ sym (ap is_some (rows-old s x refl) ∙ some-shown page.rows.items (x % 64) ∙ before))
        | inr ne ↦ ap is_some (others y ne)
      ];
      ready = λ y n ne h. elim (cases_eq (y / 64) (x / 64)) [
        | inl e ↦ rw (rooms-new s y e, spare-others page.rows.items made.rows.items (x % 64) same (y % 64) (λ m. ne (same_number y x e m))) (rw (rooms-old s y e) at h)
        | inr d ↦ rw (rooms-other s y d) h
      ];
    }

-- ---- places

-- a page that has places is the table's own
pub own-places : (pages : List HeldPage) (k j : ℕ) → j < get_or (map page_places pages) k 0 → (p : Page) × (slice_get pages k ≡ Some (Own p)) × (j < vec_capacity p.rows)
own-places [] zero j h = absurd (omega (arith, h))
own-places [] (suc k) j h = absurd (omega (arith, h))
own-places (Empty ∷ pages) zero j h = absurd (omega (arith, h))
own-places (Own p ∷ pages) zero j h = (p, refl, h)
own-places (Shared a ∷ pages) zero j h = absurd (omega (arith, h))
own-places (x ∷ pages) (suc k) j h = own-places pages k j h

pub places-own : (pages : List HeldPage) (k j : ℕ) (p : Page) → slice_get pages k ≡ Some (Own p) → j < vec_capacity p.rows → j < get_or (map page_places pages) k 0
places-own [] k j p e h = absurd (true≢false (sym (ap is_some e)))
places-own (x ∷ pages) zero j p e h = go x e where
  go : (x : HeldPage) → Some x ≡ Some (Own p) → j < page_places x
  go x e = rw (ap (λ o. unwrap_or o x) e) h
places-own (x ∷ pages) (suc k) j p e h = places-own pages k j p e h

pub open-own : (pages : List HeldPage) (x : ℕ) → x % 64 < get_or (map page_places pages) (x / 64) 0 → is_own (slice_get pages (x / 64)) ≡ true
open-own pages x h = let o = own-places pages (x / 64) (x % 64) h in rw (o.1) refl

-- the page taken out has the place
pub open-page : (pages : List HeldPage) (x : ℕ) (p : Page) → slice_get pages (x / 64) ≡ Some (Own p) → x % 64 < get_or (map page_places pages) (x / 64) 0 →
    x % 64 < vec_capacity p.rows
open-page pages x p e h =
    let o = own-places pages (x / 64) (x % 64) h in
    rw (same-page (sym e ∙ o.1)) (o.2) where
      same-page : {p q : Page} → Some (Own p) ≡ Some (Own q) → p ≡ q
      same-page {p} {q} e = ap (λ (o : Option HeldPage). owned o) e where
        owned : Option HeldPage → Page
        owned (Some Empty) = p
        owned (Some (Own r)) = r
        owned (Some (Shared a)) = p
        owned None = p

-- ---- a page behind the others

page-last : (pages : List HeldPage) (v : HeldPage) (m : ℕ) → m ≢ length pages → page_at (map page_rows (pages ++ v ∷ [])) m ≡ page_at (map page_rows pages) m
page-last [] v zero ne = absurd (ne refl)
page-last [] v (suc m) ne = refl
page-last (p ∷ pages) v zero ne = refl
page-last (p ∷ pages) v (suc m) ne = page-last pages v m (λ e. ne (ap suc e))

page-there : (pages : List HeldPage) (v : HeldPage) → page_at (map page_rows (pages ++ v ∷ [])) (length pages) ≡ page_rows v
page-there [] v = refl
page-there (p ∷ pages) v = page-there pages v

-- a page without rows changes nothing
pub page_empty : (pages : List HeldPage) (m : ℕ) → page_at (map page_rows (pages ++ Empty ∷ [])) m ≡ page_at (map page_rows pages) m
page_empty pages m = elim (cases_eq m (length pages)) [
  | inl at ↦ rw at (page-there pages Empty ∙ sym (past pages))
  | inr ne ↦ page-last pages Empty m ne
] where
  past : (pages : List HeldPage) → page_at (map page_rows pages) (length pages) ≡ []
  past [] = refl
  past (p ∷ pages) = past pages

pub pushed : (old mid new : List HeldPage) (k : ℕ) (p : Page) → length mid ≡ k → ((m : ℕ) → page_at (map page_rows mid) m ≡ page_at (map page_rows old) m) →
    new ≡ mid ++ Own p ∷ [] → IsPushed k p old new
pushed old mid new k p long same is = record {
  long = rw is (simp length-append (omega arith));
  page = rw (is, ← long) (page-there mid (Own p));
  others = λ m ne. rw is (page-last mid (Own p) m (λ e. ne (e ∙ long)) ∙ same m);
}

pub pushed-others : {old new : List HeldPage} (x : ℕ) {p : Page} → IsPushed (x / 64) p old new → length old ≤ x / 64 →
    ((i : ℕ) → i ≢ x % 64 → option_at p.rows.items i ≡ None) →
    (y : ℕ) → y ≢ x → place_at (map page_rows new) y ≡ place_at (map page_rows old) y
pushed-others {old} {new} x {p} s short none y ne = elim (cases_eq (y / 64) (x / 64)) [
  | inl e ↦ rw (e, s.page, option_at_map words_of p.rows.items (y % 64), none (y % 64) (λ m. ne (same_number y x e m)), past old (x / 64) short) refl
  | inr d ↦ ap (λ (xs : List (Option (List ℕ))). option_at xs (y % 64)) (s.others (y / 64) d)
] where
  past : (pages : List HeldPage) (m : ℕ) → length pages ≤ m → page_at (map page_rows pages) m ≡ []
  past [] m l = refl
  past (p ∷ pages) zero l = absurd (omega arith)
  past (p ∷ pages) (suc m) l = past pages m (omega arith)

pub short-pages : (pages : List HeldPage) (k : ℕ) → length (map page_rows pages) ≤ k → length pages ≤ k
short-pages pages k h = simp length-map at h

pub found-row : (pages : List HeldPage) (x : ℕ) (page : HeldPage) → slice_get pages (x / 64) ≡ Some page →
    option_at (page_rows page) (x % 64) ≡ place_at (map page_rows pages) x
found-row pages x page e = sym (place_in pages x ∙ rw e refl)

pub found-none : (pages : List HeldPage) (x : ℕ) → slice_get pages (x / 64) ≡ None → None ≡ place_at (map page_rows pages) x
found-none pages x e = sym (place_in pages x ∙ rw e refl)
