-- Lists by number, in which some have nothing.
use Rattle.std.proofs.Common.{◌≡◌, ◌≢◌, ℕ, zero, suc, ◌<◌, ◌≤◌, true, List, [], ◌∷◌, ◌++◌, length, map, Option, Some, None, is_some, option_map, unwrap_or, get_or, set, vec_capacity, refl, sym, ap, ◌∙◌, arith, inl, inr}
use Rattle.std.proofs.lemmas.Bool.{true≢false, cases_eq}
use Rattle.std.proofs.lemmas.List.{map-set}
use Rattle.std.proofs.lemmas.Option.{slice_get_read}
use Rattle.pm_reach.specs.Words.{in_row}
use Rattle.pm_reach.specs.Rows.{option_at, row_has}
use Rattle.pm_reach.specs.Table.{words_of, room_of, room_at, shown, spare, HasRoom}
use Rattle.pm_reach.specs.declared.held.Held.{Held}
use Rattle.pm_reach.specs.declared.held.Held.TheVariants.{Own, Shared}
use Rattle.pm_reach.specs.declared.page.Row.{Row}

pub option_at_map : {X Y : Type 0} (f : X → Y) (xs : List (Option X)) (n : ℕ) → option_at (map (option_map f) xs) n ≡ option_map f (option_at xs n)
option_at_map f [] n = refl
option_at_map f (x ∷ xs) zero = refl
option_at_map f (x ∷ xs) (suc n) = option_at_map f xs n

pub option_at-set_same : {X : Type 0} (xs : List (Option X)) (n : ℕ) (v : Option X) → n < length xs → option_at (set xs n v) n ≡ v
option_at-set_same [] n v h = absurd (omega arith)
option_at-set_same (x ∷ xs) zero v h = refl
option_at-set_same (x ∷ xs) (suc n) v h = option_at-set_same xs n v (omega arith)

pub option_at-set_other : {X : Type 0} (xs : List (Option X)) (n m : ℕ) (v : Option X) → m ≢ n → option_at (set xs n v) m ≡ option_at xs m
option_at-set_other [] n m v h = refl
option_at-set_other (x ∷ xs) zero zero v h = absurd (h refl)
option_at-set_other (x ∷ xs) zero (suc m) v h = refl
option_at-set_other (x ∷ xs) (suc n) zero v h = refl
option_at-set_other (x ∷ xs) (suc n) (suc m) v h = option_at-set_other xs n m v (λ e. h (ap suc e))

pub option_at-within : {X : Type 0} (xs : List (Option X)) (n : ℕ) → is_some (option_at xs n) ≡ true → n < length xs
option_at-within [] n h = absurd (true≢false (sym h))
option_at-within (x ∷ xs) zero h = omega arith
option_at-within (x ∷ xs) (suc n) h = omega (arith, option_at-within xs n h)

-- one place more, with nothing
pub option_at-none : {X : Type 0} (xs : List (Option X)) (n : ℕ) → option_at (xs ++ None ∷ []) n ≡ option_at xs n
option_at-none [] zero = refl
option_at-none [] (suc n) = refl
option_at-none (x ∷ xs) zero = refl
option_at-none (x ∷ xs) (suc n) = option_at-none xs n

pub set_set : {X : Type 0} (xs : List X) (n : ℕ) (a b : X) → set (set xs n a) n b ≡ set xs n b
set_set [] n a b = refl
set_set (x ∷ xs) zero a b = refl
set_set (x ∷ xs) (suc n) a b = ap (λ ys. x ∷ ys) (set_set xs n a b)

room_at_map : (rows : List (Option (Held Row))) (n : ℕ) → option_at (spare rows) n ≡ room_at (option_at rows n)
room_at_map [] n = refl
room_at_map (x ∷ xs) zero = refl
room_at_map (x ∷ xs) (suc n) = room_at_map xs n

-- a row that has room is the page's own
pub own_at : (rows : List (Option (Held Row))) (j n : ℕ) → HasRoom (option_at (spare rows) j) n → (r : Row) × (option_at rows j ≡ Some (Own r)) × (n ≤ vec_capacity r.words)
own_at rows j n h = go (option_at rows j) refl (rw room_at_map at h) where
  go : (o : Option (Held Row)) → option_at rows j ≡ o → HasRoom (room_at o) n → (r : Row) × (option_at rows j ≡ Some (Own r)) × (n ≤ vec_capacity r.words)
  go (Some (Own r)) e h = (r, e, h)
  go (Some (Shared a)) e h = absurd h
  go None e h = absurd h

-- a row was replaced
pub record Replaced (rows new : List (Option (Held Row))) (j : ℕ) (old made : Held Row) : Type 0 where
  pub was : option_at rows j ≡ Some old
  pub is : option_at new j ≡ Some made
  pub others : (i : ℕ) → i ≢ j → option_at new i ≡ option_at rows i
  pub at : new ≡ set rows j (Some made)

pub replaced : (rows mid new : List (Option (Held Row))) (j : ℕ) (old made : Held Row) →
    option_at rows j ≡ Some old → mid ≡ set rows j None → new ≡ set mid j (Some made) → Replaced rows new j old made
replaced rows mid new j old made was out back =
    let at : new ≡ set rows j (Some made) = back ∙ ap (λ ys. set ys j (Some made)) out ∙ set_set rows j None (Some made) in
    let fits : j < length rows = option_at-within rows j (rw was refl) in
    record {
      was = was;
      is = rw at (option_at-set_same rows j (Some made) fits);
      others = λ i ne. rw at (option_at-set_other rows j i (Some made) ne);
      at = at;
    }

-- a row of the page's own that was written where it stands
pub written : (rows : List (Option (Held Row))) (j n : ℕ) (o : Option (Held Row)) {held : Held Row} {row : Row} (made : Row) → HasRoom (option_at (spare rows) j) n →
    o ≡ get_or rows j o → o ≡ Some held → held ≡ Own row → Replaced rows (set rows j (Some (Own made))) j (Own row) (Own made)
written rows j n o {held} {row} made room read is own =
    let there = own_at rows j n room in
    let fits : j < length rows = option_at-within rows j (rw there.1 refl) in
    let was : option_at rows j ≡ Some (Own row) = ap (λ x. unwrap_or x None) (slice_get_read rows (length rows) j o refl fits read) ∙ is ∙ ap Some own in
    replaced rows (set rows j None) (set rows j (Some (Own made))) j (Own row) (Own made) was refl (sym (set_set rows j None (Some (Own made))))

pub replaced-old : {rows new : List (Option (Held Row))} {j : ℕ} {old made : Held Row} → Replaced rows new j old made →
    (q : ℕ) → row_has (option_at (shown rows) j) q ≡ in_row (words_of old) q
replaced-old {rows} {j = j} r q = rw (option_at_map words_of rows j, r.was) refl

pub replaced-new : {rows new : List (Option (Held Row))} {j : ℕ} {old made : Held Row} → Replaced rows new j old made →
    (q : ℕ) → row_has (option_at (shown new) j) q ≡ in_row (words_of made) q
replaced-new {new = new} {j} r q = rw (option_at_map words_of new j, r.is) refl

pub replaced-room : {rows new : List (Option (Held Row))} {j : ℕ} {old made : Held Row} → Replaced rows new j old made →
    (n : ℕ) → HasRoom (room_of made) n → HasRoom (option_at (spare new) j) n
replaced-room {new = new} {j} r n h = rw (room_at_map new j, r.is) h

-- where no room is lost, what was ready is ready still
pub replaced-stays : {rows new : List (Option (Held Row))} {j : ℕ} {old made : Held Row} → Replaced rows new j old made →
    ((n : ℕ) → HasRoom (room_of old) n → HasRoom (room_of made) n) → (i n : ℕ) → HasRoom (option_at (spare rows) i) n → HasRoom (option_at (spare new) i) n
replaced-stays {rows} {new} {j} r more i n h = elim (cases_eq i j) [
  | inl e ↦ rw (e, room_at_map new j, r.is) (more n (rw (e, room_at_map rows j, r.was) at h))
  | inr ne ↦ rw (room_at_map new i, r.others i ne, ← room_at_map rows i) h
]

-- a row replaced by one with the same words
pub replaced-same : {rows new : List (Option (Held Row))} {j : ℕ} {old made : Held Row} → Replaced rows new j old made → words_of made ≡ words_of old →
    shown new ≡ shown rows
replaced-same {rows} {new} {j} {old} {made} r same =
    ap shown r.at ∙ map-set (option_map words_of) rows j (Some made) ∙ rw same (back (shown rows) j (option_at_map words_of rows j ∙ ap (option_map words_of) r.was)) where
      back : (xs : List (Option (List ℕ))) (n : ℕ) → option_at xs n ≡ Some (words_of old) → set xs n (Some (words_of old)) ≡ xs
      back [] n h = refl
      back (o ∷ xs) zero h = rw (← h) refl
      back (o ∷ xs) (suc n) h = ap (λ ys. o ∷ ys) (back xs n h)

-- a row was put at a place, or taken away
pub set-row : (rows new : List (Option (Held Row))) (j : ℕ) (v : Option (Held Row)) → j < length rows → new ≡ set rows j v → option_at (shown new) j ≡ option_map words_of v
set-row rows new j v fits is = option_at_map words_of new j ∙ rw is (ap (option_map words_of) (option_at-set_same rows j v fits))

pub set-others : (rows mid new : List (Option (Held Row))) (j : ℕ) (v : Option (Held Row)) → ((i : ℕ) → option_at mid i ≡ option_at rows i) → new ≡ set mid j v →
    (i : ℕ) → i ≢ j → option_at new i ≡ option_at rows i
set-others rows mid new j v same is i ne = rw is (option_at-set_other mid j i v ne ∙ same i)

-- a row made the page's own keeps its room
pub own-room : (h : Held Row) (row : Row) (cap : ℕ) → ((r : Row) → h ≡ Own r → row ≡ r) → vec_capacity row.words ≤ cap →
    (n : ℕ) → HasRoom (room_of h) n → n ≤ cap
own-room (Own r) row cap same more n h = let enough : vec_capacity r.words ≤ cap = rw (← same r refl) more in omega (arith, enough, h)
own-room (Shared a) row cap same more n h = absurd h

pub some-shown : (rows : List (Option (Held Row))) (j : ℕ) → is_some (option_at (shown rows) j) ≡ is_some (option_at rows j)
some-shown rows j = rw (option_at_map words_of rows j) (go (option_at rows j)) where
  go : (o : Option (Held Row)) → is_some (option_map words_of o) ≡ is_some o
  go None = refl
  go (Some h) = refl

pub some-own : (rows : List (Option (Held Row))) (j n : ℕ) → HasRoom (option_at (spare rows) j) n → is_some (option_at rows j) ≡ true
some-own rows j n h = let own = own_at rows j n h in rw own.1 refl

pub shown-others : (rows new : List (Option (Held Row))) (j : ℕ) → ((i : ℕ) → i ≢ j → option_at new i ≡ option_at rows i) →
    (i : ℕ) → i ≢ j → option_at (shown new) i ≡ option_at (shown rows) i
shown-others rows new j h i ne = option_at_map words_of new i ∙ ap (option_map words_of) (h i ne) ∙ sym (option_at_map words_of rows i)

pub spare-others : (rows new : List (Option (Held Row))) (j : ℕ) → ((i : ℕ) → i ≢ j → option_at new i ≡ option_at rows i) →
    (i : ℕ) → i ≢ j → option_at (spare new) i ≡ option_at (spare rows) i
spare-others rows new j h i ne = room_at_map new i ∙ ap room_at (h i ne) ∙ sym (room_at_map rows i)
