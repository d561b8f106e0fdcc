-- The table of rows as this crate sees it: the rows, and for each what room it has.
use Rattle.std.specs.Prelude.{◌≡◌, ◌≢◌, ◌≤◌, ◌<◌, ◌+◌, ◌/◌, ◌%◌, ℕ, Bool, true, false, List, [], length, map, Option, Some, None, option_map, slice_index, Vec, vec_capacity, IsSomeAnd}
use Rattle.std.specs.Arc.{arc_value}
use Rattle.std.specs.declared.alloc.Global.{Global}
use Rattle.std.specs.declared.sync.Arc.{Arc}
use Rattle.pm_reach.specs.Rows.{page_at, place_at, has}
use Rattle.pm_reach.specs.declared.held.Held.{Held}
use Rattle.pm_reach.specs.declared.held.Held.TheVariants.{Own, Shared}
use Rattle.pm_reach.specs.declared.page.Row.{Row}
use Rattle.pm_reach.specs.declared.page.Page.{Page}
use Rattle.pm_reach.specs.declared.shared.HeldPage.{HeldPage}
use Rattle.pm_reach.specs.declared.shared.HeldPage.TheVariants as page
use Rattle.pm_reach.specs.declared.table.RowTable.TheInside.{Inside}

pub record Table : Type 0 where
  pub rows : List (List (Option (List ℕ)))
  -- how many words a row can have without memory being taken; none where it can't be written
  pub rooms : List (List (Option ℕ))
  -- how many rows a page can have so; none where it can't be written
  pub places : List ℕ
  -- how many pages there can be so
  pub pages : ℕ

abbrev pub value_of : {T : Type 0} → Held T → T
value_of (Own x) = x
value_of (Shared a) = arc_value a

abbrev pub words_in : Row → List ℕ
words_in row = row.words.items

abbrev pub words_of : Held Row → List ℕ
words_of h = words_in (value_of h)

abbrev pub room_of : Held Row → Option ℕ
room_of (Own row) = Some (vec_capacity row.words)
room_of (Shared a) = None

abbrev pub room_at : Option (Held Row) → Option ℕ
room_at None = None
room_at (Some h) = room_of h

-- a page's rows
abbrev pub shown : List (Option (Held Row)) → List (Option (List ℕ))
shown rows = map (option_map words_of) rows

-- and their rooms
abbrev pub spare : List (Option (Held Row)) → List (Option ℕ)
spare rows = map room_at rows

-- the words of a row that pages share
abbrev pub words_behind : Arc Row Global → List ℕ
words_behind a = words_in (arc_value a)

-- the rows of a page that tables share
abbrev pub shown_shared : List (Option (Arc Row Global)) → List (Option (List ℕ))
shown_shared rows = map (option_map words_behind) rows

abbrev pub page_rows : HeldPage → List (Option (List ℕ))
page_rows page.Empty = []
page_rows (page.Own p) = shown p.rows.items
page_rows (page.Shared a) = shown_shared (arc_value a).rows.items

abbrev pub page_rooms : HeldPage → List (Option ℕ)
page_rooms page.Empty = []
page_rooms (page.Own p) = spare p.rows.items
page_rooms (page.Shared a) = []

abbrev pub page_places : HeldPage → ℕ
page_places page.Empty = 0
page_places (page.Own p) = vec_capacity p.rows
page_places (page.Shared a) = 0

abbrev pub is_own : Option HeldPage → Bool
is_own (Some page.Empty) = false
is_own (Some (page.Own p)) = true
is_own (Some (page.Shared a)) = false
is_own None = false

-- a page was put at k, which is behind the others
pub record IsPushed (k : ℕ) (pushed : Page) (old new : List HeldPage) : Type 0 where
  pub long : length new ≡ k + 1
  pub page : page_at (map page_rows new) k ≡ shown pushed.rows.items
  pub others : (m : ℕ) → m ≢ k → page_at (map page_rows new) m ≡ page_at (map page_rows old) m

abbrev pub tabled : Vec HeldPage Global → Table
tabled pages = record {
  rows = map page_rows pages.items;
  rooms = map page_rooms pages.items;
  places = map page_places pages.items;
  pages = vec_capacity pages;
}

abbrev pub table_of : Inside → Table
table_of t = tabled t.pages

-- the row can be written, with so many words
abbrev pub HasRoom : Option ℕ → ℕ → Type 0
HasRoom room n = IsSomeAnd room (λ r. n ≤ r)

abbrev pub IsReady : Table → ℕ → ℕ → Type 0
IsReady t x n = HasRoom (place_at t.rooms x) n

-- the page of x can be written, and has a place for the row of x
abbrev pub IsOpen : Table → ℕ → Type 0
IsOpen t x = x % 64 < slice_index t.places (x / 64)

-- what was ready is ready still
abbrev pub StaysReady : Table → Table → Type 0
StaysReady old new = (y n : ℕ) → IsReady old y n → IsReady new y n

-- of the rows, the one of x at most was written
pub record Writes (x : ℕ) (old new : Table) : Type 0 where
  pub others : (y : ℕ) → y ≢ x → place_at new.rows y ≡ place_at old.rows y
  pub has : (y : ℕ) → has new.rows y ≡ has old.rows y
  pub ready : (y n : ℕ) → y ≢ x → IsReady old y n → IsReady new y n
