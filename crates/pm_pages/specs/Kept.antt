-- How a list is kept.
use Rattle.std.specs.Prelude.{◌≡◌, true, length, map}
use Rattle.std.specs.List.{list_all}
use Rattle.pm_pages.specs.declared.list.PageList.TheInside.{Inside}
use Rattle.pm_pages.specs.declared.list_row.ListRow.TheInside as row
use Rattle.pm_pages.specs.declared.leaf_list.LeafList.TheInside as leaves
use Rattle.pm_pages.specs.Leaves.{AreFull, all_in, both_own, held, is_own_leaf, marks_in}
use Rattle.pm_pages.specs.Paged.{Paged, Row}
use Rattle.pm_pages.specs.Listed.{listed, marks, all_own, starts_from, items_of}

module _ {T : Type 0} where
  abbrev pub paged_of : Inside T → Paged T
  paged_of a = record { items = listed a.pages.items; own = marks a.pages.items; alone = a.alone }

  pub record IsKept (a : Inside T) : Type 0 where
    pub starts : a.starts.items ≡ starts_from items_of 0 a.pages.items
    pub counted : a.count ≡ length (listed a.pages.items)
    pub alone : a.alone ≡ true → all_own a.pages.items ≡ true

  abbrev pub row_of : row.Inside T → Row T
  row_of a = record { lists = map held a.leaves.items; own = both_own a.leaves.items a.leaves.own; alone = a.alone }

  abbrev pub IsRowKept : row.Inside T → Type 0
  IsRowKept a = a.alone ≡ true → (a.leaves.alone ≡ true) × (list_all is_own_leaf a.leaves.items ≡ true)

  abbrev pub leaves_of : leaves.Inside T → Paged T
  leaves_of a = record { items = all_in a.row.lists; own = marks_in a.row.lists a.row.own; alone = a.row.alone }

  pub record IsFilled (a : leaves.Inside T) : Type 0 where
    pub counted : a.count ≡ length (all_in a.row.lists)
    pub full : AreFull a.row.lists
