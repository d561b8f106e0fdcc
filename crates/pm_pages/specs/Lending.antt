-- What a list ends as, once a borrow of an item has ended.
use Rattle.std.specs.Prelude.{ℕ, slice_set}
use Rattle.std.specs.Borrow.{Lends, Fml, RattleType, MutBor}
use Rattle.pm_pages.specs.Listed.{edited}
use Rattle.pm_pages.specs.Paged.{Paged, Row}
use Rattle.pm_pages.specs.contracts.list.PageList.{the_row}
use Rattle.pm_pages.specs.contracts.list_row.ListRow as row
use Rattle.pm_pages.specs.contracts.leaf_list.LeafList as leaves

-- item i is the last one written through r, and all else is as before
abbrev pub LendsItem : (T : RattleType) → MutBor (Paged T.Denot) → ℕ → MutBor T.Denot → Fml
LendsItem T list i r = Lends (the_row T) T list r (λ x. record list.now { items = slice_set list.now.items i x })

-- and so of a list in leaves
abbrev pub LendsLeafItem : (T : RattleType) → MutBor (Paged T.Denot) → ℕ → MutBor T.Denot → Fml
LendsLeafItem T list i r = Lends (leaves.the_row T) T list r (λ x. record list.now { items = slice_set list.now.items i x })

-- item j of list k is the last one written through r
abbrev pub LendsInList : (T : RattleType) → MutBor (Row T.Denot) → ℕ → ℕ → MutBor T.Denot → Fml
LendsInList T lists k j r = Lends (row.the_row T) T lists r (λ x. record lists.now { lists = edited (λ list. slice_set list j x) k lists.now.lists })
