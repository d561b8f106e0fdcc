-- A list as callers see it.
use Rattle.std.specs.Prelude.{◌≡◌, ℕ, Bool, true, List, Some, slice_get}
use denote.Param.Members.{Shared}
use denote.Ref.{Bor}

pub record Paged (T : Type 0) : Type 0 where
  pub items : List T
  -- for each item, whether its page is the list's own
  pub own : List Bool
  -- whether the list has shared no page since it was made
  pub alone : Bool

-- a row of lists as callers see it
pub record Row (T : Type 0) : Type 0 where
  pub lists : List (List T)
  -- for each list, whether it may be written
  pub own : List Bool
  -- whether the row has shared no list since it was made
  pub alone : Bool

module _ {T : Type 0} where
  -- item i stands in a page of the list's own
  abbrev pub IsOwn : Paged T → ℕ → Type 0
  IsOwn p i = slice_get p.own i ≡ Some true

  -- what stood in a page of the list's own still does
  abbrev pub Keeps : Paged T → Paged T → Type 0
  Keeps old new = (i : ℕ) → IsOwn old i → IsOwn new i

  -- each item that passes the test stands in a page of the list's own
  abbrev pub OwnWhere : (T → Bool) → Paged T → Type 0
  OwnWhere test p = (i : ℕ) (x : T) → slice_get p.items i ≡ Some x → test x ≡ true → IsOwn p i

  -- each call of f answers what the test says of the item
  abbrev pub Decides : {F : Type 0} → Shared F (Bor T × Unit {0}) Bool → (T → Bool) → F → Type 0
  Decides g test f = (x : Bor T) (answer : Bool) → g.post f (x, tt) answer → answer ≡ test x.now
