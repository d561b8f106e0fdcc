-- Kinds: the ends of an assignment are live, and their kinds stay where an element comes.
use Rattle.std.proofs.Common.{◌≡◌, ℕ, List, [], Option, Some, None, IsSome, Bool, true, refl}
use Rattle.pm_model.specs.State.{element, element_at}
use Rattle.pm_model.specs.Effect.{both, has_kind, is_user_kind, may_assign, may_create, placed}
use Rattle.pm_model.specs.Resolve.{unused}
use Rattle.pm_model.specs.Formed.{AreRising, IsLive, IsUser, JoinsKinds}
use Rattle.pm_model.specs.declared.elements.Kind.{Kind}
use Rattle.pm_model.specs.declared.elements.Element.{Element}
use Rattle.pm_laws.proofs.Numbers.{live-placed, new-placed}

-- for any test of two kinds
pub both-live : (fits : Kind → Kind → Bool) (a b : Option Element) → both fits a b ≡ true → IsSome a × IsSome b
both-live fits (Some a) (Some b) h = (refl, refl)
both-live fits (Some a) None h = absurd (cc)
both-live fits None b h = absurd (cc)

-- what has a kind is live
pub kind-lives : (fits : Kind → Bool) (es : List Element) (n : ℕ) → has_kind fits (element_at es n) ≡ true → IsLive es n
kind-lives fits es n h = of (element_at es n) h where
  of : (o : Option Element) → has_kind fits o ≡ true → IsSome o
  of (Some e) is = refl
  of None is = absurd (cc)

-- a user is live
pub user-lives : (es : List Element) (n : ℕ) → IsUser es n → IsLive es n
user-lives es n h = kind-lives is_user_kind es n h

both-kinds : (fits : Kind → Kind → Bool) (a b : Element) (c : Option Element) → a.kind ≡ b.kind → both fits (Some a) c ≡ true →
    both fits (Some b) c ≡ true
both-kinds fits a b (Some c) same h = rw (← same) h
both-kinds fits a b None same h = h

-- what two live elements fit stays
pub both-placed : (fits : Kind → Kind → Bool) (x : Element) (es : List Element) (m n : ℕ) → AreRising 0 es →
    x.number ≡ unused es → both fits (element_at es m) (element_at es n) ≡ true →
    both fits (element_at (placed x es) m) (element_at (placed x es) n) ≡ true
both-placed fits x es m n h u k =
    let live = both-live fits (element_at es m) (element_at es n) k in
    rw (live-placed x es m h u live.0, live-placed x es n h u live.1) k

pub joins-live : (es : List Element) (x y : ℕ) → JoinsKinds es (x, y) → IsLive es x × IsLive es y
joins-live es x y h = both-live may_assign (element_at es x) (element_at es y) h

-- a new element and its container
pub joins-new : (x : Element) (es : List Element) (c : ℕ) → AreRising 0 es → x.number ≡ unused es →
    may_create es x.kind (Some c) ≡ true → JoinsKinds (placed x es) (x.number, c)
joins-new x es c h u may =
    let none : Element = element 0 x.kind [] in
    let live = both-live may_assign (Some none) (element_at es c) may in
    rw (new-placed x es h u, live-placed x es c h u live.1) (both-kinds may_assign none x (element_at es c) refl may)
