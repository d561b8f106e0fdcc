-- The one at i is no user, or the answer is that of those after it.
use Rattle.std.proofs.Common.{◌≡◌, ◌+◌, ◌&&◌, ℕ, Bool, true, false, List, drop, slice_get, Some, sym, ◌∙◌, ap}
use Rattle.std.specs.List.{list_all}
use Rattle.pm_model.specs.Reviews.{is_user_at}
use Rattle.pm_model.proofs.Walks.{drop-item}
use Rattle.pm_admin.proofs.reviewing.are_users.Goals as goal

all-left : (p : ℕ → Bool) (ns : List ℕ) (i n : ℕ) (b : Bool) → list_all p ns ≡ list_all p (drop i ns) → slice_get ns i ≡ Some n → b ≡ p n →
    list_all p ns ≡ (b && list_all p (drop (i + 1) ns))
all-left p ns i n b h at is =
    h ∙ ap (list_all p) (drop-item ns i n at) ∙ ap (λ (x : Bool). x && list_all p (drop (i + 1) ns)) (sym is)

pub returns-then-not-is_user : goal.returns-then-not-is_user
returns-then-not-is_user c =
    sym (all-left (is_user_at c.args.graph.now.elements) c.args.users.now c.loop-i.i c.at.result.now false c.loop-i.invariant c.at.ensures
    c.if-not-is_user.ensures)

pub loop-i-preserved : goal.loop-i-preserved
loop-i-preserved c =
    all-left (is_user_at c.args.graph.now.elements) c.args.users.now c.loop-i.i c.at.result.now true c.loop-i.invariant c.at.ensures
    c.if-not-is_user.ensures
