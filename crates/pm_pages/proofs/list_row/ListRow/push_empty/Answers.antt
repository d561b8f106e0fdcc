use Rattle.std.proofs.Common.{◌≡◌, refl}
use Rattle.pm_pages.proofs.Leaves.{keeps-pushed}
use Rattle.pm_pages.proofs.list_row.ListRow.push_empty.Goals as goal

pub returns-clause-keeps : goal.returns-clause-keeps
returns-clause-keeps g c =
    let e = c.push.ensures in
    rw (← c.self.view_is) (λ k h. keeps-pushed c.push.result c.self.inside.leaves c.push.new.self c.in_ok-leaf.leaf e.items e.keeps e.err k h)
