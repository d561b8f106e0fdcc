use Rattle.std.proofs.Common.{ap, arith, length, not, rules}
use Rattle.pm_pages.specs.Listed.{items_of, listed}
use Rattle.pm_pages.proofs.Spots.{length-starts}
use Rattle.pm_pages.proofs.Passing.{ready-own, length_kept}
use Rattle.pm_pages.proofs.list.PageList.remove_where.Goals as goal

pub remove_passing-requires : goal.remove_passing-requires
remove_passing-requires g c κs within =
    (search rules, (search rules, (c.requires.1.1.0, (c.requires.1.1.1.0, ready-own g.passes c.self.inside.pages.items (rw (← c.self.view_is) at c.requires.1.1.1.1)))))

pub restart-self-inside-requires-clause-places : goal.restart-self-inside-requires-clause-places
restart-self-inside-requires-clause-places g c =
    let e = ap length c.deref.ensures.value in
    let p = c.remove_passing.ensures.pages in
    let s = ap length c.self.invariant.starts in
    let l = length-starts items_of 0 c.self.inside.pages.items in
    omega (arith, e, p, s, l, c.self.inside.starts.ok)

pub restart-self-inside-requires-clause-most : goal.restart-self-inside-requires-clause-most
restart-self-inside-requires-clause-most g c =
    let e = ap (λ ps. length (listed ps)) c.deref.ensures.value in
    let r = ap length c.remove_passing.ensures.items in
    let l = length_kept (λ x. not (g.passes x)) (listed c.self.inside.pages.items) in
    omega (arith, e, r, l, c.self.invariant.counted)
