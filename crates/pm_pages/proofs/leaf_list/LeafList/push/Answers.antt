use Rattle.std.proofs.Common.{◌≡◌, ◌<◌, ◌≤◌, ◌+◌, ◌/◌, ◌%◌, ◌++◌, ◌∷◌, [], ◌∙◌, suc, ap, arith, insert, length, length-append, sym, subst, ℕ, refl}
use Rattle.pm_pages.specs.Leaves.{AreFull, all_in}
use Rattle.pm_pages.specs.Listed.{edited}
use Rattle.pm_pages.proofs.Changed.{pushed-last}
use Rattle.pm_pages.proofs.Leaves.{full-grown, grown-items, list-mark, marks-keep, spot-in}
use Rattle.pm_pages.proofs.leaf_list.LeafList.push.Goals as goal

pub returns-in_err-open_leaf-clause-keeps : goal.returns-in_err-open_leaf-clause-keeps
returns-in_err-open_leaf-clause-keeps g c =
    let row = c.self.inside.row in
    let e = c.in_err-open_leaf.ensures in
    let n = ap length e.items in
    rw (← c.self.view_is) (marks-keep row.lists c.open_leaf.new.row.lists row.own c.open_leaf.new.row.own c.self.invariant.full e.full (omega (arith, n)) e.keeps)

pub returns-in_err-insert-clause-keeps : goal.returns-in_err-insert-clause-keeps
returns-in_err-insert-clause-keeps g c =
    let row = c.self.inside.row in
    let e = c.in_ok-open_leaf.ensures in
    let d = c.in_err-insert.ensures in
    let n = ap length e.items in
    rw (← c.self.view_is)
    (λ i h. rw d.err
    (marks-keep row.lists c.open_leaf.new.row.lists row.own c.insert.new.self.own c.self.invariant.full e.full (omega (arith, n)) (λ k o. d.keeps k (e.keeps k o)) i h))

pub invariant_of-self-2 : goal.invariant_of-self-2
invariant_of-self-2 g c =
    let e = c.in_ok-open_leaf.ensures in
    let items = grown-items c.open_leaf.new.row.lists c.self.inside.count c.args.item e.last e.place in
    let n = ap length items in
    let m = length-append (all_in c.open_leaf.new.row.lists) (c.args.item ∷ []) in
    let o = ap length e.items in
    record {
      counted = rw c.in_ok-insert.ensures.lists (omega (arith, n, m, o, c.self.invariant.counted));
      full = rw c.in_ok-insert.ensures.lists
          (full-grown c.open_leaf.new.row.lists (c.self.inside.count / 16) (c.self.inside.count % 16) c.args.item e.full (omega (arith, e.last)) e.place (omega arith));
    }

pub returns-clause-items : goal.returns-clause-items
returns-clause-items g c =
    let e = c.in_ok-open_leaf.ensures in
    rw (← c.self.view_is, ← e.items, c.in_ok-insert.ensures.lists) (grown-items c.open_leaf.new.row.lists c.self.inside.count c.args.item e.last e.place)

pub returns-clause-keeps : goal.returns-clause-keeps
returns-clause-keeps g c =
    let row = c.self.inside.row in
    let e = c.in_ok-open_leaf.ensures in
    let d = c.in_ok-insert.ensures in
    let items = ap all_in d.lists ∙ grown-items c.open_leaf.new.row.lists c.self.inside.count c.args.item e.last e.place in
    let full : AreFull c.insert.new.self.lists = rw d.lists
    (full-grown c.open_leaf.new.row.lists (c.self.inside.count / 16) (c.self.inside.count % 16) c.args.item e.full (omega (arith, e.last)) e.place (omega arith)) in
    let n = ap length items in
    let m = length-append (all_in c.open_leaf.new.row.lists) (c.args.item ∷ []) in
    let o = ap length e.items in
    rw (← c.self.view_is)
    (marks-keep row.lists c.insert.new.self.lists row.own c.insert.new.self.own c.self.invariant.full full (omega (arith, n, m, o)) (λ k h. d.keeps k (e.keeps k h)))

pub returns-clause-own : goal.returns-clause-own
returns-clause-own g c =
    let e = c.in_ok-open_leaf.ensures in
    let d = c.in_ok-insert.ensures in
    let items = ap all_in d.lists ∙ grown-items c.open_leaf.new.row.lists c.self.inside.count c.args.item e.last e.place in
    let full : AreFull c.insert.new.self.lists = rw d.lists
    (full-grown c.open_leaf.new.row.lists (c.self.inside.count / 16) (c.self.inside.count % 16) c.args.item e.full (omega (arith, e.last)) e.place (omega arith)) in
    let n = ap length items in
    let m = length-append (all_in c.open_leaf.new.row.lists) (c.args.item ∷ []) in
    let o = ap length e.items in
    let i = c.self.inside.count in
    let s = spot-in c.insert.new.self.lists i full (omega (arith, n, m, o, c.self.invariant.counted)) in
    rw (← c.self.view_is, ← c.self.invariant.counted) (list-mark c.insert.new.self.lists c.insert.new.self.own i (i / 16) (i % 16) s d.own)
