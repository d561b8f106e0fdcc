use Rattle.std.proofs.Common.{◌≡◌, ◌≤◌, ◌/◌, ◌%◌, arith, length}
use Rattle.std.proofs.lemmas.Result.{on_ok_weaker}
use Rattle.pm_pages.specs.Leaves.{all_in}
use Rattle.pm_pages.proofs.Leaves.{list-mark, marks-keep, spot-in}
use Rattle.pm_pages.proofs.Spots.{piece_within, spot-within}
use Rattle.pm_pages.proofs.leaf_list.LeafList.own_at.Goals as goal

pub own_at-requires : goal.own_at-requires
own_at-requires g c =
    let lists = c.self.inside.row.lists in
    let s = spot-in lists c.args.i c.self.invariant.full (rw (← c.self.view_is) at c.requires) in
    piece_within (λ list. list) lists (c.args.i / 16) (c.args.i % 16) (spot-within (λ list. list) lists c.args.i (c.args.i / 16) (c.args.i % 16) s)

pub returns-clause-keeps : goal.returns-clause-keeps
returns-clause-keeps g c =
    let lists = c.self.inside.row.lists in
    let more : length (all_in lists) ≤ length (all_in lists) = omega arith in
    rw (← c.self.view_is)
    (λ i h. rw c.own_at.ensures.lists (marks-keep lists lists c.self.inside.row.own c.own_at.new.self.own c.self.invariant.full c.self.invariant.full more c.own_at.ensures.keeps i h))

pub returns-clause-ok : goal.returns-clause-ok
returns-clause-ok g c =
    let lists = c.self.inside.row.lists in
    let s = spot-in lists c.args.i c.self.invariant.full (rw (← c.self.view_is) at c.requires) in
    on_ok_weaker c.own_at.result (λ own. rw c.own_at.ensures.lists (list-mark lists c.own_at.new.self.own c.args.i (c.args.i / 16) (c.args.i % 16) s own)) c.own_at.ensures.ok
