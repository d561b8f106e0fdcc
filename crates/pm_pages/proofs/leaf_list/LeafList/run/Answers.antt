use Rattle.std.proofs.Common.{◌≡◌, ◌<◌, ◌/◌, ◌%◌, ◌∙◌, List, ap, arith, drop, length, length-drop, sym}
use Rattle.pm_pages.proofs.Leaves.{list-read, spot-in}
use Rattle.pm_pages.proofs.Spots.{piece_within, spot-run, spot-within}
use Rattle.pm_pages.proofs.leaf_list.LeafList.run.Goals as goal

pub at-requires : goal.at-requires
at-requires g c =
    let lists = c.self.inside.row.lists in
    let s = spot-in lists c.args.i c.self.invariant.full (rw (← c.self.view_is) at c.requires) in
    piece_within (λ list. list) lists (c.args.i / 16) (c.args.i % 16) (spot-within (λ list. list) lists c.args.i (c.args.i / 16) (c.args.i % 16) s)

pub from-requires : goal.from-requires
from-requires g c =
    let lists = c.self.inside.row.lists in
    let s = spot-in lists c.args.i c.self.invariant.full (rw (← c.self.view_is) at c.requires) in
    let w = spot-within (λ list. list) lists c.args.i (c.args.i / 16) (c.args.i % 16) s in
    let l = ap length (list-read lists (c.args.i / 16) c.at.result.now c.at.ensures) in
    omega (arith, w, l)

pub returns-clause-items : goal.returns-clause-items
returns-clause-items g c =
    let lists = c.self.inside.row.lists in
    let s = spot-in lists c.args.i c.self.invariant.full (rw (← c.self.view_is) at c.requires) in
    let read = list-read lists (c.args.i / 16) c.at.result.now c.at.ensures in
    rw (← c.self.view_is)
    (spot-run (λ list. list) lists c.args.i (c.args.i / 16) (c.args.i % 16) c.from.result.now s (c.from.ensures ∙ ap (drop (c.args.i % 16)) (sym read)))

pub returns-clause-some : goal.returns-clause-some
returns-clause-some g c =
    let lists = c.self.inside.row.lists in
    let s = spot-in lists c.args.i c.self.invariant.full (rw (← c.self.view_is) at c.requires) in
    let w = spot-within (λ list. list) lists c.args.i (c.args.i / 16) (c.args.i % 16) s in
    let l = ap length (list-read lists (c.args.i / 16) c.at.result.now c.at.ensures) in
    let n = ap length c.from.ensures in
    let d = length-drop (c.args.i % 16) c.at.result.now in
    omega (arith, w, l, n, d)
