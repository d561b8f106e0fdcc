use Rattle.std.proofs.Common.{◌≡◌, ◌<◌, ◌/◌, ◌%◌, ◌∙◌, List, ap, arith, length, refl, slice_get}
use Rattle.std.proofs.lemmas.Option.{slice_get_read}
use Rattle.pm_pages.proofs.Leaves.{list-read, spot-in}
use Rattle.pm_pages.proofs.Spots.{piece_within, spot-get, spot-within}
use Rattle.pm_pages.proofs.leaf_list.LeafList.at.Goals as goal

pub at-requires : goal.at-requires
at-requires g c =
    let lists = c.self.inside.row.lists in
    let s = spot-in lists c.args.i c.self.invariant.full (rw (← c.self.view_is) at c.requires) in
    piece_within (λ list. list) lists (c.args.i / 16) (c.args.i % 16) (spot-within (λ list. list) lists c.args.i (c.args.i / 16) (c.args.i % 16) s)

pub offset_bounds-at-i : goal.offset_bounds-at-i
offset_bounds-at-i g c =
    let lists = c.self.inside.row.lists in
    let s = spot-in lists c.args.i c.self.invariant.full (rw (← c.self.view_is) at c.requires) in
    let w = spot-within (λ list. list) lists c.args.i (c.args.i / 16) (c.args.i % 16) s in
    let l = ap length (list-read lists (c.args.i / 16) c.at.result.now c.at.ensures) in
    omega (arith, w, l)

pub bounds-at-i : goal.bounds-at-i
bounds-at-i g c =
    let lists = c.self.inside.row.lists in
    let s = spot-in lists c.args.i c.self.invariant.full (rw (← c.self.view_is) at c.requires) in
    let w = spot-within (λ list. list) lists c.args.i (c.args.i / 16) (c.args.i % 16) s in
    let l = ap length (list-read lists (c.args.i / 16) c.at.result.now c.at.ensures) in
    omega (arith, w, l)

pub returns : goal.returns
returns g c =
    let lists = c.self.inside.row.lists in
    let j = c.args.i % 16 in
    let s = spot-in lists c.args.i c.self.invariant.full (rw (← c.self.view_is) at c.requires) in
    let w = spot-within (λ list. list) lists c.args.i (c.args.i / 16) j s in
    let read = list-read lists (c.args.i / 16) c.at.result.now c.at.ensures in
    let l = ap length read in
    let there = slice_get_read c.at.result.now (length c.at.result.now) j c.index-at-i.result refl (omega (arith, w, l)) c.index-at-i.is in
    rw (← c.self.view_is) (spot-get (λ list. list) lists c.args.i (c.args.i / 16) j s ∙ ap (λ xs. slice_get xs j) read ∙ there)
