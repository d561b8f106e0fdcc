use Rattle.std.proofs.Common.{◌≡◌, ◌/◌, ◌%◌, ◌∙◌, ap, arith, length, sym}
use Rattle.std.proofs.lemmas.Result.{on_ok_weaker, on_err_weaker}
use Rattle.pm_pages.specs.Leaves.{AreFull, all_in}
use Rattle.pm_pages.specs.Paged.{Row}
use Rattle.pm_pages.proofs.Changed.{either_way}
use Rattle.pm_pages.proofs.Leaves.{all-full, full-pushed, has-place, place-pushed}
use Rattle.pm_pages.proofs.leaf_list.open_leaf.Goals as goal

pub returns-then-len-count-clause-full : goal.returns-then-len-count-clause-full
returns-then-len-count-clause-full g c =
    let lists = c.args.row.now.lists in
    let e : length (all_in lists) / 16 ≡ length lists = omega (arith, c.requires.count, c.if-len-count.true, c.len.ensures) in
    either_way c.push_empty.result c.push_empty.new.self.lists _ lists AreFull c.push_empty.ensures.lists
    (on_err_weaker c.push_empty.result (λ same. ap (λ (r : Row g.row.T.Denot). r.lists) same) c.push_empty.ensures.err) (full-pushed lists c.requires.full e) c.requires.full

pub returns-then-len-count-clause-place : goal.returns-then-len-count-clause-place
returns-then-len-count-clause-place g c =
    let lists = c.args.row.now.lists in
    let e : length (all_in lists) / 16 ≡ length lists = omega (arith, c.requires.count, c.if-len-count.true, c.len.ensures) in
    let k : length lists ≡ c.args.count / 16 = omega (arith, c.if-len-count.true, c.len.ensures) in
    let z = all-full lists c.requires.full e in
    let none : 0 ≡ c.args.count % 16 = omega (arith, z, c.requires.count) in
    on_ok_weaker c.push_empty.result (λ done. rw done (ap length (place-pushed lists (c.args.count / 16) k) ∙ none)) c.push_empty.ensures.lists

pub returns-clause-last : goal.returns-clause-last
returns-clause-last g c =
    (has-place c.args.row.now.lists c.args.count c.requires.full c.requires.count (λ is. omega (arith, is, c.if-len-count.false, c.len.ensures))).last

pub returns-clause-place : goal.returns-clause-place
returns-clause-place g c =
    (has-place c.args.row.now.lists c.args.count c.requires.full c.requires.count (λ is. omega (arith, is, c.if-len-count.false, c.len.ensures))).place
