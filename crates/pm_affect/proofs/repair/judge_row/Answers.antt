use Rattle.std.proofs.Common.{◌≡◌, ◌∙◌}
use Rattle.pm_affect.specs.Puts.{judged_pairs, with_row}
use Rattle.pm_affect.proofs.Walk.{row_put}
use Rattle.pm_affect.proofs.repair.judge_row.Goals as goal

pub returns-clause-lists : goal.returns-clause-lists
returns-clause-lists g c =
    let rights = (g.J.Judge.judgement c.args.judge.now).rights in
    let put : c.put_row.new.self ≡ with_row c.args.user (judged_pairs (rights c.args.user) c.args.elements.now) c.args.lists.now =
    rw c.in_ok-row.ensures.row at c.in_ok-put_row.ensures in
    ◌∙◌ {b = with_row c.args.user (judged_pairs (rights c.args.user) c.args.elements.now) c.args.lists.now} put
    (row_put rights c.args.user c.args.elements.now c.args.lists.now)
