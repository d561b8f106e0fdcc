-- What is left to put makes the whole, in the lists and in the counts; what lists are of stays.
use Rattle.std.proofs.Common.{◌≡◌, ◌≤◌, ◌+◌, length, drop}
use Rattle.pm_model.specs.Formed.{Each}
use Rattle.pm_affect.specs.Affected.{is_in}
use Rattle.pm_affect.specs.Judged.{in_scope, judged}
use Rattle.pm_affect.specs.Lists.{subjects}
use Rattle.pm_affect.specs.Puts.{place, put_each}
use Rattle.pm_affect.specs.Rows.{ArePassed, has_row}
use Rattle.pm_affect.proofs.repair.judge_users.Given as goal

abbrev pub invariant-loop-n : goal.invariant-loop-n
invariant-loop-n g l =
    let inside = is_in (g.R.Reach.relation l.fn.reach).below l.region in
    let rights = (g.J.Judge.judgement l.fn.judge).rights in
    let left = judged inside (in_scope l.fn.lists) (drop l.n l.users) l.elements.all.now in
    let whole = judged inside (in_scope l.fn.lists) l.users l.elements.all.now in
    record {
      lists : put_each rights left l.lists ≡ put_each rights whole l.fn.lists;
      caps : subjects l.lists.caps ≡ subjects l.fn.lists.caps;
      entries : subjects l.lists.entries ≡ subjects l.fn.lists.entries;
      count : l.count + length left ≡ length whole;
      asked : g.J.Judge.asked l.judge + length left ≡ g.J.Judge.asked l.fn.judge + length whole;
      place : Each (λ u. l.i ≤ place u (subjects l.fn.lists.caps)) (drop l.n l.users);
      passed : ArePassed (has_row (g.R.Reach.relation l.fn.reach).below l.region) (g.R.Reach.relation l.fn.reach) l.asked;
      judgement : g.J.Judge.judgement l.judge ≡ g.J.Judge.judgement l.fn.judge;
      same : g.R.Reach.relation l.reach ≡ g.R.Reach.relation l.fn.reach;
    }
