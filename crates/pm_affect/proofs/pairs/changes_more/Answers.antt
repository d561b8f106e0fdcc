use Rattle.std.proofs.Common.{rules, ◌≡◌, true, false, arith, sym, length, filter}
use Rattle.std.proofs.lemmas.Bool.{lt-ltb}
use Rattle.pm_affect.specs.Puts.{is_change}
use Rattle.pm_affect.proofs.Merging.{change-more, change-none}
use Rattle.pm_affect.proofs.pairs.changes_more.Goals as goal
use Rattle.pm_affect.proofs.pairs.changes_more.Goals.{then-ne+else-changes-gt-FEW, else-ne}

pub returns-then-changes-gt-FEW : goal.returns-then-changes-gt-FEW
returns-then-changes-gt-FEW c =
    let is : is_change c.args.pairs.now c.at-pair.result.now ≡ true = search rules in
    let more = change-more c.args.pairs.now c.args.row.now c.loop-n.n c.at-pair.result.now c.at-pair.ensures is in
    sym (lt-ltb 8 (length (filter (is_change c.args.pairs.now) c.args.row.now)) (omega (arith, more, c.loop-n.invariant.count)))

pub loop-n-preserved : goal.loop-n-preserved
loop-n-preserved c = elim c.if-ne.branch [
  | then-ne+else-changes-gt-FEW w ↦
      let is : is_change c.args.pairs.now c.at-pair.result.now ≡ true = search rules in
      let more = change-more c.args.pairs.now c.args.row.now c.loop-n.n c.at-pair.result.now c.at-pair.ensures is in record {
        count = omega (arith, more, w.changes-is, c.loop-n.invariant.count);
        few = omega (arith, w.changes-is);
      }
  | else-ne w ↦
      let is : is_change c.args.pairs.now c.at-pair.result.now ≡ false = search rules in
      let none = change-none c.args.pairs.now c.args.row.now c.loop-n.n c.at-pair.result.now c.at-pair.ensures is in record {
        count = omega (arith, none, w.changes-is, c.loop-n.invariant.count);
        few = omega (arith, w.changes-is, c.loop-n.invariant.few);
      }
]
