use Rattle.std.proofs.Common.{is_some, slice_index_or, ◌∙◌}
use Rattle.std.proofs.lemmas.List.{get_or_default}
use Rattle.pm_elements.specs.Slots.{without_child}
use Rattle.pm_elements.proofs.Edits.{kept_by, some_edited}
use Rattle.pm_elements.proofs.Removing.{released_more}
use Rattle.pm_elements.proofs.removal.release.Goals as goal

pub loop-parent-preserved : goal.loop-parent-preserved
loop-parent-preserved c =
    let slots = c.loop-parent.slots.items in
    let y = slice_index_or c.args.parents.now c.loop-parent.parent-index 0 in
    record {
      left = rw c.drop_child.ensures (released_more c.args.parents.now slots c.loop-parent.parent-index y c.loop-parent-test.true (get_or_default c.args.parents.now c.loop-parent.parent-index 0 y c.loop-parent-test.true) ∙ c.loop-parent.invariant.left);
      taken = λ z. rw c.drop_child.ensures (kept_by is_some without_child (some_edited without_child) y z slots ∙ c.loop-parent.invariant.taken z);
      own = rw c.drop_child.ensures c.loop-parent.invariant.own;
      alone = rw c.drop_child.ensures c.loop-parent.invariant.alone;
    }
