use Rattle.std.proofs.Common.{is_some, ◌∙◌}
use Rattle.pm_elements.specs.Slots.{without_parent}
use Rattle.pm_elements.proofs.Edits.{kept_by, some_edited}
use Rattle.pm_elements.proofs.links.unlink.Goals as goal

pub drop_child-requires-clause-live : goal.drop_child-requires-clause-live
drop_child-requires-clause-live c =
    rw (c.drop_parent.ensures, c.own_both.ensures.items)
    (kept_by is_some (without_parent c.args.y) (some_edited (without_parent c.args.y)) c.args.x c.args.y c.args.slots.now.items ∙ c.requires.y_live)
