use Rattle.std.proofs.Common.{is_some, ◌∙◌}
use Rattle.pm_elements.specs.Slots.{with_parent, children_of}
use Rattle.pm_elements.proofs.Edits.{kept_by, some_edited, children_with_parent}
use Rattle.pm_elements.proofs.links.link.Goals as goal

pub add_child-requires-clause-live : goal.add_child-requires-clause-live
add_child-requires-clause-live c =
    rw (c.in_ok-add_parent.ensures.ok, c.own_both.ensures.items)
    (kept_by is_some (with_parent c.args.y) (some_edited (with_parent c.args.y)) c.args.x c.args.y c.args.slots.now.items ∙ c.requires.y_live)

pub add_child-requires-clause-few : goal.add_child-requires-clause-few
add_child-requires-clause-few c =
    rw (c.in_ok-add_parent.ensures.ok, c.own_both.ensures.items, kept_by children_of (with_parent c.args.y) (children_with_parent c.args.y) c.args.x c.args.y c.args.slots.now.items) c.requires.few
