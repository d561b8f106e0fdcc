use Rattle.std.proofs.Common.{◌≡◌, drop}
use Rattle.serde_json.specs.View.{items_view}
use Rattle.pm_model.specs.Forms.{list_of}
use Rattle.pm_replies.proofs.Listing.{behind}
use Rattle.pm_replies.proofs.items.list_of.Given as goal

abbrev pub invariant-loop-value : goal.invariant-loop-value
invariant-loop-value g l = behind l.list (list_of g.T.Item.form (items_view (drop l.value-index l.values))) ≡ list_of g.T.Item.form (items_view l.values)
