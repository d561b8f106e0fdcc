use Rattle.std.proofs.Common.{◌≡◌, drop}
use Rattle.serde_json.specs.View.{items_view}
use Rattle.pm_model.specs.Forms.{list_of}
use Rattle.pm_read.proofs.Items.{behind}
use Rattle.pm_document.proofs.forms.list_of.Given as goal

abbrev pub invariant-loop-value : goal.invariant-loop-value
invariant-loop-value g l = behind l.list (list_of g.T.Form.form (items_view (drop l.value-index l.items))) ≡ list_of g.T.Form.form (items_view l.items)
