use Rattle.std.proofs.Common.{◌≡◌, take}
use Rattle.pm_model.specs.Forms.{distinct}
use Rattle.pm_document.proofs.forms.distinct.Given as goal

abbrev pub invariant-loop-name : goal.invariant-loop-name
invariant-loop-name l = l.list ≡ distinct (take l.name-index l.names)
