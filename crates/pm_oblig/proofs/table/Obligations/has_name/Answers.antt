use Rattle.std.proofs.Common.{◌∙◌, ap, is_some}
use Rattle.pm_model.specs.Obligations.{is_called}
use Rattle.pm_pages.proofs.Runs.{is_some-place}
use Rattle.pm_oblig.proofs.table.Obligations.has_name.Goals as goal

pub returns : goal.returns
returns c =
    rw (← c.self.view_is)
    (c.is_some.ensures ∙ ap is_some c.place.ensures.value ∙ is_some-place (is_called c.args.name) 0 c.self.inside.items.items)
