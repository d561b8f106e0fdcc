use Rattle.std.proofs.Common.{◌∙◌, ap, map}
use Rattle.pm_by_name.proofs.by_name.values_by_key.Goals as goal

pub returns : goal.returns
returns g c = c.in_ok-values.ensures ∙ ap (λ l. map (λ (e : g.row.K.Denot × g.row.V.Denot). e.1) l) c.in_ok-map.ensures
