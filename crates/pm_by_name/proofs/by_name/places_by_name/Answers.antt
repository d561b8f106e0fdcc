use Rattle.std.proofs.Common.{◌∙◌, ℕ, ap, map}
use Rattle.pm_by_name.proofs.by_name.places_by_name.Goals as goal

pub returns : goal.returns
returns g c = c.in_ok-values.ensures ∙ ap (λ l. map (λ (e : g.row.T-Key.Denot × ℕ). e.1) l) c.in_ok-map.ensures
