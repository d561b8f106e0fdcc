use Rattle.std.proofs.Common.{◌≡◌, sym, subst}
use Rattle.std.specs.Prelude.{◌<◌, length}
use Rattle.pm_model.specs.State.{classes_in}
use Rattle.pm_model.specs.Formed.{IsWellFormed}
use Rattle.pm_state.specs.Shown.{graph_of}
use Rattle.pm_state.specs.declared.tables.Tables.{Tables}
use Rattle.pm_state.proofs.LastSet.{formed-set}
use Rattle.pm_state.proofs.graph.Graph.set_last.Goals as goal

pub invariant_of-self : goal.invariant_of-self
invariant_of-self c =
    let t = c.deref_mut.result.now in
    let was = sym c.deref_mut.ensures.value in
    let kept = c.self.invariant in
    record {
      formed = formed-set (graph_of t) _ c.args.place c.args.version c.args.changes (subst (λ (u : Tables). c.args.place < length u.kept) was (rw (← c.self.view_is) at c.requires)) c.set_last.ensures (subst (λ (u : Tables). IsWellFormed (graph_of u)) was kept.formed);
      classes = subst (λ (u : Tables). u.classes ≡ classes_in (graph_of u).elements) was kept.classes;
    }
