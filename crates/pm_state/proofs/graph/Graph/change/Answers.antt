use Rattle.std.proofs.Common.{◌≡◌, sym, subst}
use Rattle.pm_model.specs.State.{classes_in}
use Rattle.pm_model.specs.Formed.{IsNamed, IsWellFormed}
use Rattle.pm_laws.proofs.Formed.{formed-effect}
use Rattle.pm_state.specs.Kept.{shown_of}
use Rattle.pm_state.specs.Shown.{graph_of}
use Rattle.pm_state.specs.declared.tables.Tables.{Tables}
use Rattle.pm_state.proofs.ClassChanges.{classes-kept}
use Rattle.pm_state.proofs.graph.Graph.change.Goals as goal

pub invariant_of-self-2 : goal.invariant_of-self-2
invariant_of-self-2 c =
    let t = c.deref_mut.result.now in
    let was = sym c.deref_mut.ensures.value in
    let kept = c.self.invariant in
    let formed : IsWellFormed (graph_of t) = subst (λ (u : Tables). IsWellFormed (graph_of u)) was kept.formed in
    let here : IsNamed (shown_of c.self.inside) c.args.change.now = subst (λ g. IsNamed g c.args.change.now) (sym c.self.view_is) c.requires in
    let named : IsNamed (graph_of t) c.args.change.now = subst (λ (u : Tables). IsNamed (graph_of u) c.args.change.now) was here in
    record {
      formed = formed-effect (graph_of t) _ c.args.change.now formed named c.in-Ok.ensures.changes.ok;
      classes = classes-kept (graph_of t) _ c.args.change.now _ _ formed c.in-Ok.ensures.changes.ok (subst (λ (u : Tables). u.classes ≡ classes_in (graph_of u).elements) was kept.classes) c.in-Ok.ensures.changes.classes;
    }
