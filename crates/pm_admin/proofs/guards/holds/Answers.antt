use Rattle.std.proofs.Common.{◌≡◌, ℕ, List, Ok, refl, sym, subst}
use Rattle.pm_model.specs.Results.{and_then}
use Rattle.pm_model.specs.State.{Graph}
use Rattle.pm_model.specs.Formed.{IsLive}
use Rattle.pm_model.specs.Resolve.{look_up, look_up_both}
use Rattle.pm_laws.proofs.Resolved.{and_then-ok, ok-is, looked_up-live}
use Rattle.pm_admin.proofs.guards.holds.Goals as goal

both-live : (G : Graph) (first second : List ℕ) (p : ℕ × ℕ) → look_up_both G first second ≡ Ok p → IsLive G.elements p.0 × IsLive G.elements p.1
both-live G first second p h =
    let x = and_then-ok (look_up G first) (λ x. and_then (look_up G second) (λ y. Ok (x, y))) p h in
    let y = and_then-ok (look_up G second) (λ y. Ok (x.0, y)) p x.2 in
    let both : IsLive G.elements x.0 × IsLive G.elements y.0 = (looked_up-live G first x.0 x.1, looked_up-live G second y.0 y.1) in
    subst (λ (q : ℕ × ℕ). IsLive G.elements q.0 × IsLive G.elements q.1) (ok-is _ (x.0, y.0) p refl y.2) both

pub is_in-inside-requires-clause-inner : goal.is_in-inside-requires-clause-inner
is_in-inside-requires-clause-inner c =
    (both-live c.args.graph.now c.name_of-inner.result c.name_of-outer.result c.in-Ok.pair (sym c.in-Ok.ensures)).0

pub is_in-inside-requires-clause-outer : goal.is_in-inside-requires-clause-outer
is_in-inside-requires-clause-outer c =
    (both-live c.args.graph.now c.name_of-inner.result c.name_of-outer.result c.in-Ok.pair (sym c.in-Ok.ensures)).1
