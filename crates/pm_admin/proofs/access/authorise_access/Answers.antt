use Rattle.std.proofs.Common.{◌≡◌, ℕ, Result, Ok, Err, IfOk, sym, subst}
use Rattle.pm_model.specs.Formed.{IsLive}
use Rattle.pm_model.specs.declared.replies.Refusal.{Refusal}
use Rattle.pm_laws.proofs.Resolved.{looked_up-live}
use Rattle.pm_admin.proofs.access.authorise_access.Goals as goal

if-target : (P : ℕ → Type 0) (r : Result ℕ Refusal) (t : ℕ) → IfOk r (λ n. n ≡ t) → P t → IfOk r P
if-target P (Ok n) t is h = subst P (sym is) h
if-target P (Err why) t is h = tt

pub denial-reason-requires-clause-element : goal.denial-reason-requires-clause-element
denial-reason-requires-clause-element c = looked_up-live c.args.graph.now c.args.target c.in-Ok-look_up.element (sym c.in-Ok-look_up.ensures)

pub returns-clause-live : goal.returns-clause-live
returns-clause-live c =
    if-target (IsLive c.args.graph.now.elements) c.allowed_unless.result c.in-Ok-look_up.element c.allowed_unless.ensures.target
    (looked_up-live c.args.graph.now c.args.target c.in-Ok-look_up.element (sym c.in-Ok-look_up.ensures))
