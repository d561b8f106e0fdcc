-- What a command's change names is live, whoever gives it: only who is to be an author matters, and of the root user it is known.
use Rattle.std.proofs.Common.{◌≡◌, ℕ, List, Ok, refl, ap, subst}
use Rattle.pm_model.specs.State.{Graph, root}
use Rattle.pm_model.specs.Results.{and_then}
use Rattle.pm_model.specs.Formed.{IsUser, IsNamed, IsWellFormed}
use Rattle.pm_model.specs.Resolve.{look_up_when, obligation, resolve}
use Rattle.pm_model.specs.declared.actions.Action.{Action}
use Rattle.pm_model.specs.declared.events.When.{When}
use Rattle.pm_model.specs.declared.requests.Change.{Change}
use Rattle.pm_model.specs.declared.requests.Change.TheVariants as change
use Rattle.pm_model.specs.declared.requests.Command.{Command}
use Rattle.pm_model.specs.declared.requests.Command.TheVariants as command
use Rattle.pm_laws.proofs.Resolved.{and_then-ok, ok-is, resolve-named}
use Rattle.pm_admin.specs.Resolved.{IsFound}

root-user : (G : Graph) → IsWellFormed G → IsUser G.elements root
root-user G f = rw (f.opening.elements.1.1.0) refl

pub named-found : (G : Graph) (d : Change) → IsNamed G d → IsFound G d
named-found G (change.Create id kind name into) h = h
named-found G (change.Delete id) h = h
named-found G (change.Assign x y) h = h
named-found G (change.Deassign x y) h = h
named-found G (change.Associate u r t) h = h
named-found G (change.Dissociate u t) h = h
named-found G (change.Prohibit p) h = h
named-found G (change.Lift i) h = h
named-found G (change.Oblige o) h = (h.1, h.2)
named-found G (change.Withdraw i) h = h
named-found G (change.DefineRight name) h = h
named-found G (change.Keep of) h = h
named-found G (change.DropReview n) h = h
named-found G (change.OpenSession u) h = h
named-found G (change.CloseSession n) h = h
named-found G (change.StartProcess n) h = h
named-found G (change.EndProcess n) h = h

-- the root user's command
of-root : (G : Graph) (c : Command) (d : Change) → IsWellFormed G → resolve G root c ≡ Ok d → IsFound G d
of-root G c d f h = named-found G d (resolve-named G root c d (root-user G f) h)

oblige-found : (G : Graph) (u : ℕ) (name : List ℕ) (when : When) (response : List Action) (d : Change) → IsWellFormed G →
    resolve G u (command.Oblige name when response) ≡ Ok d → IsFound G d
oblige-found G u name when response d f h =
    let p = and_then-ok (look_up_when G when) (λ pattern. Ok (change.Oblige (obligation name u pattern response))) d h in
    let same : resolve G root (command.Oblige name when response) ≡ Ok (change.Oblige (obligation name root p.0 response)) =
    ap (λ r. and_then r (λ pattern. Ok (change.Oblige (obligation name root pattern response)))) p.1 in
    subst (IsFound G) (ok-is (Ok (change.Oblige (obligation name u p.0 response))) (change.Oblige (obligation name u p.0 response)) d refl p.2)
    (of-root G (command.Oblige name when response) (change.Oblige (obligation name root p.0 response)) f same)

pub resolve-found : (G : Graph) (u : ℕ) (c : Command) (d : Change) → IsWellFormed G → resolve G u c ≡ Ok d → IsFound G d
resolve-found G u (command.CreatePc name) d f h = of-root G (command.CreatePc name) d f h
resolve-found G u (command.Create kind name into) d f h = of-root G (command.Create kind name into) d f h
resolve-found G u (command.Delete name) d f h = of-root G (command.Delete name) d f h
resolve-found G u (command.Assign from to) d f h = of-root G (command.Assign from to) d f h
resolve-found G u (command.Deassign from to) d f h = of-root G (command.Deassign from to) d f h
resolve-found G u (command.Associate ua rights at) d f h = of-root G (command.Associate ua rights at) d f h
resolve-found G u (command.Dissociate ua at) d f h = of-root G (command.Dissociate ua at) d f h
resolve-found G u (command.Prohibit name s rights inc exc mode) d f h = of-root G (command.Prohibit name s rights inc exc mode) d f h
resolve-found G u (command.Lift name) d f h = of-root G (command.Lift name) d f h
resolve-found G u (command.DefineRight name) d f h = of-root G (command.DefineRight name) d f h
resolve-found G u (command.Oblige name when response) d f h = oblige-found G u name when response d f h
resolve-found G u (command.Withdraw name) d f h = of-root G (command.Withdraw name) d f h
resolve-found G u (command.Keep of) d f h = of-root G (command.Keep of) d f h
resolve-found G u (command.DropReview n) d f h = of-root G (command.DropReview n) d f h
