-- What is ready to be followed can be followed, and leaves a partial order.
use Rattle.std.proofs.Common.{◌≡◌, ℕ, List, Option, Some, None, option_map, unwrap_or, is_some, ap, sym}
use Rattle.std.proofs.lemmas.Bool.{true≢false}
use Rattle.pm_reach.specs.Order.{IsOrder}
use Rattle.pm_reach.specs.Changes.{CanFollow, Makes}
use Rattle.pm_reach.specs.Table.{Table}
use Rattle.pm_reach.specs.Ready.{IsPrepared, Holds, step_of}
use Rattle.pm_reach.specs.Unions.{Cover}
use Rattle.pm_reach.specs.declared.step.Step.{Step}
use Rattle.pm_reach.specs.declared.step.Step.TheVariants as step
use Rattle.pm_reach.specs.declared.ready.Ready.{Ready}
use Rattle.pm_reach.proofs.Orders.{order-adds, order-creates}

pub can-follow : (t : Table) (unions : List (List (Option (List ℕ)))) (containers : List ℕ) (o : Option Ready) (s : Step) → option_map step_of o ≡ Some s → IsPrepared t unions containers o → CanFollow t.rows s
can-follow t unions containers None s e h = absurd (true≢false (sym (ap is_some e)))
can-follow t unions containers (Some r) s e h = let same : step_of r ≡ s = ap (λ o. unwrap_or o s) e in rw same at h.0

pub covered : (t : Table) (unions : List (List (Option (List ℕ)))) (containers : List ℕ) (o : Option Ready) (s : Step) → option_map step_of o ≡ Some s → IsPrepared t unions containers o → Cover unions t.rows s
covered t unions containers None s e h = absurd (true≢false (sym (ap is_some e)))
covered t unions containers (Some r) s e h = let same : step_of r ≡ s = ap (λ o. unwrap_or o s) e in rw same at h.2

pub container-held : (t : Table) (unions : List (List (Option (List ℕ)))) (containers : List ℕ) (o : Option Ready) (s : Step) → option_map step_of o ≡ Some s → IsPrepared t unions containers o → Holds containers s
container-held t unions containers None s e h = absurd (true≢false (sym (ap is_some e)))
container-held t unions containers (Some r) s e h = let same : step_of r ≡ s = ap (λ o. unwrap_or o s) e in rw same at h.3

pub nothing-ready : (t : Table) (unions : List (List (Option (List ℕ)))) (containers : List ℕ) (o : Option Ready) → o ≡ None → IsPrepared t unions containers o
nothing-ready t unions containers None e = tt
nothing-ready t unions containers (Some r) e = absurd (true≢false (ap is_some e))

pub order-makes : (old new : List (List (Option (List ℕ)))) (x : ℕ) (into : Option ℕ) → CanFollow old (step.Make x into) → Makes x into old new → IsOrder old → IsOrder new
order-makes old new x None possible m o = order-adds old new x possible.0 m o
order-makes old new x (Some y) possible m o = order-creates old new x y possible.0 m o
