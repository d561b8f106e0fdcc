-- Each command asks for a capability.
use Rattle.std.proofs.Common.{◌≡◌, ◌<◌, ℕ, length, Option, Some, None, Ok, IfOk, inl, inr, refl, arith}
use Rattle.std.proofs.lemmas.Option.{slice_get_cases}
use Rattle.pm_model.specs.State.{Graph}
use Rattle.pm_model.specs.Prohibitions.{place_called, is_called}
use Rattle.pm_model.specs.Resolve.{known, look_up, look_up_both, look_up_all, look_up_rights, look_up_subject, look_up_when, look_up_review, look_up_of, resolve}
use Rattle.pm_model.specs.Obligations as obliged
use Rattle.pm_model.specs.Authority.{watched_at, required}
use Rattle.pm_model.specs.declared.events.Pattern.{Pattern}
use Rattle.pm_model.specs.declared.requests.Command.{Command}
use Rattle.pm_model.specs.declared.requests.Command.TheVariants as command
use Rattle.pm_model.specs.declared.requests.Change.{Change}
use Rattle.pm_model.specs.declared.requests.Change.TheVariants.{Lift, Withdraw, DropReview}
use Rattle.pm_model.specs.declared.reviews.ReviewOf.{ReviewOf}
use Rattle.pm_laws.proofs.Resolved.{and_then-if, known-below, looked_up-review}

module _ (G : Graph) where
  abbrev Asks : Change → Type 0
  Asks d = 0 < length (required G d)

  lift-asks : (i : ℕ) → i < length G.prohibitions → Asks (Lift i)
  lift-asks i below = elim (slice_get_cases G.prohibitions i).1 [
    | inl found ↦ rw found.2 (omega arith)
    | inr past ↦ let none = past.0 in absurd (omega (arith, none, below))
  ]

  watched-asks : (p : Pattern) → 0 < length (watched_at p)
  watched-asks p = of p.user refl where
    of : (user : Option ℕ) → p.user ≡ user → 0 < length (watched_at p)
    of (Some x) is = rw is (omega arith)
    of None is = rw is (omega arith)

  withdraw-asks : (i : ℕ) → i < length G.obligations → Asks (Withdraw i)
  withdraw-asks i below = elim (slice_get_cases G.obligations i).1 [
    | inl found ↦ rw found.2 (watched-asks found.0.pattern)
    | inr past ↦ let none = past.0 in absurd (omega (arith, none, below))
  ]

  drop-asks : (n : ℕ) (of : ReviewOf ℕ) → look_up_review G n ≡ Ok of → Asks (DropReview n)
  drop-asks n of is = let k = looked_up-review G n of is in rw (k.1) (omega arith)

  resolved-asks : (u : ℕ) (c : Command) → IfOk (resolve G u c) Asks
  resolved-asks u (command.CreatePc name) = omega arith
  resolved-asks u (command.Create kind name into) = and_then-if Asks (look_up G into) _ (λ c is. omega arith)
  resolved-asks u (command.Delete name) = and_then-if Asks (look_up G name) _ (λ n is. omega arith)
  resolved-asks u (command.Assign from to) = and_then-if Asks (look_up_both G from to) _ (λ p is. omega arith)
  resolved-asks u (command.Deassign from to) = and_then-if Asks (look_up_both G from to) _ (λ p is. omega arith)
  resolved-asks u (command.Associate ua rights at) =
      and_then-if Asks (look_up G ua) _ (λ a is. and_then-if Asks (look_up_rights G rights) _ (λ r is. and_then-if Asks (look_up G at) _ (λ t is. omega arith)))
  resolved-asks u (command.Dissociate ua at) = and_then-if Asks (look_up_both G ua at) _ (λ p is. omega arith)
  resolved-asks u (command.Prohibit name s rights inc exc mode) =
      and_then-if Asks (look_up_subject G s) _ (λ t is. and_then-if Asks (look_up_rights G rights) _ (λ r is. and_then-if Asks (look_up_all G inc) _ (λ i is.
      and_then-if Asks (look_up_all G exc) _ (λ e is. omega arith))))
  resolved-asks u (command.Lift name) =
      and_then-if Asks (known name (place_called G.prohibitions name)) _ (λ i is. lift-asks i (known-below (is_called name) G.prohibitions name i is))
  resolved-asks u (command.DefineRight name) = omega arith
  resolved-asks u (command.Oblige name when response) = and_then-if Asks (look_up_when G when) _ (λ pattern is. watched-asks pattern)
  resolved-asks u (command.Withdraw name) =
      and_then-if Asks (known name (obliged.place_called G.obligations name)) _
      (λ i is. withdraw-asks i (known-below (obliged.is_called name) G.obligations name i is))
  resolved-asks u (command.Keep of) = and_then-if Asks (look_up_of G of) _ (λ r is. omega arith)
  resolved-asks u (command.DropReview n) = and_then-if Asks (look_up_review G n) _ (λ of is. drop-asks n of is)

pub command_asks : (G : Graph) (u : ℕ) (c : Command) (d : Change) → resolve G u c ≡ Ok d → 0 < length (required G d)
command_asks G u c d is = let h = resolved-asks G u c in rw is at h
