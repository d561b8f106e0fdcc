-- An action in its turn, in a graph that has the obligations at the places.
use Rattle.std.proofs.Common.{◌≡◌, ◌-◌, ◌<◌, ℕ, List, length, Some, Result, Ok, Err, OnOk, IfErr, inl, inr, slice_get, All, Contains, refl, sym, ◌∙◌, subst, arith}
use Rattle.std.proofs.lemmas.List.Elements.{All-contains}
use Rattle.std.proofs.lemmas.Option.{slice_get_within, same_Some}
use Rattle.pm_model.specs.State.{Graph}
use Rattle.pm_model.specs.Responses.{acted}
use Rattle.pm_affect.specs.Counting.{Work, work_acted}
use Rattle.pm_model.specs.Formed.{IsUser, IsWellFormed}
use Rattle.pm_model.specs.declared.actions.Action.{Action}
use Rattle.pm_model.specs.declared.events.EventNames.{EventNames}
use Rattle.pm_model.specs.declared.obligations.Obligation.{Obligation}
use Rattle.pm_model.specs.declared.obligations.Place.{Place}
use Rattle.pm_laws.proofs.Items.{get-contains}
use Rattle.pm_laws.proofs.Live.{author_is}
use Rattle.pm_laws.proofs.Responding.{responses_keep_obligations}
use Rattle.pm_runner.specs.Outcomes.{IsLeft}
use Rattle.pm_runner.specs.Turns.{Occasion, IsTurn, acted_at, work_acted_at}
use Rattle.pm_runner.specs.declared.errors.ActError.{ActError}
use Rattle.pm_runner.specs.declared.errors.ActError.TheVariants.{Memory, Refused}
use Rattle.pm_runner.proofs.Places.{as_many, stands_at}
use Rattle.pm_runner.proofs.Steps.{standing-parts, turn-made}
use Rattle.pm_step.specs.Responders.{items_at, AreResponders}

module _ (names : EventNames) (version : ℕ) (obligations : List Obligation) (places : List ℕ) (G : Graph) (place : Place) where
  abbrev these : List Obligation
  these = items_at obligations places

  abbrev occasion : Occasion
  occasion = record { names = names; version = version; obligations = these }

  pub obligation-there : AreResponders obligations places G → IsTurn occasion G place → place.obligation - 1 < length places
  obligation-there h turn =
      let stands = (standing-parts these place turn.obligation turn.action turn.stands).0 in
      let below : place.obligation - 1 < length these = slice_get_within these (place.obligation - 1) turn.obligation stands in
      let many = as_many obligations these places h.at in
      omega (arith, below, many)

  module _ (at : ℕ) (o : Obligation) (is : slice_get places (place.obligation - 1) ≡ Some at) (there : slice_get obligations at ≡ Some o) where
    stands-there : AreResponders obligations places G → slice_get these (place.obligation - 1) ≡ Some o
    stands-there h = stands_at obligations these places (place.obligation - 1) at o h.at is there

    obligation-is : AreResponders obligations places G → (turn : IsTurn occasion G place) → turn.obligation ≡ o
    obligation-is h turn =
        same_Some _ _ (sym (standing-parts these place turn.obligation turn.action turn.stands).0 ∙ stands-there h)

    pub action-there : AreResponders obligations places G → IsTurn occasion G place → place.action - 1 < length o.response
    action-there h turn =
        let stands = (standing-parts these place turn.obligation turn.action turn.stands).1 in
        subst (λ (x : Obligation). place.action - 1 < length x.response) (obligation-is h turn)
        (slice_get_within turn.obligation.response (place.action - 1) turn.action stands)

    pub author-is-user : AreResponders obligations places G → IsWellFormed G → IsUser G.elements o.author
    author-is-user h f = author_is G o f (h.stand o (get-contains these (place.obligation - 1) o (stands-there h)))

    pub acted-is : (a : Action) → AreResponders obligations places G → slice_get o.response (place.action - 1) ≡ Some a →
        acted_at occasion G place ≡ acted names version G o.author place a
    acted-is a h asked = rw (stands-there h, asked) refl

    pub acted-counted : (w : Work) (a : Action) → AreResponders obligations places G → slice_get o.response (place.action - 1) ≡ Some a →
        work_acted_at w occasion G place ≡ work_acted w names version G o.author place a
    acted-counted w a h asked = rw (stands-there h, asked) refl

  -- the obligations stand in the graph behind it
  pub responders-stay : (H : Graph) → AreResponders obligations places G → IsTurn occasion G place → acted_at occasion G place ≡ Ok H →
      AreResponders obligations places H
  responders-stay H h turn done =
      let made = turn-made occasion G H place turn done in
      let before : G.obligations ≡ made.start.obligations = responses_keep_obligations names version made.start G made.some made.before in
      let behind : H.obligations ≡ made.start.obligations = responses_keep_obligations names version made.start H made.more made.behind in
      let same : G.obligations ≡ H.obligations = before ∙ sym behind in
      record { at = h.at; below = h.below; stand = λ o c. subst (λ os. Contains os o) same (h.stand o c) }

  -- whether it is done or not
  pub responders-stay-either : {A : Type 0} (result : Result A ActError) (behind : Graph) →
      OnOk result (acted_at occasion G place ≡ Ok behind) → IfErr result (IsLeft G behind (acted_at occasion G place)) →
      AreResponders obligations places G → IsTurn occasion G place → AreResponders obligations places behind
  responders-stay-either (Ok a) behind done left h turn = responders-stay behind h turn done
  responders-stay-either (Err (Refused why)) behind done left h turn = subst (λ (K : Graph). AreResponders obligations places K) (sym left) h
  responders-stay-either (Err Memory) behind done left h turn = elim left [
    | inl same ↦ subst (λ (K : Graph). AreResponders obligations places K) (sym same) h
    | inr made ↦ responders-stay behind h turn made
  ]

-- what is at a place is below the length
pub place-below : (n : ℕ) (places : List ℕ) (i at : ℕ) → All (λ place. place < n) places → slice_get places i ≡ Some at → at < n
place-below n places i at below is = All-contains (λ place. place < n) places at below (get-contains places i at is)
