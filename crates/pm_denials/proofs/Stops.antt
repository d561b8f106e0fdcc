-- Where responses stop: at an action of an obligation that responds, which its author is denied for a reason that holds.
use Rattle.std.proofs.Common.{◌≡◌, ◌+◌, ℕ, Bool, List, [], ◌∷◌, ◌++◌, length, None, Result, Ok, Err, refl, ap, subst, arith}
use Rattle.std.proofs.lemmas.Bool.{cond_both}
use Rattle.pm_model.specs.Results.{and_then}
use Rattle.pm_model.specs.State.{Graph}
use Rattle.pm_model.specs.Resolve.{look_up, look_up_both}
use Rattle.pm_model.specs.Authority.{ruling}
use Rattle.pm_model.specs.Effect.{effect}
use Rattle.pm_model.specs.Responses.{name_of, fresh_name, bound, holds, all_hold, commanded, acted, Stopped, or_stopped, response_from, responses_from, responses}
use Rattle.pm_model.specs.declared.actions.Action.{Action}
use Rattle.pm_model.specs.declared.actions.Guard.{Guard}
use Rattle.pm_model.specs.declared.events.EventNames.{EventNames}
use Rattle.pm_model.specs.declared.obligations.Obligation.{Obligation}
use Rattle.pm_model.specs.declared.obligations.Place.{Place}
use Rattle.pm_model.specs.declared.requests.Command.{Command}
use Rattle.pm_model.specs.declared.replies.Refusal.{Refusal}
use Rattle.pm_laws.proofs.Told.{IsTold, then-told, look_up-told}
use Rattle.pm_denials.specs.Told.{IsAskedByCommand, IsStopped}
use Rattle.pm_denials.proofs.Causes.{unnamed, IsCaused, told-caused, then-caused, ruling-caused, effect-caused, err-at}

-- ---- guards are never denied

module _ (G : Graph) (names : EventNames) (fresh : List ℕ) where
  both-told : (first second : List ℕ) → IsTold unnamed (look_up_both G first second)
  both-told first second =
      then-told unnamed (look_up G first) _ (look_up-told unnamed G first)
      (λ x. then-told unnamed (look_up G second) _ (look_up-told unnamed G second) (λ y. tt))

  holds-told : (guard : Guard) → IsTold unnamed (holds G names fresh guard)
  holds-told guard =
      then-told unnamed (look_up_both G (name_of names fresh guard.inner) (name_of names fresh guard.outer)) _
      (both-told (name_of names fresh guard.inner) (name_of names fresh guard.outer)) (λ pair. tt)

  hold-told : (guards : List Guard) → IsTold unnamed (all_hold G names fresh guards)
  hold-told [] = tt
  hold-told (guard ∷ guards) =
      then-told unnamed (holds G names fresh guard) _ (holds-told guard)
      (λ yes. cond_both yes (all_hold G names fresh guards) (Ok yes) (λ (r : Result Bool Refusal). IsTold unnamed r) (λ is. hold-told guards) (λ is. tt))

-- ---- an action

commanded-caused : (G : Graph) (author : ℕ) (c : Command) → IsCaused G author None (IsAskedByCommand G author c) (commanded G author c)
commanded-caused G author c =
    then-caused G author None (IsAskedByCommand G author c) (ruling G author None c) (effect G) (ruling-caused G author None c)
    (λ d is. effect-caused G author None c d)

module _ (names : EventNames) (version : ℕ) where
  acted-caused : (G : Graph) (author : ℕ) (place : Place) (action : Action) →
      IsCaused G author None (IsAskedByCommand G author (bound names place version action.act)) (acted names version G author place action)
  acted-caused G author place action = let c = bound names place version action.act in
      then-caused G author None (IsAskedByCommand G author c) (all_hold G names (fresh_name place version) action.guards) _
      (told-caused G author None (IsAskedByCommand G author c) (all_hold G names (fresh_name place version) action.guards)
      (hold-told G names (fresh_name place version) action.guards))
      (λ yes is. cond_both yes (commanded G author c) (Ok G) (λ (r : Result Graph Refusal). IsCaused G author None (IsAskedByCommand G author c) r)
      (λ is. commanded-caused G author c) (λ is. tt))

  -- ---- the actions of one obligation

  -- the response from this number on stops at one of its actions
  record StopsIn (o : Obligation) (place number : ℕ) (G : Graph) (actions : List Action) (stop : Stopped) : Type 0 where
    done : List Action
    action : Action
    left : List Action
    before : Graph
    acts : actions ≡ done ++ action ∷ left
    so_far : response_from names version o place number G done ≡ Ok before
    numbered : length done + number ≡ stop.action
    named : o.name ≡ stop.obligation
    refused : acted names version before o.author (record { obligation = place; action = stop.action }) action ≡ Err stop.why

  response-stops : (o : Obligation) (place number : ℕ) (G : Graph) (actions : List Action) (stop : Stopped) →
      response_from names version o place number G actions ≡ Err stop → StopsIn o place number G actions stop
  response-stops o place number G [] stop h = absurd (cc)
  response-stops o place number G (a ∷ actions) stop h =
      of (acted names version G o.author at a) refl h (λ K k. response-stops o place (number + 1) K actions stop k) where
        at : Place
        at = record { obligation = place; action = number }

        of : (r : Result Graph Refusal) → acted names version G o.author at a ≡ r →
            and_then (or_stopped names version o number r) (λ next. response_from names version o place (number + 1) next actions) ≡ Err stop →
            ((K : Graph) → response_from names version o place (number + 1) K actions ≡ Err stop → StopsIn o place (number + 1) K actions stop) →
            StopsIn o place number G (a ∷ actions) stop
        of (Ok K) is h further = let rest = further K h in record {
          done = a ∷ rest.done;
          action = rest.action;
          left = rest.left;
          before = rest.before;
          acts = ap (λ l. a ∷ l) rest.acts;
          so_far = rw is rest.so_far;
          numbered = let sum = rest.numbered in omega (arith, sum);
          named = rest.named;
          refused = rest.refused;
        }
        of (Err why) is h further =
            let here : Stopped = record { obligation = o.name; action = number; why = why } in
            let same : here ≡ stop = cc in
            subst (StopsIn o place number G (a ∷ actions)) same (record {
              done = [];
              action = a;
              left = actions;
              before = G;
              acts = refl;
              so_far = refl;
              numbered = omega arith;
              named = refl;
              refused = is;
            })

  -- ---- the obligations

  -- the responses from this place on stop at one of the obligations
  record StopsAt (place : ℕ) (G : Graph) (obligations : List Obligation) (stop : Stopped) : Type 0 where
    earlier : List Obligation
    obligation : Obligation
    later : List Obligation
    between : Graph
    responds : obligations ≡ earlier ++ obligation ∷ later
    responded : responses_from names version place G earlier ≡ Ok between
    stops : StopsIn obligation (length earlier + place) 1 between obligation.response stop

  responses-stop : (place : ℕ) (G : Graph) (obligations : List Obligation) (stop : Stopped) →
      responses_from names version place G obligations ≡ Err stop → StopsAt place G obligations stop
  responses-stop place G [] stop h = absurd (cc)
  responses-stop place G (o ∷ obligations) stop h =
      of (response_from names version o place 1 G o.response) refl h (λ K k. responses-stop (place + 1) K obligations stop k) where
        of : (r : Result Graph Stopped) → response_from names version o place 1 G o.response ≡ r →
            and_then r (λ next. responses_from names version (place + 1) next obligations) ≡ Err stop →
            ((K : Graph) → responses_from names version (place + 1) K obligations ≡ Err stop → StopsAt (place + 1) K obligations stop) →
            StopsAt place G (o ∷ obligations) stop
        of (Ok K) is h further = let rest = further K h in
            let moved : length rest.earlier + (place + 1) ≡ length (o ∷ rest.earlier) + place = omega arith in record {
              earlier = o ∷ rest.earlier;
              obligation = rest.obligation;
              later = rest.later;
              between = rest.between;
              responds = ap (λ l. o ∷ l) rest.responds;
              responded = rw is rest.responded;
              stops = subst (λ n. StopsIn rest.obligation n 1 rest.between rest.obligation.response stop) moved rest.stops;
            }
        of (Err why) is h further =
            let same : why ≡ stop = cc in
            let stays : place ≡ length {A = Obligation} [] + place = omega arith in
            let here = response-stops o place 1 G o.response stop (rw (is, same) refl) in record {
              earlier = [];
              obligation = o;
              later = obligations;
              between = G;
              responds = refl;
              responded = refl;
              stops = subst (λ n. StopsIn o n 1 G o.response stop) stays here;
            }

  pub responses-stopped : (G : Graph) (obligations : List Obligation) (stop : Stopped) → responses names version G obligations ≡ Err stop →
      IsStopped names version G obligations stop.obligation stop.action stop.why
  responses-stopped G obligations stop h =
      let at = responses-stop 1 G obligations stop h in
      let in_it = at.stops in
      record {
        earlier = at.earlier;
        obligation = at.obligation;
        later = at.later;
        done = in_it.done;
        action = in_it.action;
        left = in_it.left;
        named = in_it.named;
        numbered = in_it.numbered;
        responds = at.responds;
        acts = in_it.acts;
        between = at.between;
        responded = at.responded;
        before = in_it.before;
        so_far = in_it.so_far;
        refused = in_it.refused;
        cause = err-at _ (acted names version in_it.before at.obligation.author (record { obligation = length at.earlier + 1; action = stop.action }) in_it.action)
            stop.why (acted-caused in_it.before at.obligation.author (record { obligation = length at.earlier + 1; action = stop.action }) in_it.action) in_it.refused;
      }
