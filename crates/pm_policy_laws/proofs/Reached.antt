-- Every history leads to a graph that is fit.
use Rattle.std.proofs.Common.{◌≡◌, ◌+◌, ℕ, Bool, true, false, List, [], ◌∷◌, length, Option, Some, None, Result, Ok, Err, IfOk, if◌then◌else◌, refl, subst, arith}
use Rattle.pm_model.specs.State.{State, Graph, opening}
use Rattle.pm_model.specs.Answer.{Answer, responded, settled, made, entered, accessed, granted_with, granted, acting, administered, answer_access, answer_body, answer, after}
use Rattle.pm_model.specs.Authority.{ruling}
use Rattle.pm_model.specs.Effect.{changed, effect, refusal}
use Rattle.pm_model.specs.Events.{event, names_in, obliging, raised, responders}
use Rattle.pm_model.specs.History.{replay, replay_from}
use Rattle.pm_model.specs.LastChanges.{with_changes}
use Rattle.pm_model.specs.Obligations as obliged
use Rattle.pm_model.specs.Prohibitions.{place_called}
use Rattle.pm_model.specs.Resolve.{known, look_up, look_up_all, look_up_both, look_up_of, look_up_review, look_up_rights, look_up_subject, look_up_when, resolve}
use Rattle.pm_model.specs.Responses.{Stopped, acted, all_hold, bound, commanded, fresh_name, or_stopped, response_from, responses_from}
use Rattle.pm_model.specs.RightSet.{opening_rights}
use Rattle.pm_model.specs.declared.actions.Action.{Action}
use Rattle.pm_model.specs.declared.events.Event.{Event}
use Rattle.pm_model.specs.declared.events.EventNames.{EventNames}
use Rattle.pm_model.specs.declared.obligations.Obligation.{Obligation}
use Rattle.pm_model.specs.declared.obligations.Place.{Place}
use Rattle.pm_model.specs.declared.replies.Refusal.{Refusal}
use Rattle.pm_model.specs.declared.replies.Reply.{Reply}
use Rattle.pm_model.specs.declared.replies.Reply.TheVariants.{Granted}
use Rattle.pm_model.specs.declared.requests.Body.{Body}
use Rattle.pm_model.specs.declared.requests.Body.TheVariants as body
use Rattle.pm_model.specs.declared.requests.Change.{Change}
use Rattle.pm_model.specs.declared.requests.Change.TheVariants as change
use Rattle.pm_model.specs.declared.requests.Command.{Command}
use Rattle.pm_model.specs.declared.requests.Command.TheVariants as command
use Rattle.pm_model.specs.declared.requests.Entry.{Entry}
use Rattle.pm_model.specs.declared.requests.Request.{Request}
use Rattle.pm_laws.proofs.Authority.{ruling-resolved}
use Rattle.pm_laws.proofs.Bodies.{answer-is, or_refused-is, review-is}
use Rattle.pm_laws.proofs.Checks.{unless-ok}
use Rattle.pm_laws.proofs.Formed.{formed-opening}
use Rattle.pm_laws.proofs.Resolved.{and_then-if, and_then-ok, ok-is}
use Rattle.pm_policy_laws.proofs.Fit.{IsFit, IsMade, fit-changed}

-- ---- one change

-- what a command resolves to
made-if : (G : Graph) (u : ℕ) (c : Command) → IfOk (resolve G u c) (IsMade G)
made-if G u (command.CreatePc name) = refl
made-if G u (command.Create kind name into) = and_then-if (IsMade G) (look_up G into) _ (λ c is. refl)
made-if G u (command.Delete name) = and_then-if (IsMade G) (look_up G name) _ (λ n is. tt)
made-if G u (command.Assign from to) = and_then-if (IsMade G) (look_up_both G from to) _ (λ p is. tt)
made-if G u (command.Deassign from to) = and_then-if (IsMade G) (look_up_both G from to) _ (λ p is. tt)
made-if G u (command.Associate ua rights at) =
    and_then-if (IsMade G) (look_up G ua) _ (λ a is. and_then-if (IsMade G) (look_up_rights G rights) _ (λ r is.
    and_then-if (IsMade G) (look_up G at) _ (λ t is. tt)))
made-if G u (command.Dissociate ua at) = and_then-if (IsMade G) (look_up_both G ua at) _ (λ p is. tt)
made-if G u (command.Prohibit name s rights inc exc mode) =
    and_then-if (IsMade G) (look_up_subject G s) _ (λ t is. and_then-if (IsMade G) (look_up_rights G rights) _ (λ r is.
    and_then-if (IsMade G) (look_up_all G inc) _ (λ i is. and_then-if (IsMade G) (look_up_all G exc) _ (λ e is. tt))))
made-if G u (command.Lift name) = and_then-if (IsMade G) (known name (place_called G.prohibitions name)) _ (λ i is. tt)
made-if G u (command.DefineRight name) = tt
made-if G u (command.Oblige name when response) = and_then-if (IsMade G) (look_up_when G when) _ (λ p is. tt)
made-if G u (command.Withdraw name) = and_then-if (IsMade G) (known name (obliged.place_called G.obligations name)) _ (λ i is. tt)
made-if G u (command.Keep of) = and_then-if (IsMade G) (look_up_of G of) _ (λ r is. tt)
made-if G u (command.DropReview n) = and_then-if (IsMade G) (look_up_review G n) _ (λ of is. tt)

ruled-made : (G : Graph) (u : ℕ) (q : Option ℕ) (c : Command) (d : Change) → ruling G u q c ≡ Ok d → IsMade G d
ruled-made G u q c d h = let made = made-if G u c in rw ((ruling-resolved G u q c d h).0) at made

effect-fit : (G H : Graph) (c : Change) → IsMade G c → IsFit G → effect G c ≡ Ok H → IsFit H
effect-fit G H c made f h = let p = unless-ok (refusal G c) (changed G c) H h in subst IsFit p.1 (fit-changed G c made p.0 f)

-- what the last changes of kept reviews are does not matter
settled-fit : (G H : Graph) (version : ℕ) → IsFit H → IsFit (with_changes G version H)
settled-fit G H version f = record { rising = f.rising; opened = f.opened; words = f.words; kinds = f.kinds }

-- ---- responses

module _ (names : EventNames) (version : ℕ) where
  acted-fit : (G H : Graph) (u : ℕ) (place : Place) (a : Action) → IsFit G → acted names version G u place a ≡ Ok H → IsFit H
  acted-fit G H u place a f h =
      let yes = and_then-ok (all_hold G names (fresh_name place version) a.guards)
      (λ yes. if yes then commanded G u (bound names place version a.act) else Ok G) H h in of yes.0 yes.2 where
        of : (b : Bool) → (if b then commanded G u (bound names place version a.act) else Ok G) ≡ Ok H → IsFit H
        of true h =
            let d = and_then-ok (ruling G u None (bound names place version a.act)) (effect G) H h in
            effect-fit G H d.0 (ruled-made G u None (bound names place version a.act) d.0 d.1) f d.2
        of false h = subst IsFit (ok-is {E = Refusal} (Ok G) G H refl h) f

  done-ok : (o : Obligation) (number : ℕ) (r : Result Graph Refusal) (H : Graph) → or_stopped names version o number r ≡ Ok H → r ≡ Ok H
  done-ok o number (Ok G) H h = cc
  done-ok o number (Err why) H h = absurd (cc)

  response-fit : (o : Obligation) (place number : ℕ) (actions : List Action) (G H : Graph) → IsFit G →
      response_from names version o place number G actions ≡ Ok H → IsFit H
  response-fit o place number [] G H f h = subst IsFit (ok-is {E = Stopped} (Ok G) G H refl h) f
  response-fit o place number (a ∷ actions) G H f h =
      let at : Place = record { obligation = place; action = number } in
      let next = and_then-ok (or_stopped names version o number (acted names version G o.author at a))
      (λ next. response_from names version o place (number + 1) next actions) H h in
      let done = done-ok o number (acted names version G o.author at a) next.0 next.1 in
      response-fit o place (number + 1) actions next.0 H (acted-fit G next.0 o.author at a f done) next.2

  responses-fit : (place : ℕ) (obligations : List Obligation) (G H : Graph) → IsFit G →
      responses_from names version place G obligations ≡ Ok H → IsFit H
  responses-fit place [] G H f h = subst IsFit (ok-is {E = Stopped} (Ok G) G H refl h) f
  responses-fit place (o ∷ obligations) G H f h =
      let next = and_then-ok (response_from names version o place 1 G o.response)
      (λ next. responses_from names version (place + 1) next obligations) H h in
      responses-fit (place + 1) obligations next.0 H (response-fit o place 1 o.response G next.0 f next.1) next.2

-- ---- answers

abbrev IsKept : State → Answer → Type 0
IsKept S a = IsFit (after S a).graph

responded-fit : (S : State) (e : Option Event) (obligations : List Obligation) (G H : Graph) → IsFit G → responded S e obligations G ≡ Ok H → IsFit H
responded-fit S None obligations G H f h = subst IsFit (ok-is {E = Stopped} (Ok G) G H refl h) f
responded-fit S (Some e) obligations G H f h = responses-fit (names_in S.graph e) (S.version + 1) 1 obligations G H f h

settled-kept : (S : State) (reply : Reply) (r : Result Graph Stopped) → IsFit S.graph → ((H : Graph) → r ≡ Ok H → IsFit H) → IsKept S (settled S reply r)
settled-kept S reply (Ok H) f each = settled-fit S.graph H (S.version + 1) (each H refl)
settled-kept S reply (Err stop) f each = f

made-kept : (S : State) (reply : Reply) (e : Option Event) (obligations : List Obligation) (r : Result Graph Refusal) → IsFit S.graph →
    ((G : Graph) → r ≡ Ok G → IsFit G) → IsKept S (made S reply e obligations r)
made-kept S reply e obligations (Ok G) f each =
    settled-kept S reply (responded S e obligations G) f (λ H done. responded-fit S e obligations G H (each G refl) done)
made-kept S reply e obligations (Err why) f each = f

entered-kept : (S : State) (e : Option Event) (c : Change) → IsFit S.graph → IsMade S.graph c → IsKept S (entered S e c)
entered-kept S e c f made =
    made-kept S _ e (responders S.graph (obliging S.graph c) e) (effect S.graph c) f (λ G is. effect-fit S.graph G c made f is)

granted-kept : (S : State) (e : Event) (obligations : List Obligation) → IsFit S.graph → IsKept S (granted_with S e obligations)
granted-kept S e [] f = f
granted-kept S e (o ∷ os) f =
    settled-kept S (Granted (length (o ∷ os))) (responded S (Some e) (o ∷ os) S.graph) f
    (λ H done. responded-fit S (Some e) (o ∷ os) S.graph H f done)

body-kept : (S : State) (b : Body) → IsFit S.graph → IsKept S (answer_body S b)
body-kept S body.Version f = f
body-kept S (body.OpenSession user) f =
    or_refused-is (IsKept S) (look_up S.graph user) (λ u. entered S None (change.OpenSession u)) (λ why is. f)
    (λ u is. entered-kept S None (change.OpenSession u) f tt)
body-kept S (body.CloseSession n) f = entered-kept S None (change.CloseSession n) f tt
body-kept S (body.StartProcess n) f = entered-kept S None (change.StartProcess n) f tt
body-kept S (body.EndProcess n) f = entered-kept S None (change.EndProcess n) f tt
body-kept S (body.Access q right target) f =
    or_refused-is (IsKept S) (acting S.graph q) (λ u. answer_access S u q right target) (λ why is. f)
    (λ u is. or_refused-is (IsKept S) (accessed S.graph u q right target) (λ t. granted S (event u q right t)) (λ why is. f)
    (λ t is. granted-kept S (event u q right t) (responders S.graph S.graph.obligations (Some (event u q right t))) f))
body-kept S (body.Admin q c) f =
    or_refused-is (IsKept S) (acting S.graph q) (λ u. administered S u q (ruling S.graph u (Some q) c)) (λ why is. f)
    (λ u acts. or_refused-is (IsKept S) (ruling S.graph u (Some q) c) (λ d. entered S (raised S.graph u q d) d) (λ why is. f)
    (λ d is. entered-kept S (raised S.graph u q d) d f (ruled-made S.graph u (Some q) c d is)))
body-kept S (body.Review q question) f = review-is (IsKept S) S q question (λ why. f) (λ r. f)

answered-fit : (S : State) (r : Request) → IsFit S.graph → IsFit (after S (answer S r)).graph
answered-fit S r f = answer-is (IsKept S) S r f f (body-kept S r.body f)

-- ---- histories

opening-fit : IsFit opening.graph
unfolding opening_rights
opening-fit = record { rising = formed-opening.elements.rising; opened = omega arith; words = tt; kinds = tt }

fit-from : (S : State) (H : List Entry) → IsFit S.graph → IsFit (replay_from S H).graph
fit-from S [] f = f
fit-from S (e ∷ H) f = fit-from (after S (answer S e.request)) H (answered-fit S e.request f)

pub reached-fit : (H : List Entry) → IsFit (replay H).graph
reached-fit H = fit-from opening H opening-fit
