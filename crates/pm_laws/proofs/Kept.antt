-- Each answer leaves a well formed graph, where there is a number left for a new session or process.
use Rattle.std.proofs.Common.{◌≡◌, ◌+◌, List, [], ◌∷◌, length, Option, Some, None, Result, Ok, Err, Contains, refl, subst}
use Rattle.pm_model.specs.State.{State, Graph}
use Rattle.pm_model.specs.Effect.{refusal, changed, effect}
use Rattle.pm_model.specs.Events.{event, obliging, raised, responders}
use Rattle.pm_model.specs.Resolve.{look_up}
use Rattle.pm_model.specs.Authority.{ruling}
use Rattle.pm_model.specs.Answer.{Answer, responded, settled, made, entered, accessed, granted_with, granted, acting, administered, answer_access, answer_body, answer, after}
use Rattle.pm_model.specs.Responses.{Stopped}
use Rattle.pm_model.specs.Formed.{IsWellFormed, HasNext, IsNamed}
use Rattle.pm_model.specs.declared.events.Event.{Event}
use Rattle.pm_model.specs.declared.obligations.Obligation.{Obligation}
use Rattle.pm_model.specs.declared.requests.Change.{Change}
use Rattle.pm_model.specs.declared.requests.Change.TheVariants.{OpenSession, CloseSession, StartProcess, EndProcess}
use Rattle.pm_model.specs.declared.requests.Body.{Body}
use Rattle.pm_model.specs.declared.requests.Body.TheVariants as body
use Rattle.pm_model.specs.declared.requests.Request.{Request}
use Rattle.pm_model.specs.declared.replies.Refusal.{Refusal}
use Rattle.pm_model.specs.declared.replies.Reply.{Reply}
use Rattle.pm_model.specs.declared.replies.Reply.TheVariants.{Granted}
use Rattle.pm_laws.proofs.Checks.{unless-ok}
use Rattle.pm_laws.proofs.Formed.{formed-effect, formed-settled}
use Rattle.pm_laws.proofs.Resolved.{looked_up-live}
use Rattle.pm_laws.proofs.Authority.{ruling-named}
use Rattle.pm_laws.proofs.Responding.{responder-may, obliging-stands, responded-formed}
use Rattle.pm_laws.proofs.Bodies.{acting-user, or_refused-is, review-is, answer-is}

abbrev IsKept : State → Answer → Type 0
IsKept S a = IsWellFormed (after S a).graph

settled-kept : (S : State) (reply : Reply) (r : Result Graph Stopped) → IsWellFormed S.graph → ((H : Graph) → r ≡ Ok H → IsWellFormed H) →
    IsKept S (settled S reply r)
settled-kept S reply (Ok H) f each = formed-settled S.graph H (S.version + 1) (each H refl)
settled-kept S reply (Err stop) f each = f

made-kept : (S : State) (c : Change) (reply : Reply) (e : Option Event) (obligations : List Obligation) (r : Result Graph Refusal) →
    IsWellFormed S.graph → IsNamed S.graph c → ((o : Obligation) → Contains obligations o → Contains (obliging S.graph c) o) →
    effect S.graph c ≡ r → IsKept S (made S reply e obligations r)
made-kept S c reply e obligations (Ok G) f named may is =
    settled-kept S reply (responded S e obligations G) f (λ H done.
    responded-formed S obligations G H e (formed-effect S.graph G c f named is)
    (λ o there. subst (λ (K : Graph). Contains K.obligations o) (unless-ok (refusal S.graph c) (changed S.graph c) G is).1
    (obliging-stands S.graph c o (may o there))) done)
made-kept S c reply e obligations (Err why) f named may is = f

entered-kept : (S : State) (e : Option Event) (c : Change) → IsWellFormed S.graph → IsNamed S.graph c → IsKept S (entered S e c)
entered-kept S e c f named =
    made-kept S c _ e (responders S.graph (obliging S.graph c) e) (effect S.graph c) f named
    (responder-may S.graph (obliging S.graph c) e) refl

granted-kept : (S : State) (e : Event) (obligations : List Obligation) → IsWellFormed S.graph →
    ((o : Obligation) → Contains obligations o → Contains S.graph.obligations o) → IsKept S (granted_with S e obligations)
granted-kept S e [] f stands = f
granted-kept S e (o ∷ os) f stands =
    settled-kept S (Granted (length (o ∷ os))) (responded S (Some e) (o ∷ os) S.graph) f
    (λ H done. responded-formed S (o ∷ os) S.graph H (Some e) f stands done)

body-kept : (S : State) (b : Body) → IsWellFormed S.graph → HasNext S.graph.procs.next_session → HasNext S.graph.procs.next_process →
    IsKept S (answer_body S b)
body-kept S body.Version f s p = f
body-kept S (body.OpenSession user) f s p =
    or_refused-is (IsKept S) (look_up S.graph user) (λ u. entered S None (OpenSession u)) (λ why is. f)
    (λ u is. entered-kept S None (OpenSession u) f (looked_up-live S.graph user u is, s))
body-kept S (body.CloseSession n) f s p = entered-kept S None (CloseSession n) f tt
body-kept S (body.StartProcess n) f s p = entered-kept S None (StartProcess n) f p
body-kept S (body.EndProcess n) f s p = entered-kept S None (EndProcess n) f tt
body-kept S (body.Access q right target) f s p =
    or_refused-is (IsKept S) (acting S.graph q) (λ u. answer_access S u q right target) (λ why is. f)
    (λ u is. or_refused-is (IsKept S) (accessed S.graph u q right target) (λ t. granted S (event u q right t)) (λ why is. f)
    (λ t is. granted-kept S (event u q right t) (responders S.graph S.graph.obligations (Some (event u q right t))) f
    (responder-may S.graph S.graph.obligations (Some (event u q right t)))))
body-kept S (body.Admin q c) f s p =
    or_refused-is (IsKept S) (acting S.graph q) (λ u. administered S u q (ruling S.graph u (Some q) c)) (λ why is. f)
    (λ u acts. or_refused-is (IsKept S) (ruling S.graph u (Some q) c) (λ d. entered S (raised S.graph u q d) d) (λ why is. f)
    (λ d is. entered-kept S (raised S.graph u q d) d f (ruling-named S.graph u (Some q) c d (acting-user S.graph q u f acts) is)))
body-kept S (body.Review q question) f s p = review-is (IsKept S) S q question (λ why. f) (λ r. f)

pub formed-answer : (S : State) (r : Request) → IsWellFormed S.graph → HasNext S.graph.procs.next_session →
    HasNext S.graph.procs.next_process → IsWellFormed (after S (answer S r)).graph
formed-answer S r f s p = answer-is (IsKept S) S r f f (body-kept S r.body f s p)
