-- Every reply: where it is a denial its reason holds.
use Rattle.std.proofs.Common.{◌≡◌, ◌+◌, ℕ, List, [], ◌∷◌, length, Option, Some, None, Result, Ok, Err, refl, ap, sym}
use Rattle.pm_model.specs.State.{State, Graph}
use Rattle.pm_model.specs.Sessions.{user_of}
use Rattle.pm_model.specs.Effect.{effect}
use Rattle.pm_model.specs.Events.{event, names_in, obliging, raised, responders}
use Rattle.pm_model.specs.KeptReviews.{KeptReview, kept_at}
use Rattle.pm_model.specs.Made.{made_by, shown_of}
use Rattle.pm_model.specs.Resolve.{look_up}
use Rattle.pm_model.specs.Responses.{Stopped}
use Rattle.pm_model.specs.Authority.{ruling}
use Rattle.pm_model.specs.Reviews.{last_change, reviewed, review_ruling}
use Rattle.pm_model.specs.Answer.{Answer, told, responded, settled, made, entered, acting, accessed, granted_with, granted, administered, answer_access, answer_review, answer_body, answer}
use Rattle.pm_model.specs.declared.events.Event.{Event}
use Rattle.pm_model.specs.declared.obligations.Obligation.{Obligation}
use Rattle.pm_model.specs.declared.requests.Body.{Body}
use Rattle.pm_model.specs.declared.requests.Body.TheVariants as body
use Rattle.pm_model.specs.declared.requests.Change.{Change}
use Rattle.pm_model.specs.declared.requests.Change.TheVariants.{OpenSession, CloseSession, StartProcess, EndProcess}
use Rattle.pm_model.specs.declared.requests.Request.{Request}
use Rattle.pm_model.specs.declared.requests.Review.{Review}
use Rattle.pm_model.specs.declared.requests.Review.TheVariants.{Caps, Entries, Survey, Kept, Changes}
use Rattle.pm_model.specs.declared.replies.Refusal.{Refusal}
use Rattle.pm_model.specs.declared.replies.Refusal.TheVariants.{Denied, UnknownProcess}
use Rattle.pm_model.specs.declared.replies.Reply.{Reply}
use Rattle.pm_model.specs.declared.replies.Reply.TheVariants.{Done, Granted, Refused}
use Rattle.pm_laws.proofs.Bodies.{or_refused-is, answer-is}
use Rattle.pm_laws.proofs.Told.{IsTellable, IsTold, look_up-told, effect-told}
use Rattle.pm_denials.specs.Told.{IfDenial, TellsOwnCause, Raises, NamesCause}
use Rattle.pm_denials.proofs.Causes.{unnamed, err-at, access_denied_names_cause, command_denied_names_cause, review_denied_names_cause}
use Rattle.pm_denials.proofs.Stops.{responses-stopped}

-- ---- denials, and others

denial-if : (P : Type 0) (why : Refusal) → P → IfDenial why P
denial-if P (Denied right target reason) h = h
denial-if P _ h = tt

no-denial : (P : Type 0) (why : Refusal) → IsTellable unnamed why → IfDenial why P
no-denial P (Denied right target reason) h = absurd (let no = h.0 in cc)
no-denial P _ h = tt

-- ---- the process

acting-user : (G : Graph) (q u : ℕ) → acting G q ≡ Ok u → user_of G.procs q ≡ Some u
acting-user G q u h = of (user_of G.procs q) refl where
  of : (o : Option ℕ) → user_of G.procs q ≡ o → user_of G.procs q ≡ Some u
  of (Some v) is = let known : acting G q ≡ Ok v = rw is refl in let same : v ≡ u = cc in rw (is, same) refl
  of None is = absurd (let unknown : acting G q ≡ Err UnknownProcess = rw is refl in cc)

acting-told : (G : Graph) (q : ℕ) → IsTold unnamed (acting G q)
acting-told G q = of (user_of G.procs q) refl where
  of : (o : Option ℕ) → user_of G.procs q ≡ o → IsTold unnamed (acting G q)
  of (Some u) is = rw is tt
  of None is = rw is tt

-- ---- replies

module _ (S : State) (b : Body) where
  abbrev AnswerNames : Answer → Type 0
  AnswerNames a = NamesCause S b a.reply

  -- of a refusal that is no denial
  refused-told : {A : Type 0} (r : Result A Refusal) (why : Refusal) → IsTold unnamed r → r ≡ Err why → AnswerNames (told (Refused why))
  refused-told r why told is = no-denial (TellsOwnCause S.graph b why) why (err-at (IsTellable unnamed) r why told is)

  -- of one that is, perhaps
  refused-cause : (why : Refusal) → TellsOwnCause S.graph b why → AnswerNames (told (Refused why))
  refused-cause why cause = denial-if (TellsOwnCause S.graph b why) why cause

  -- of the responses to an event
  settled-names : (e : Event) (G : Graph) (obligations : List Obligation) (reply : Reply) → NamesCause S b reply → Raises S b e G obligations →
      AnswerNames (settled S reply (responded S (Some e) obligations G))
  settled-names e G obligations reply own raises = of (responded S (Some e) obligations G) refl where
    of : (r : Result Graph Stopped) → responded S (Some e) obligations G ≡ r → AnswerNames (settled S reply r)
    of (Ok H) is = own
    of (Err stop) is =
        denial-if _ stop.why (e, G, obligations, raises, responses-stopped (names_in S.graph e) (S.version + 1) G obligations stop is)

  -- of a change, and of an access
  made-names : (e : Option Event) (r : Result Graph Refusal) (obligations : List Obligation) (reply : Reply) → NamesCause S b reply → IsTold unnamed r →
      ((d : Event) (G : Graph) → e ≡ Some d → r ≡ Ok G → Raises S b d G obligations) → AnswerNames (made S reply e obligations r)
  made-names (Some e) (Ok G) obligations reply own told raises = settled-names e G obligations reply own (raises e G refl refl)
  made-names None (Ok G) obligations reply own told raises = own
  made-names e (Err why) obligations reply own told raises = no-denial (TellsOwnCause S.graph b why) why told

  entered-names : (e : Option Event) (c : Change) →
      ((d : Event) (G : Graph) → e ≡ Some d → effect S.graph c ≡ Ok G → Raises S b d G (responders S.graph (obliging S.graph c) e)) →
      AnswerNames (entered S e c)
  entered-names e c raises =
      made-names e (effect S.graph c) (responders S.graph (obliging S.graph c) e)
      (Done (length (responders S.graph (obliging S.graph c) e)) (shown_of (made_by S.graph c))) tt (effect-told unnamed S.graph c) raises

  quiet : (c : Change) → AnswerNames (entered S None c)
  quiet c = entered-names None c (λ d G no is. absurd (cc))

  granted-names : (e : Event) (obligations : List Obligation) → Raises S b e S.graph obligations → AnswerNames (granted_with S e obligations)
  granted-names e [] raises = tt
  granted-names e (o ∷ os) raises = settled-names e S.graph (o ∷ os) (Granted (length (o ∷ os))) tt raises

  last-names : (o : Option KeptReview) → NamesCause S b (last_change o)
  last-names None = tt
  last-names (Some k) = tt

  reviewed-names : (r : Review) → AnswerNames (told (reviewed S.graph r))
  reviewed-names (Caps u) = tt
  reviewed-names (Entries e) = tt
  reviewed-names (Survey us) = tt
  reviewed-names (Kept of) = tt
  reviewed-names (Changes n of) = last-names (kept_at S.graph.kept n)

-- ---- every body, and every request

body-names : (S : State) (b : Body) → AnswerNames S b (answer_body S b)
body-names S body.Version = tt
body-names S (body.OpenSession user) =
    or_refused-is (AnswerNames S (body.OpenSession user)) (look_up S.graph user) (λ u. entered S None (OpenSession u))
    (λ why is. refused-told S (body.OpenSession user) (look_up S.graph user) why (look_up-told unnamed S.graph user) is)
    (λ u is. quiet S (body.OpenSession user) (OpenSession u))
body-names S (body.CloseSession n) = quiet S (body.CloseSession n) (CloseSession n)
body-names S (body.StartProcess n) = quiet S (body.StartProcess n) (StartProcess n)
body-names S (body.EndProcess n) = quiet S (body.EndProcess n) (EndProcess n)
body-names S (body.Access q right target) = let b = body.Access q right target in
    or_refused-is (AnswerNames S b) (acting S.graph q) (λ u. answer_access S u q right target)
    (λ why is. refused-told S b (acting S.graph q) why (acting-told S.graph q) is)
    (λ u acts. or_refused-is (AnswerNames S b) (accessed S.graph u q right target) (λ t. granted S (event u q right t))
    (λ why is. refused-cause S b why (u, acting-user S.graph q u acts, access_denied_names_cause S.graph u q right target why is))
    (λ t is. granted-names S b (event u q right t) (responders S.graph S.graph.obligations (Some (event u q right t)))
    (u, t, acting-user S.graph q u acts, is, refl, refl, refl)))
body-names S (body.Admin q c) = let b = body.Admin q c in
    or_refused-is (AnswerNames S b) (acting S.graph q) (λ u. administered S u q (ruling S.graph u (Some q) c))
    (λ why is. refused-told S b (acting S.graph q) why (acting-told S.graph q) is)
    (λ u acts. or_refused-is (AnswerNames S b) (ruling S.graph u (Some q) c) (λ d. entered S (raised S.graph u q d) d)
    (λ why is. refused-cause S b why (u, acting-user S.graph q u acts, command_denied_names_cause S.graph u (Some q) c why is))
    (λ d is. entered-names S b (raised S.graph u q d) d (λ e G raises makes.
    (u, d, acting-user S.graph q u acts, is, raises, makes, ap (responders S.graph (obliging S.graph d)) (sym raises)))))
body-names S (body.Review q question) = let b = body.Review q question in
    or_refused-is (AnswerNames S b) (acting S.graph q) (λ u. answer_review S u q question)
    (λ why is. refused-told S b (acting S.graph q) why (acting-told S.graph q) is)
    (λ u acts. or_refused-is (AnswerNames S b) (review_ruling S.graph u (Some q) question) (λ r. told (reviewed S.graph r))
    (λ why is. refused-cause S b why (u, acting-user S.graph q u acts, review_denied_names_cause S.graph u (Some q) question why is))
    (λ r is. reviewed-names S b r))

pub every_denial_names_its_cause : (S : State) (r : Request) → NamesCause S r.body (answer S r).reply
every_denial_names_its_cause S r = answer-is (AnswerNames S r.body) S r tt tt (body-names S r.body)
