-- The elements that an answer tells are live in the state after it: a denial alone tells any, and it leaves the state.
use Rattle.std.proofs.Common.{◌≡◌, ℕ, ◌==◌, Bool, IsTrue, List, [], ◌∷◌, length, Option, Some, None, is_some, Result, Ok, Err, IfErr, IfSome, not, ◌&&◌, refl, subst}
use Rattle.std.specs.Bool.{⊤}
use Rattle.std.proofs.lemmas.Bool.{cond_both}
use Rattle.std.proofs.lemmas.Option.{same_Some}
use Rattle.pm_model.specs.State.{State, Graph, root, element_at, classes_in}
use Rattle.pm_model.specs.Containment.{contained}
use Rattle.pm_model.specs.RightSet.{bit_named, is_access_right}
use Rattle.pm_model.specs.Sessions.{user_of}
use Rattle.pm_model.specs.Decision.{classes_of, is_met}
use Rattle.pm_model.specs.Resolve.{look_up, resolve, resolve_question}
use Rattle.pm_model.specs.Results.{first_of, unless}
use Rattle.pm_model.specs.Reviews.{review_checks, permitted_review, review_ruling, reviewed}
use Rattle.pm_model.specs.Effect.{effect}
use Rattle.pm_model.specs.Made.{made_by, shown_of}
use Rattle.pm_model.specs.Answer.{Answer, told, responded, settled, made, entered, acting, if_access, allowed_unless, accessed, granted_with, granted, or_refused, administered, answer_access, answer_review, answer_body, answer, after}
use Rattle.pm_model.specs.Events.{event, obliging, raised, responders}
use Rattle.pm_model.specs.Responses.{Stopped}
use Rattle.pm_model.specs.Authority.{lacking_in, forbidding_in, reason_of, is_administrative, denial_in, denied_unless, first_denied, required, required_by, subjects_of, permitted, ruling}
use Rattle.pm_model.specs.Nameable.{IsReasonNameable, IsRefusalNameable, IsNameable}
use Rattle.pm_model.specs.Formed.{Each, IsLive, IsUser, IsWellFormed}
use Rattle.pm_model.specs.declared.events.Event.{Event}
use Rattle.pm_model.specs.declared.obligations.Obligation.{Obligation}
use Rattle.pm_model.specs.declared.requests.Command.{Command}
use Rattle.pm_model.specs.declared.requests.Question.{Question}
use Rattle.pm_model.specs.declared.requests.Change.{Change}
use Rattle.pm_model.specs.declared.requests.Change.TheVariants.{OpenSession, CloseSession, StartProcess, EndProcess}
use Rattle.pm_model.specs.declared.requests.Request.{Request}
use Rattle.pm_model.specs.declared.requests.Body.{Body}
use Rattle.pm_model.specs.declared.requests.Body.TheVariants as body
use Rattle.pm_model.specs.declared.prohibitions.Prohibition as prohibitions
use Rattle.pm_model.specs.declared.replies.Reason.{Reason}
use Rattle.pm_model.specs.declared.replies.Reason.TheVariants.{Class, Prohibition}
use Rattle.pm_model.specs.declared.replies.Refusal.{Refusal}
use Rattle.pm_model.specs.declared.replies.Refusal.TheVariants.{UnknownName}
use Rattle.pm_model.specs.declared.replies.Shown.{Shown}
use Rattle.pm_model.specs.declared.replies.Reply.TheVariants.{Done, Granted}
use Rattle.pm_laws.proofs.Items.{find-found, filter-contains}
use Rattle.pm_laws.proofs.Resolved.{looked_up-live, resolve-named}
use Rattle.pm_laws.proofs.Authority.{required-live}
use Rattle.pm_laws.proofs.Live.{class-live}
use Rattle.pm_laws.proofs.Reviewed.{question-live, asked-live, review_of_live, reviewed-nameable}
use Rattle.pm_laws.proofs.Told.{and_then-of, unless-err, IsTellable, IsTold, then-told, look_up-told, resolve-told, question-told, kinds-told, effect-told}
use Rattle.pm_laws.proofs.Bodies.{acting-user, answer-is}

module _ (named : ℕ → Bool) where
  -- ---- accesses

  acting-told : (G : Graph) (process : ℕ) → IsTold named (acting G process)
  acting-told G process = of (user_of G.procs process) refl where
    of : (o : Option ℕ) → user_of G.procs process ≡ o → IsTold named (acting G process)
    of (Some u) is = rw is tt
    of None is = rw is tt

  access-told : (name : List ℕ) (o : Option ℕ) → IsTold named (if_access name o)
  access-told name (Some bit) =
      cond_both (is_access_right bit) (Ok bit) (Err (UnknownName name)) (λ (r : Result ℕ Refusal). IsTold named r) (λ is. tt) (λ is. tt)
  access-told name None = tt

  allowed-told : (right : List ℕ) (target : ℕ) (o : Option Reason) → IsTrue (named target) →
      ((reason : Reason) → o ≡ Some reason → IsReasonNameable named reason) → IsTold named (allowed_unless right target o)
  allowed-told right target (Some reason) live why = (live, why reason refl)
  allowed-told right target None live why = tt

-- the class that is told is live
lacking-live : (G : Graph) (u r e pc : ℕ) → IsWellFormed G → lacking_in G u r e ≡ Some pc → IsLive G.elements pc
lacking-live G u r e pc f h =
    let below : ℕ → ℕ → Bool = contained G.assigned in
    let classes = classes_in G.elements in
    let found = find-found (λ c. not (is_met below G.associations u r e c)) (classes_of below classes e) pc h in
    class-live G pc f (filter-contains (λ c. below e c) classes pc found.0).0

-- of what denies the class alone is told by its number
pub denial-live : (G : Graph) (u : ℕ) (q : Option ℕ) (r e : ℕ) (reason : Reason) → IsWellFormed G → denial_in G u q r e ≡ Some reason →
    IsReasonNameable (λ n. is_some (element_at G.elements n)) reason
denial-live G u q r e reason f =
    cond_both (u == root && is_administrative r) None (reason_of (lacking_in G u r e) (forbidding_in G u q r e))
    (λ (o : Option Reason). o ≡ Some reason → IsReasonNameable (λ n. is_some (element_at G.elements n)) reason)
    (λ is h. absurd (cc)) (λ is. of (lacking_in G u r e) (forbidding_in G u q r e) refl) where
      of : (lack : Option ℕ) (bar : Option prohibitions.Prohibition) → lacking_in G u r e ≡ lack → reason_of lack bar ≡ Some reason →
          IsReasonNameable (λ n. is_some (element_at G.elements n)) reason
      of (Some pc) bar is h =
          subst (IsReasonNameable (λ n. is_some (element_at G.elements n))) (same_Some (Class pc) reason h) (lacking-live G u r e pc f is)
      of None (Some p) is h = subst (IsReasonNameable (λ n. is_some (element_at G.elements n))) (same_Some (Prohibition p.name) reason h) tt
      of None None is h = absurd (cc)

module _ (G : Graph) where
  abbrev named-in : ℕ → Bool
  named-in n = is_some (element_at G.elements n)

  accessed-told : (u q : ℕ) (right target : List ℕ) → IsWellFormed G → IsTold named-in (accessed G u q right target)
  accessed-told u q right target f =
      then-told named-in (if_access right (bit_named G.rights right)) _ (access-told named-in right (bit_named G.rights right))
      (λ bit. and_then-of (λ _. ⊤) (IsTellable named-in) (look_up G target) (λ e. allowed_unless right e (denial_in G u (Some q) bit e))
      (look_up-told named-in G target)
      (λ e at. allowed-told named-in right e (denial_in G u (Some q) bit e) (looked_up-live G target e at)
      (λ reason why. denial-live G u (Some q) bit e reason f why)))

  -- ---- commands

  denied-told : (r e : ℕ) (o : Option Reason) (rest : Option Refusal) → IsTrue (named-in e) →
      ((reason : Reason) → o ≡ Some reason → IsReasonNameable named-in reason) → IfSome rest (IsTellable named-in) →
      IfSome (denied_unless G r e o rest) (IsTellable named-in)
  denied-told r e (Some reason) rest live why further = (live, why reason refl)
  denied-told r e None rest live why further = further

  first_denied-told : (u : ℕ) (q : Option ℕ) (cs : List (ℕ × ℕ)) → IsWellFormed G → Each (λ (c : ℕ × ℕ). IsLive G.elements c.1) cs →
      IfSome (first_denied G u q cs) (IsTellable named-in)
  first_denied-told u q [] f live = tt
  first_denied-told u q (c ∷ cs) f live =
      denied-told c.0 c.1 (denial_in G u q c.0 c.1) (first_denied G u q cs) live.0
      (λ reason why. denial-live G u q c.0 c.1 reason f why) (first_denied-told u q cs f live.1)

  -- what a ruling's denial tells is live
  pub ruling-told : (u : ℕ) (q : Option ℕ) (c : Command) → IsWellFormed G → IsUser G.elements u → IsTold named-in (ruling G u q c)
  ruling-told u q c f user =
      and_then-of (λ _. ⊤) (IsTellable named-in) (resolve G u c) (permitted G u q) (resolve-told named-in G u c)
      (λ d is. unless-err (IsTellable named-in) (first_denied G u q (required G d)) d
      (first_denied-told u q (required G d) f (required-live G d f (resolve-named G u c d user is))))

  -- the same of a review's
  review-told : (u : ℕ) (q : Option ℕ) (question : Question) → IsWellFormed G → IsTold named-in (review_ruling G u q question)
  review-told u q question f =
      and_then-of (λ _. ⊤) (IsTellable named-in) (resolve_question G question) (permitted_review G u q) (question-told named-in G question)
      (λ r is. then-told named-in (unless (first_denied G u q (required_by r)) r) (unless (first_of (review_checks G r)))
      (unless-err (IsTellable named-in) (first_denied G u q (required_by r)) r
      (first_denied-told u q (required_by r) f (asked-live G (subjects_of r) (question-live G question r f is))))
      (λ s. kinds-told named-in G r s))

-- ---- answers

-- what the answer tells is live in the state after it
abbrev IsAfter : State → Answer → Type 0
IsAfter S a = IsNameable (λ n. is_some (element_at (after S a).graph.elements n)) a.reply

abbrev IsToldIn : {A : Type 0} → State → Result A Refusal → Type 0
IsToldIn S r = IfErr r (IsRefusalNameable (λ n. is_some (element_at S.graph.elements n)))

or_refused-nameable : {A : Type 0} (S : State) (r : Result A Refusal) (f : A → Answer) → IsToldIn S r →
    ((a : A) → r ≡ Ok a → IsAfter S (f a)) → IsAfter S (or_refused r f)
or_refused-nameable S (Ok a) f h each = each a refl
or_refused-nameable S (Err why) f h each = h

-- what is accepted, and a response that is refused, tell no element
settled-done : (S : State) (fired : ℕ) (shown : Shown) (r : Result Graph Stopped) → IsAfter S (settled S (Done fired shown) r)
settled-done S fired shown (Ok G) = tt
settled-done S fired shown (Err stop) = tt

settled-granted : (S : State) (fired : ℕ) (r : Result Graph Stopped) → IsAfter S (settled S (Granted fired) r)
settled-granted S fired (Ok G) = tt
settled-granted S fired (Err stop) = tt

made-nameable : (S : State) (fired : ℕ) (shown : Shown) (e : Option Event) (obligations : List Obligation) (r : Result Graph Refusal) →
    IsToldIn S r → IsAfter S (made S (Done fired shown) e obligations r)
made-nameable S fired shown e obligations (Ok G) h = settled-done S fired shown (responded S e obligations G)
made-nameable S fired shown e obligations (Err why) h = h

entered-nameable : (S : State) (e : Option Event) (c : Change) → IsAfter S (entered S e c)
entered-nameable S e c =
    made-nameable S _ (shown_of (made_by S.graph c)) e (responders S.graph (obliging S.graph c) e) (effect S.graph c)
    (effect-told (λ n. is_some (element_at S.graph.elements n)) S.graph c)

granted-nameable : (S : State) (e : Event) (obligations : List Obligation) → IsAfter S (granted_with S e obligations)
granted-nameable S e [] = tt
granted-nameable S e (o ∷ os) = settled-granted S (length (o ∷ os)) (responded S (Some e) (o ∷ os) S.graph)

body-nameable : (S : State) (b : Body) → IsWellFormed S.graph → IsAfter S (answer_body S b)
body-nameable S body.Version f = tt
body-nameable S (body.OpenSession user) f =
    or_refused-nameable S (look_up S.graph user) (λ u. entered S None (OpenSession u))
    (look_up-told (λ n. is_some (element_at S.graph.elements n)) S.graph user) (λ u is. entered-nameable S None (OpenSession u))
body-nameable S (body.CloseSession n) f = entered-nameable S None (CloseSession n)
body-nameable S (body.StartProcess n) f = entered-nameable S None (StartProcess n)
body-nameable S (body.EndProcess n) f = entered-nameable S None (EndProcess n)
body-nameable S (body.Access q right target) f =
    or_refused-nameable S (acting S.graph q) (λ u. answer_access S u q right target)
    (acting-told (λ n. is_some (element_at S.graph.elements n)) S.graph q)
    (λ u is. or_refused-nameable S (accessed S.graph u q right target) (λ t. granted S (event u q right t))
    (accessed-told S.graph u q right target f)
    (λ t is. granted-nameable S (event u q right t) (responders S.graph S.graph.obligations (Some (event u q right t)))))
body-nameable S (body.Admin q c) f =
    or_refused-nameable S (acting S.graph q) (λ u. administered S u q (ruling S.graph u (Some q) c))
    (acting-told (λ n. is_some (element_at S.graph.elements n)) S.graph q)
    (λ u acts. or_refused-nameable S (ruling S.graph u (Some q) c) (λ d. entered S (raised S.graph u q d) d)
    (ruling-told S.graph u (Some q) c f (acting-user S.graph q u f acts))
    (λ d is. entered-nameable S (raised S.graph u q d) d))
body-nameable S (body.Review q question) f =
    or_refused-nameable S (acting S.graph q) (λ u. answer_review S u q question)
    (acting-told (λ n. is_some (element_at S.graph.elements n)) S.graph q)
    (λ u acts. or_refused-nameable S (review_ruling S.graph u (Some q) question) (λ r. told (reviewed S.graph r))
    (review-told S.graph u (Some q) question f)
    (λ r is. reviewed-nameable S.graph r f (review_of_live S.graph u (Some q) question r f is)))

pub answer_nameable : (S : State) (r : Request) → IsWellFormed S.graph →
    IsNameable (λ n. is_some (element_at (after S (answer S r)).graph.elements n)) (answer S r).reply
answer_nameable S r f = answer-is (IsAfter S) S r tt tt (body-nameable S r.body f)
