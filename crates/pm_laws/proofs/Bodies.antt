-- What an answer comes to: a refusal, a change, an access that is granted, or what a review tells; and what these are where
-- nothing responds.
use Rattle.std.proofs.Common.{◌≡◌, ◌&&◌, nat_le, ℕ, [], Option, Some, None, Result, Ok, Err, is_some, refl}
use Rattle.std.proofs.lemmas.Bool.{cond_both}
use Rattle.pm_model.specs.State.{State, Graph}
use Rattle.pm_model.specs.Sessions.{user_of}
use Rattle.pm_model.specs.Effect.{effect}
use Rattle.pm_model.specs.Events.{event, obliging, raised, responders}
use Rattle.pm_model.specs.Resolve.{look_up}
use Rattle.pm_model.specs.Authority.{ruling}
use Rattle.pm_model.specs.Made.{made_by, shown_of}
use Rattle.pm_model.specs.Reviews.{review_ruling, reviewed}
use Rattle.pm_model.specs.Answer.{Answer, told, made, entered, accessed, granted, or_refused, acting, administered, answer_access, answer_review, answer_body, is_ahead, proposed, longest_history, answer}
use Rattle.pm_model.specs.Formed.{IsWellFormed, IsUser}
use Rattle.pm_model.specs.declared.events.Event.{Event}
use Rattle.pm_model.specs.declared.requests.Change.{Change}
use Rattle.pm_model.specs.declared.requests.Change.TheVariants.{OpenSession, CloseSession, StartProcess, EndProcess}
use Rattle.pm_model.specs.declared.requests.Body.{Body}
use Rattle.pm_model.specs.declared.requests.Body.TheVariants as body
use Rattle.pm_model.specs.declared.requests.Request.{Request}
use Rattle.pm_model.specs.declared.requests.Question.{Question}
use Rattle.pm_model.specs.declared.requests.Review.{Review}
use Rattle.pm_model.specs.declared.replies.Refusal.{Refusal}
use Rattle.pm_model.specs.declared.replies.Refusal.TheVariants.{UnknownProcess, Full}
use Rattle.pm_model.specs.declared.replies.Table.TheVariants.{History}
use Rattle.pm_model.specs.declared.replies.Reply.TheVariants.{Done, Granted, Ahead, Refused}
use Rattle.pm_model.specs.declared.replies.Shown.TheVariants.{Nothing}
use Rattle.pm_laws.proofs.Live.{user-is}

-- ---- the user

acting-found : (G : Graph) (q u : ℕ) → acting G q ≡ Ok u → user_of G.procs q ≡ Some u
acting-found G q u h = of (user_of G.procs q) refl where
  of : (o : Option ℕ) → user_of G.procs q ≡ o → user_of G.procs q ≡ Some u
  of (Some v) is = let known : acting G q ≡ Ok v = rw is refl in let same : v ≡ u = cc in rw (is, same) refl
  of None is = absurd (let unknown : acting G q ≡ Err UnknownProcess = rw is refl in cc)

-- one who acts by a process is a user
pub acting-user : (G : Graph) (q u : ℕ) → IsWellFormed G → acting G q ≡ Ok u → IsUser G.elements u
acting-user G q u f h = user-is G q u f (acting-found G q u h)

-- ---- what holds of all answers

module _ (P : Answer → Type 0) where
  -- of a refusal, and of what else follows
  pub or_refused-is : {A : Type 0} (r : Result A Refusal) (f : A → Answer) → ((why : Refusal) → r ≡ Err why → P (told (Refused why))) →
      ((a : A) → r ≡ Ok a → P (f a)) → P (or_refused r f)
  or_refused-is (Ok a) f refused each = each a refl
  or_refused-is (Err why) f refused each = refused why refl

  -- where the request's body is answered at all
  pub answer-is : (S : State) (r : Request) → P (told (Refused (Full History))) → P (told Ahead) → P (answer_body S r.body) → P (answer S r)
  answer-is S r full ahead each = let a = proposed S r in
      cond_both (is_some a.next && nat_le longest_history S.version) (told (Refused (Full History))) a P (λ is. full)
      (λ is. cond_both (is_ahead r.after S.version) (told Ahead) (answer_body S r.body) P (λ is. ahead) (λ is. each))

  -- of a review
  pub review-is : (S : State) (q : ℕ) (question : Question) → ((why : Refusal) → P (told (Refused why))) →
      ((r : Review) → P (told (reviewed S.graph r))) → P (answer_body S (body.Review q question))
  review-is S q question refused review =
      or_refused-is (acting S.graph q) (λ u. answer_review S u q question) (λ why is. refused why)
      (λ u is. or_refused-is (review_ruling S.graph u (Some q) question) (λ r. told (reviewed S.graph r)) (λ why is. refused why)
      (λ r is. review r))

  -- of every refusal, change, grant and review
  pub body-is : (S : State) (b : Body) → P (told (Done 0 Nothing)) → ((why : Refusal) → P (told (Refused why))) →
      ((e : Option Event) (c : Change) → P (entered S e c)) → ((e : Event) → P (granted S e)) →
      ((r : Review) → P (told (reviewed S.graph r))) → P (answer_body S b)
  body-is S body.Version version refused change grant review = version
  body-is S (body.OpenSession user) version refused change grant review =
      or_refused-is (look_up S.graph user) (λ u. entered S None (OpenSession u)) (λ why is. refused why) (λ u is. change None (OpenSession u))
  body-is S (body.CloseSession n) version refused change grant review = change None (CloseSession n)
  body-is S (body.StartProcess n) version refused change grant review = change None (StartProcess n)
  body-is S (body.EndProcess n) version refused change grant review = change None (EndProcess n)
  body-is S (body.Access q right target) version refused change grant review =
      or_refused-is (acting S.graph q) (λ u. answer_access S u q right target) (λ why is. refused why)
      (λ u is. or_refused-is (accessed S.graph u q right target) (λ t. granted S (event u q right t)) (λ why is. refused why)
      (λ t is. grant (event u q right t)))
  body-is S (body.Admin q c) version refused change grant review =
      or_refused-is (acting S.graph q) (λ u. administered S u q (ruling S.graph u (Some q) c)) (λ why is. refused why)
      (λ u is. or_refused-is (ruling S.graph u (Some q) c) (λ d. entered S (raised S.graph u q d) d) (λ why is. refused why)
      (λ d is. change (raised S.graph u q d) d))
  body-is S (body.Review q question) version refused change grant review = review-is S q question refused review

-- ---- no responder

made-alone : (S : State) (c : Change) (e : Option Event) (r : Result Graph Refusal) →
    made S (Done 0 (shown_of (made_by S.graph c))) e [] r ≡ made S (Done 0 (shown_of (made_by S.graph c))) None [] r
made-alone S c None r = refl
made-alone S c (Some e) (Ok G) = refl
made-alone S c (Some e) (Err why) = refl

pub nothing_responds_to_change : (S : State) (e : Option Event) (c : Change) → responders S.graph (obliging S.graph c) e ≡ [] →
    entered S e c ≡ entered S None c
nothing_responds_to_change S e c none = rw none (made-alone S c e (effect S.graph c))

pub nothing_responds_to_access : (S : State) (e : Event) → responders S.graph S.graph.obligations (Some e) ≡ [] →
    granted S e ≡ told (Granted 0)
nothing_responds_to_access S e none = rw none refl
