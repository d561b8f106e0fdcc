-- From what a request comes to to what a look at the state says of it.
use Rattle.std.proofs.Common.{◌≡◌, nat_lt, Bool, true, false, [], length, Some, Result, Ok, Err, if◌then◌else◌, refl, sym, ◌∙◌, ap, subst}
use Rattle.pm_model.specs.State.{State, Graph}
use Rattle.pm_model.specs.Answer.{granted, granted_with, is_ahead, proposed, told}
use Rattle.pm_model.specs.Events.{responders}
use Rattle.pm_model.specs.declared.events.Event.{Event}
use Rattle.pm_model.specs.declared.replies.Refusal.{Refusal}
use Rattle.pm_model.specs.declared.replies.Reply.{Reply}
use Rattle.pm_model.specs.declared.replies.Reply.TheVariants as reply
use Rattle.pm_model.specs.declared.replies.Shown.TheVariants.{Nothing}
use Rattle.pm_model.specs.declared.requests.Body.{Body}
use Rattle.pm_model.specs.declared.requests.Body.TheVariants as body
use Rattle.pm_model.specs.declared.requests.Request.{Request}
use Rattle.pm_machine.specs.Asking.{asks_freely}
use Rattle.pm_step.specs.Asking.{only_asks, proposal_of, IsAskedFor}
use Rattle.pm_machine.specs.Glances.{accessed_event, is_awaited, body_needs_desk, needs_desk, IsGlanced}
use Rattle.pm_step.specs.declared.proposals.Proposal.TheVariants.{Told, Granted}
use Rattle.pm_machine.specs.declared.glances.Glance.{Glance}
use Rattle.pm_machine.specs.declared.glances.Glance.TheVariants.{Answer, NeedsDesk}
use Rattle.pm_step.proofs.Placed.{none-of}
use Rattle.pm_step.proofs.Stepping.{told-is}

pub desk_needed : (G : Graph) (ahead : Bool) (b : Body) → only_asks b ≡ false → body_needs_desk G ahead b ≡ true
desk_needed G ahead body.Version h = absurd (cc)
desk_needed G ahead (body.Access q right target) h = absurd (cc)
desk_needed G ahead (body.Review q question) h = absurd (cc)
desk_needed G ahead _ h = refl

-- what takes no memory only asks
pub free_asks : (b : Body) → asks_freely b ≡ true → only_asks b ≡ true
free_asks body.Version h = refl
free_asks (body.Access q right target) h = refl
free_asks _ h = absurd (cc)

-- a refusal needs none, and of what is granted the obligations say
told-awaited : (G : Graph) (x : Result Event Refusal) (r : Reply) → Told r ≡ proposal_of x → is_awaited G x ≡ false
told-awaited G (Ok e) r is = absurd (cc)
told-awaited G (Err why) r is = refl

granted-awaited : (G : Graph) (x : Result Event Refusal) (e : Event) → Granted e ≡ proposal_of x →
    is_awaited G x ≡ nat_lt 0 (length (responders G G.obligations (Some e)))
granted-awaited G (Ok d) e is =
    let same : d ≡ e = cc (is) in
    ap (λ (d : Event). nat_lt 0 (length (responders G G.obligations (Some d)))) same
granted-awaited G (Err why) e is = absurd (cc)

told-free : (G : Graph) (ahead : Bool) (b : Body) (r : Reply) → only_asks b ≡ true → (ahead ≡ false → IsAskedFor G b (Told r)) →
    body_needs_desk G ahead b ≡ false
told-free G ahead body.Version r asks asked = refl
told-free G true (body.Access q right target) r asks asked = refl
told-free G false (body.Access q right target) r asks asked = told-awaited G (accessed_event G q right target) r (asked refl)
told-free G ahead (body.Review q question) r asks asked = refl
told-free G ahead _ r asks asked = absurd (cc)

granted-asked : (G : Graph) (ahead : Bool) (b : Body) (e : Event) → only_asks b ≡ true → (ahead ≡ true → Granted e ≡ Told reply.Ahead) →
    (ahead ≡ false → IsAskedFor G b (Granted e)) → body_needs_desk G ahead b ≡ nat_lt 0 (length (responders G G.obligations (Some e)))
granted-asked G true b e asks early asked = absurd (let no : Granted e ≡ Told reply.Ahead = early refl in cc)
granted-asked G false body.Version e asks early asked =
    absurd (let no : Granted e ≡ Told (reply.Done 0 Nothing) = asked refl in cc)
granted-asked G false (body.Access q right target) e asks early asked = granted-awaited G (accessed_event G q right target) e (asked refl)
granted-asked G false (body.Review q question) e asks early asked = absurd (asked refl)
granted-asked G false _ e asks early asked = absurd (cc)

pub told_glanced : (S : State) (r : Request) (told_reply : Reply) → only_asks r.body ≡ true → told told_reply ≡ proposed S r →
    (is_ahead r.after S.version ≡ false → IsAskedFor S.graph r.body (Told told_reply)) → IsGlanced S r (Answer told_reply)
told_glanced S r told_reply asks is asked =
    (told-free S.graph (is_ahead r.after S.version) r.body told_reply asks asked, told-is S r told_reply (sym is))

pub granted_glanced : (S : State) (r : Request) (e : Event) (g : Glance) → only_asks r.body ≡ true → granted S e ≡ proposed S r →
    (is_ahead r.after S.version ≡ true → Granted e ≡ Told reply.Ahead) →
    (is_ahead r.after S.version ≡ false → IsAskedFor S.graph r.body (Granted e)) →
    g ≡ (if nat_lt 0 (length (responders S.graph S.graph.obligations (Some e))) then NeedsDesk else Answer (reply.Granted 0)) → IsGlanced S r g
granted_glanced S r e g asks is early asked looks = of (nat_lt 0 (length (responders S.graph S.graph.obligations (Some e)))) refl where
  needs : needs_desk S r ≡ nat_lt 0 (length (responders S.graph S.graph.obligations (Some e)))
  needs = granted-asked S.graph (is_ahead r.after S.version) r.body e asks early asked

  of : (b : Bool) → nat_lt 0 (length (responders S.graph S.graph.obligations (Some e))) ≡ b → IsGlanced S r g
  of true some =
      let desk : g ≡ NeedsDesk = looks ∙ rw some refl in
      subst (IsGlanced S r) (sym desk) (needs ∙ some)
  of false none =
      let none_there : responders S.graph S.graph.obligations (Some e) ≡ [] = none-of (responders S.graph S.graph.obligations (Some e)) none in
      let answered : g ≡ Answer (reply.Granted 0) = looks ∙ rw none refl in
      subst (IsGlanced S r) (sym answered)
      (needs ∙ none, told-is S r (reply.Granted 0) (sym is ∙ ap (granted_with S e) none_there))
