-- Commands that each take their effect on a graph where nothing responds and no review is kept: as requests they are accepted
-- one after another.
use Rattle.std.proofs.Common.{◌≡◌, ◌≤◌, ◌+◌, ℕ, List, [], ◌∷◌, ◌++◌, length, map, Option, Some, None, Result, Ok, refl, sym, ◌∙◌, ap, subst, arith, length-append, append_assoc}
use Rattle.std.proofs.lemmas.List.{append-nil}
use Rattle.pm_model.specs.declared.replies.Refusal.{Refusal}
use Rattle.pm_model.specs.declared.events.Event.{Event}
use Rattle.pm_model.specs.declared.obligations.Obligation.{Obligation}
use Rattle.pm_model.specs.State.{State, Graph, root}
use Rattle.pm_model.specs.Sessions.{opening_procs}
use Rattle.pm_model.specs.Effect.{effect}
use Rattle.pm_model.specs.Events.{obliging, raised, responders}
use Rattle.pm_model.specs.Resolve.{resolve}
use Rattle.pm_model.specs.Authority.{ruling}
use Rattle.pm_model.specs.Answer.{acting, administered, or_refused, entered, proposed, longest_history}
use Rattle.pm_model.specs.History.{Machine, state_of, IsReplayed, IsAnswered}
use Rattle.pm_model.specs.declared.requests.Command.{Command}
use Rattle.pm_model.specs.declared.requests.Change.{Change}
use Rattle.pm_model.specs.declared.requests.Request.{Request}
use Rattle.pm_model.specs.declared.requests.Entry.{Entry}
use Rattle.pm_laws.proofs.Replayed.{grown, answered-plainly}
use Rattle.pm_laws.proofs.Authority.{root_may_all}
use Rattle.pm_policy.specs.Requests.{asked}

heads : {X : Type 0} → {x y : X} → {xs ys : List X} → x ∷ xs ≡ y ∷ ys → x ≡ y
heads h = cc

tails : {X : Type 0} → {x y : X} → {xs ys : List X} → x ∷ xs ≡ y ∷ ys → xs ≡ ys
tails h = cc

-- only the opening's session and process, no obligation, no kept review
pub record IsQuiet (G : Graph) : Type 0 where
  pub procs : G.procs ≡ opening_procs root
  pub obligations : G.obligations ≡ []
  pub kept : G.kept ≡ []

-- the command leads from the one graph to the other
pub record IsStep (G : Graph) (c : Command) (H : Graph) : Type 0 where
  pub change : Change
  pub resolved : resolve G root c ≡ Ok change
  pub made : effect G change ≡ Ok H
  pub obliging : obliging G change ≡ G.obligations
  pub quiet : IsQuiet H

abbrev pub Steps : Graph → List Command → Graph → Type 0
Steps G [] H = G ≡ H
Steps G (c ∷ cs) H = (K : Graph) × IsStep G c K × Steps K cs H

pub steps-append : (G K H : Graph) (cs ds : List Command) → Steps G cs K → Steps K ds H → Steps G (cs ++ ds) H
steps-append G K H [] ds s t = subst (λ (J : Graph). Steps J ds H) (sym s) t
steps-append G K H (c ∷ cs) ds s t = (s.0, s.1, steps-append s.0 K H cs ds s.2 t)

acts : (G : Graph) → IsQuiet G → acting G 0 ≡ Ok root
acts G q = rw q.procs refl

step-proposed : (S : State) (c : Command) (H : Graph) → IsQuiet S.graph → (s : IsStep S.graph c H) →
    proposed S (asked c) ≡ entered S (raised S.graph root 0 s.change) s.change
step-proposed S c H q s =
    ap (λ (r : Result ℕ Refusal). or_refused r (λ u. administered S u 0 (ruling S.graph u (Some 0) c))) (acts S.graph q)
    ∙ ap (λ (r : Result Change Refusal). administered S root 0 r) (root_may_all S.graph (Some 0) c s.change s.resolved)

nothing-matches : (G : Graph) (e : Option Event) → responders G [] e ≡ []
nothing-matches G None = refl
nothing-matches G (Some e) = refl

none-respond : (S : State) (c : Command) (H : Graph) → IsQuiet S.graph → (s : IsStep S.graph c H) →
    responders S.graph (obliging S.graph s.change) (raised S.graph root 0 s.change) ≡ []
none-respond S c H q s =
    ap (λ (os : List Obligation). responders S.graph os (raised S.graph root 0 s.change)) (s.obliging ∙ q.obligations)
    ∙ nothing-matches S.graph (raised S.graph root 0 s.change)

pub steps-accepted : (M : Machine) (G : Graph) (cs : List Command) (H : List Entry) → IsReplayed M → IsQuiet M.graph → Steps M.graph cs G →
    map (λ (e : Entry). e.request) H ≡ map asked cs → length M.history + length cs ≤ longest_history →
    IsReplayed (record { graph = G; history = M.history ++ H })
steps-accepted M G [] [] r q s same room =
    subst (λ (K : Graph). IsReplayed (record { graph = K; history = M.history ++ [] })) s (rw (append-nil M.history) r)
steps-accepted M G [] (e ∷ H) r q s same room = absurd (cc)
steps-accepted M G (c ∷ cs) [] r q s same room = absurd (cc)
steps-accepted M G (c ∷ cs) (e ∷ H) r q s same room =
    let K = s.0 in
    let step = s.1 in
    let first : e.request ≡ asked c = heads same in
    let rest : map (λ (e : Entry). e.request) H ≡ map asked cs = tails same in
    let answered : IsAnswered (record { graph = K; history = M.history }) (asked c) =
    answered-plainly M (asked c) (raised M.graph root 0 step.change) step.change K r q.kept
    (step-proposed (state_of M) c K q step) (none-respond (state_of M) c K q step) step.made in
    let next : IsReplayed (record { graph = K; history = M.history ++ e ∷ [] }) =
    grown (record { graph = K; history = M.history }) e r.legal
    (subst (λ (a : Request). IsAnswered (record { graph = K; history = M.history }) a) (sym first) answered) (omega (arith, room)) in
    let more = length-append M.history (e ∷ []) in
    subst (λ (l : List Entry). IsReplayed (record { graph = G; history = l })) (append_assoc M.history (e ∷ []) H)
    (steps-accepted (record { graph = K; history = M.history ++ e ∷ [] }) G cs H next step.quiet s.2 rest (omega (arith, room, more)))
