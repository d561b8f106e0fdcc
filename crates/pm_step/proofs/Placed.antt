-- Those that respond, by their places, and what comes of their responses.
use Rattle.std.proofs.Common.{◌≡◌, ◌<◌, nat_lt, ℕ, true, false, List, [], ◌∷◌, map, length, Option, Some, None, Result, Ok, Err, slice_get, All, Contains, refl, ◌∙◌, subst, arith}
use Rattle.std.proofs.lemmas.Bool.{eqb-true, ltb-false}
use Rattle.pm_model.specs.State.{State, Graph}
use Rattle.pm_model.specs.Containment.{contained}
use Rattle.pm_model.specs.Made.{made_by, shown_of}
use Rattle.pm_model.specs.Effect.{changed, effect, refusal}
use Rattle.pm_model.specs.Events.{obliging, responders}
use Rattle.pm_model.specs.Responses.{Stopped}
use Rattle.pm_model.specs.Answer.{proposed, entered, granted, granted_with, responded, settled}
use Rattle.pm_model.specs.declared.events.Event.{Event}
use Rattle.pm_model.specs.declared.obligations.Obligation.{Obligation}
use Rattle.pm_model.specs.declared.requests.Request.{Request}
use Rattle.pm_model.specs.declared.requests.Change.{Change}
use Rattle.pm_model.specs.declared.requests.Change.TheVariants as change
use Rattle.pm_model.specs.declared.replies.Reply.TheVariants.{Done, Granted}
use Rattle.pm_laws.proofs.Checks.{unless-ok}
use Rattle.pm_laws.proofs.Responding.{responder-may, obliging-stands}
use Rattle.pm_runner.specs.Standing.{StandAt, without}
use Rattle.pm_runner.proofs.Places.{as_many, none_without}
use Rattle.pm_machine.specs.Asking.{none_responded}
use Rattle.pm_step.specs.Responders.{items_at, AreResponders, withdrawn}

-- ---- places

pub items-at-is : {X : Type 0} (xs these : List X) (places : List ℕ) → StandAt xs places these → items_at xs places ≡ these
items-at-is xs [] [] stand = refl
items-at-is xs (x ∷ these) [] stand = absurd (cc)
items-at-is xs [] (place ∷ places) stand = absurd (cc)
items-at-is xs (x ∷ these) (place ∷ places) stand =
    let first : slice_get xs place ≡ Some x = cc in
    let rest : map (slice_get xs) places ≡ map Some these = cc in
    rw (first, items-at-is xs these places rest) refl

pub responders-are : (obligations these : List Obligation) (places : List ℕ) (G : Graph) → StandAt obligations places these →
    All (λ place. place < length obligations) places → ((o : Obligation) → Contains these o → Contains G.obligations o) →
    AreResponders obligations places G
responders-are obligations these places G stand below there =
    let is = items-at-is obligations these places stand in
    record { at = rw is stand; below = below; stand = λ o c. there o (rw is at c) }

-- ---- a change

-- those that may respond are all but the one that is withdrawn
pub obliging-is : (G : Graph) (c : Change) → obliging G c ≡ without (withdrawn c) G.obligations
obliging-is G (change.Withdraw i) = refl
obliging-is G _ = refl

pub none-obliging : (G : Graph) (c : Change) (e : Option Event) → responders G G.obligations e ≡ [] → responders G (obliging G c) e ≡ []
none-obliging G c None none = refl
none-obliging G (change.Withdraw i) (Some e) none = none_without (contained G.assigned) G.obligations e i none
none-obliging G _ (Some e) none = none

-- none responds where there are none
pub none-there : (G : Graph) (c : Change) (e : Option Event) → length G.obligations ≡ 0 → responders G (obliging G c) e ≡ []
none-there G c e none = none-obliging G c e (of G.obligations e none) where
  of : (os : List Obligation) (e : Option Event) → length os ≡ 0 → responders G os e ≡ []
  of os None none = refl
  of [] (Some e) none = refl
  of (o ∷ os) (Some e) none = absurd (omega (arith, none))

pub none-of : {X : Type 0} (xs : List X) → nat_lt 0 (length xs) ≡ false → xs ≡ []
none-of [] none = refl
none-of (x ∷ xs) none = absurd (let few = ltb-false 0 (length (x ∷ xs)) none in omega (arith, few))

module _ (S : State) (c : Change) (e : Event) (H : Graph) (places : List ℕ) where
  abbrev G : Graph
  G = S.graph

  abbrev StandThere : Type 0
  StandThere = StandAt G.obligations places (responders G (without (withdrawn c) G.obligations) (Some e))

  pub change-settled : (r : Request) → proposed S r ≡ entered S (Some e) c → effect G c ≡ Ok H → StandThere →
      proposed S r
      ≡ settled S (Done (length places) (shown_of (made_by G c))) (responded S (Some e) (items_at G.obligations places) H)
  change-settled r proposal done stand =
      let these = responders G (without (withdrawn c) G.obligations) (Some e) in
      rw (items-at-is G.obligations these places stand, as_many G.obligations these places stand, ← obliging-is G c) (proposal ∙ rw done refl)

  pub change-responders : effect G c ≡ Ok H → StandThere → All (λ place. place < length G.obligations) places →
      AreResponders G.obligations places H
  change-responders done stand below =
      let these = responders G (without (withdrawn c) G.obligations) (Some e) in
      responders-are G.obligations these places H stand below
      (λ o here. subst (λ (K : Graph). Contains K.obligations o) (unless-ok (refusal G c) (changed G c) H done).1
      (obliging-stands G c o (rw (obliging-is G c) (responder-may G (without (withdrawn c) G.obligations) (Some e) o here))))

-- ---- an access

module _ (S : State) (e : Event) (places : List ℕ) where
  granted-some : (os : List Obligation) → nat_lt 0 (length os) ≡ true →
      granted_with S e os ≡ settled S (Granted (length os)) (responded S (Some e) os S.graph)
  granted-some [] some = absurd (cc)
  granted-some (o ∷ os) some = refl

  pub access-settled : (r : Request) → proposed S r ≡ granted S e →
      nat_lt 0 (length (responders S.graph S.graph.obligations (Some e))) ≡ true →
      StandAt S.graph.obligations places (responders S.graph S.graph.obligations (Some e)) →
      proposed S r ≡ settled S (Granted (length places)) (responded S (Some e) (items_at S.graph.obligations places) S.graph)
  access-settled r proposal some stand =
      let these = responders S.graph S.graph.obligations (Some e) in
      rw (items-at-is S.graph.obligations these places stand, as_many S.graph.obligations these places stand) (proposal ∙ granted-some these some)

  pub access-responders : StandAt S.graph.obligations places (responders S.graph S.graph.obligations (Some e)) →
      All (λ place. place < length S.graph.obligations) places → AreResponders S.graph.obligations places S.graph
  access-responders stand below =
      responders-are S.graph.obligations (responders S.graph S.graph.obligations (Some e)) places S.graph stand below
      (λ o here. responder-may S.graph S.graph.obligations (Some e) o here)

-- ---- replies

module _ (S : State) (e : Event) where
  -- the reply says that some have responded
  replied-some : (o : Obligation) (os : List Obligation) (r : Result Graph Stopped) →
      none_responded (settled S (Granted (length (o ∷ os))) r).reply ≡ true → ⊥
  replied-some o os (Ok H) none = let few = eqb-true (length (o ∷ os)) 0 none in omega (arith, few)
  replied-some o os (Err stop) none = absurd (cc)

  pub answered-some : nat_lt 0 (length (responders S.graph S.graph.obligations (Some e))) ≡ true →
      none_responded (granted S e).reply ≡ true → ⊥
  answered-some = of (responders S.graph S.graph.obligations (Some e)) where
    of : (os : List Obligation) → nat_lt 0 (length os) ≡ true → none_responded (granted_with S e os).reply ≡ true → ⊥
    of [] some none = absurd (cc)
    of (o ∷ os) some none = replied-some o os (responded S (Some e) (o ∷ os) S.graph) none
