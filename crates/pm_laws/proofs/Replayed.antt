-- Legal histories and their replays.
use Rattle.std.proofs.Common.{◌≡◌, ◌≤◌, ◌<◌, ◌+◌, ◌&&◌, ℕ, nat_le, Bool, true, false, List, [], ◌∷◌, ◌++◌, length, Option, Some, None, IsSome, is_some, unwrap_or, if◌then◌else◌, Ok, refl, ◌∙◌, ap, arith, length-append}
use Rattle.std.proofs.lemmas.Bool.{lt-leb}
use Rattle.pm_model.specs.State.{State, Graph, opening}
use Rattle.pm_model.specs.Effect.{effect}
use Rattle.pm_model.specs.LastChanges.{with_changes}
use Rattle.pm_model.specs.Events.{obliging, responders}
use Rattle.pm_model.specs.Answer.{Answer, answer, after, proposed, entered, longest_history}
use Rattle.pm_model.specs.History.{Machine, state_of, replay_from, replay, IsLegalFrom, IsLegal, IsReplayed, IsAnswered}
use Rattle.pm_model.specs.Formed.{IsWellFormed}
use Rattle.pm_model.specs.declared.events.Event.{Event}
use Rattle.pm_model.specs.declared.requests.Request.{Request}
use Rattle.pm_model.specs.declared.requests.Entry.{Entry}
use Rattle.pm_model.specs.declared.requests.Change.{Change}
use Rattle.pm_laws.specs.Meaning.{AreGivenBy, IsReached}
use Rattle.pm_laws.proofs.Accepted.{IsNext, accepted-next, accepted-room}
use Rattle.pm_laws.proofs.Formed.{formed-opening}
use Rattle.pm_laws.proofs.KeptReviews.{with_changes_none}
use Rattle.pm_laws.proofs.Bodies.{nothing_responds_to_change}
use Rattle.pm_laws.proofs.Kept.{formed-answer}

-- ---- one entry more

pub replay-append : (S : State) (H : List Entry) (e : Entry) →
    replay_from S (H ++ e ∷ []) ≡ after (replay_from S H) (answer (replay_from S H) e.request)
replay-append S [] e = refl
replay-append S (x ∷ H) e = replay-append (after S (answer S x.request)) H e

pub legal-append : (S : State) (H : List Entry) (e : Entry) → IsLegalFrom S H → IsSome (answer (replay_from S H) e.request).next →
    IsLegalFrom S (H ++ e ∷ [])
legal-append S [] e legal now = (now, tt)
legal-append S (x ∷ H) e legal now = (legal.0, legal-append (after S (answer S x.request)) H e legal.1 now)

-- ---- what holds of the replay of a legal history

-- the state after
pub some-next : (S : State) (o : Option State) → IsSome o → o ≡ Some (unwrap_or o S)
some-next S (Some T) some = refl
some-next S None some = absurd (cc)

-- what the machine keeps
pub record IsStanding (S : State) : Type 0 where
  pub formed : IsWellFormed S.graph
  pub given : AreGivenBy S
  pub short : S.version ≤ longest_history

standing-opening : IsStanding opening
standing-opening = record { formed = formed-opening; given = record { sessions = omega arith; processes = omega arith }; short = omega arith }

given-next : (S T : State) → AreGivenBy S → IsNext S T → AreGivenBy T
given-next S T given next =
    let counted = next.counted in
    let s = given.sessions in
    let p = given.processes in
    let s1 = next.given.0.1 in
    let p1 = next.given.1.1 in
    record { sessions = omega (arith, s, s1, counted); processes = omega (arith, p, p1, counted) }

standing-next : (S : State) (r : Request) → IsStanding S → IsSome (answer S r).next → IsStanding (after S (answer S r))
standing-next S r h some =
    let is = some-next S (answer S r).next some in
    let next = accepted-next S r (after S (answer S r)) is in
    let room = accepted-room S r (after S (answer S r)) is in
    let counted = next.counted in
    let s = h.given.sessions in
    let p = h.given.processes in
    record {
      formed = formed-answer S r h.formed (omega (arith, s, room)) (omega (arith, p, room));
      given = given-next S (after S (answer S r)) h.given next;
      short = omega (arith, room, counted);
    }

standing-from : (S : State) (H : List Entry) → IsStanding S → IsLegalFrom S H → IsStanding (replay_from S H)
standing-from S [] h legal = h
standing-from S (e ∷ H) h legal = standing-from (after S (answer S e.request)) H (standing-next S e.request h legal.0) legal.1

pub standing-replayed : (H : List Entry) → IsLegal H → IsStanding (replay H)
standing-replayed H legal = standing-from opening H standing-opening legal

counted-from : (S : State) (H : List Entry) → IsLegalFrom S H → (replay_from S H).version ≡ S.version + length H
counted-from S [] legal = omega arith
counted-from S (e ∷ H) legal =
    let T = after S (answer S e.request) in
    let rest : (replay_from T H).version ≡ T.version + length H = counted-from T H legal.1 in
    let one : T.version ≡ S.version + 1 = (accepted-next S e.request T (some-next S (answer S e.request).next legal.0)).counted in
    omega (arith, rest, one)

pub counted-replayed : (H : List Entry) → IsLegal H → (replay H).version ≡ length H
counted-replayed H legal = let n = counted-from opening H legal in omega (arith, n)

pub short-legal : (H : List Entry) → IsLegal H → length H ≤ longest_history
short-legal H legal = let n = counted-replayed H legal in let s = (standing-replayed H legal).short in omega (arith, n, s)

pub legal_history : (H : List Entry) → IsLegal H → IsReached H (replay H)
legal_history H legal =
    let h = standing-replayed H legal in
    record { formed = h.formed; given = h.given; counted = counted-replayed H legal; short = short-legal H legal }

-- ---- machines

cut : (o : Bool) (n : ℕ) (x y : Answer) → n < longest_history → (if o && nat_le longest_history n then x else y) ≡ y
cut true n x y room = rw (lt-leb longest_history n room) refl
cut false n x y room = refl

-- below the limit the answer is the one proposed
pub bounded : (S : State) (r : Request) → S.version < longest_history → answer S r ≡ proposed S r
bounded S r room = cut (is_some (proposed S r).next) S.version _ _ room

-- the history grows by the entry that was answered
pub grown : (M : Machine) (e : Entry) → IsLegal M.history → IsAnswered M e.request → length M.history < longest_history →
    IsReplayed (record { graph = M.graph; history = M.history ++ e ∷ [] })
grown M e legal answered room =
    let S = replay M.history in
    let counted = counted-replayed M.history legal in
    let same : answer S e.request ≡ proposed S e.request = bounded S e.request (omega (arith, counted, room)) in
    let next : (answer S e.request).next ≡ Some (record { graph = M.graph; version = length M.history + 1 }) =
    ap (λ (a : Answer). a.next) same ∙ answered in
    let more = length-append M.history (e ∷ []) in
    record {
      legal = legal-append opening M.history e legal (ap is_some next);
      content =
          replay-append opening M.history e
          ∙ ap (λ (o : Option State). unwrap_or o S) next
          ∙ ap (λ (v : ℕ). let s : State = record { graph = M.graph; version = v } in s) (omega (arith, more));
    }

-- a request that comes to this change, to which nothing responds, is answered by what the change makes
pub answered-by : (M : Machine) (r : Request) (e : Option Event) (c : Change) (H : Graph) → IsReplayed M →
    proposed (state_of M) r ≡ entered (state_of M) e c → responders M.graph (obliging M.graph c) e ≡ [] →
    effect M.graph c ≡ Ok H → IsAnswered (record { graph = with_changes M.graph (length M.history + 1) H; history = M.history }) r
answered-by M r e c H replayed proposal none made =
    ap (λ S. (proposed S r).next) replayed.content ∙ ap (λ (a : Answer). a.next) (proposal ∙ nothing_responds_to_change (state_of M) e c none) ∙ rw made refl

-- where no review is kept, by this itself
pub answered-plainly : (M : Machine) (r : Request) (e : Option Event) (c : Change) (H : Graph) → IsReplayed M → M.graph.kept ≡ [] →
    proposed (state_of M) r ≡ entered (state_of M) e c → responders M.graph (obliging M.graph c) e ≡ [] →
    effect M.graph c ≡ Ok H → IsAnswered (record { graph = H; history = M.history }) r
answered-plainly M r e c H replayed unkept proposal none made =
    answered-by M r e c H replayed proposal none made
    ∙ ap (λ (K : Graph). let s : State = record { graph = K; version = length M.history + 1 } in Some s)
    (with_changes_none M.graph H (length M.history + 1) unkept)
