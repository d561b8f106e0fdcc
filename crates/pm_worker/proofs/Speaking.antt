-- A seat's answer to one request or bad form, and its line.
use Rattle.std.proofs.Common.{◌≡◌, ◌≢◌, ◌≤◌, ◌<◌, ◌+◌, ◌*◌, ℕ, zero, suc, List, [], ◌∷◌, ◌++◌, length, take, Some, None, IsSome, Bool, is_some, slice_get, Option, option_map, Result, Ok, Err, IsOk, OnOk, OnErr, refl, sym, ◌∙◌, ap, subst, arith, append_assoc}
use Rattle.std.specs.Bool.{⊤}
use Rattle.std.proofs.lemmas.List.{take_all, append-nil}
use Rattle.std.proofs.lemmas.Option.{none-some, same_Some}
use Rattle.pm_model.specs.State.{State, opening, element_at, name_numbered}
use Rattle.pm_model.specs.Answer.{Answer, answer, after, told}
use Rattle.pm_model.specs.Formed.{IsWellFormed}
use Rattle.pm_model.specs.History.{Machine, state_of, replay, replay_from, IsLegal, IsLegalFrom, IsReplayed}
use Rattle.pm_model.specs.Lines.{cut, event_of}
use Rattle.pm_model.specs.Nameable.{IsNameable}
use Rattle.pm_model.specs.Solo.{asked_at, answer_what}
use Rattle.pm_model.specs.Text.{text}
use Rattle.pm_model.specs.declared.lines.BadLine.{BadLine}
use Rattle.pm_model.specs.declared.memory.Memory.{Memory}
use Rattle.pm_model.specs.declared.requests.Asked.{Asked}
use Rattle.pm_model.specs.declared.requests.Entry.{Entry}
use Rattle.pm_model.specs.declared.requests.Request.{Request}
use Rattle.pm_model.specs.declared.requests.What.{What}
use Rattle.pm_model.specs.declared.requests.What.TheVariants as what
use Rattle.pm_model.specs.declared.replies.Reply.{Reply}
use Rattle.pm_model.specs.declared.replies.Reply.TheVariants as reply
use Rattle.pm_model.specs.declared.replies.Reply.TheVariants.{KeepFault}
use Rattle.pm_laws.proofs.Nameable.{answer_nameable}
use Rattle.pm_laws.proofs.Replayed.{legal_history}
use Rattle.pm_print.specs.Growth.{item_most, items_in, reply_most}
use Rattle.pm_session.specs.Streams.{Streams}
use Rattle.pm_session.specs.Taken.{rest_of}
use Rattle.pm_session.proofs.LineLaws.{IsCut-cut}
use Rattle.pm_session.proofs.Listed.{list_leaves}
use Rattle.pm_world.specs.Transcripts.{Exchange, answered, entered, faulted, reply_of, version_of, entry_of, IsReplied, IsTranscript}
use Rattle.pm_world.proofs.Joined.{joined}
use Rattle.pm_world.proofs.Single.{answered-here}
use Rattle.pm_house.specs.Lanes.{Laned, lane}
use Rattle.pm_house.specs.Seated.{Seated, Hears, Rests, Submits, Looks}
use Rattle.pm_house.specs.declared.seat.Looked.TheVariants as looked
use Rattle.pm_worker.specs.Shares.{share_of}
use Rattle.pm_worker.specs.Told.{names_at, told_line, IsNoFault}
use Rattle.pm_worker.specs.Answering.{next_asked, Speaks, Replies, Answers, Loses}

-- ---- what is said

no-fault : (e : Exchange) (r : Reply) → reply_of e ≡ r → r ≢ KeepFault → IsNoFault e
no-fault (answered w reply v) r is not = tt
no-fault (entered place nth request reply) r is not = tt
no-fault (faulted request v) r is not = not (sym is)

pub submits_speaks : (Q : Type 0) (s t : Seated) (r : Request) (reply : Reply) (v : ℕ) → Submits s t r reply v → (Q → reply ≢ KeepFault) →
    Speaks Q s t (what.Request r) reply v
submits_speaks Q s t r reply v h calm = record {
  exchange = h.exchange;
  seat = h.seat;
  share = h.exchanges.share;
  hears = h.exchanges.hears;
  what_is = sym h.exchanges.asked;
  reply_is = sym h.exchanges.told;
  version_is = sym h.exchanges.named;
  shown = h.shown;
  no_fault = λ q. no-fault h.exchange reply h.exchanges.told (calm q);
}

pub looks_speaks : (Q : Type 0) (s t : Seated) (r : Request) (reply : Reply) (v : ℕ) → Looks s t r (looked.Answer reply v) → Speaks Q s t (what.Request r) reply v
looks_speaks Q s t r reply v h = record {
  exchange = answered (what.Request r) reply v;
  seat = ap (λ (l : Laned). l.seat) h.1;
  share = ap (λ (l : Laned). l.share) h.1 ∙ omega arith;
  hears = h.3;
  what_is = refl;
  reply_is = refl;
  version_is = refl;
  shown = h.2;
  no_fault = λ _. tt;
}

same-lane : (l k : Laned) → k.seat ≡ l.seat → k.share ≡ l.share → k ≡ l
same-lane l k seat share = ap (λ (n : ℕ). lane n k.share) seat ∙ ap (λ (n : ℕ). lane l.seat n) share

then-hears : (s t u : Seated) (es : List Exchange) → Rests s t → Hears t u es → Hears s u es
then-hears s t u es a h =
    joined s.lane.seat s.machine.history t.machine.history u.machine.history s.mark t.mark u.mark [] es a.hears
    (subst (λ (l : Laned). IsTranscript l.seat t.machine.history t.mark es u.machine.history u.mark) a.lane h)

-- a look before it
pub rests_speaks : (Q : Type 0) (s t u : Seated) (w : What) (reply : Reply) (v : ℕ) → Rests s t → Speaks Q t u w reply v → Speaks Q s u w reply v
rests_speaks Q s t u w reply v a h = record {
  exchange = h.exchange;
  seat = h.seat ∙ ap (λ (l : Laned). l.seat) a.lane;
  share = h.share ∙ ap (λ (l : Laned). l.share + length (entry_of l.seat h.exchange)) a.lane;
  hears = then-hears s t u (h.exchange ∷ []) a h.hears;
  what_is = h.what_is;
  reply_is = h.reply_is;
  version_is = h.version_is;
  shown = h.shown;
  no_fault = h.no_fault;
}

pub bad_speaks : (Q : Type 0) (s t : Seated) (b : BadLine) (v : ℕ) → Rests s t → v ≡ length t.machine.history → Speaks Q s t (what.Bad b) (reply.Bad b) v
bad_speaks Q s t b v a is =
    let marked = a.hears.marked in
    let here : Hears t t (answered (what.Bad b) (reply.Bad b) (length t.machine.history) ∷ []) =
    answered-here t.lane.seat t.machine.history t.mark (what.Bad b) (reply.Bad b) a.hears.legal marked.2 refl in
    record {
      exchange = answered (what.Bad b) (reply.Bad b) v;
      seat = ap (λ (l : Laned). l.seat) a.lane;
      share = ap (λ (l : Laned). l.share) a.lane ∙ omega arith;
      hears = then-hears s t t _ a (subst (λ n. Hears t t (answered (what.Bad b) (reply.Bad b) n ∷ [])) (sym is) here);
      what_is = refl;
      reply_is = refl;
      version_is = refl;
      shown = is;
      no_fault = λ _. tt;
    }

-- what is never a fault
pub speaks_always : (Q : Type 0) (s t : Seated) (w : What) (reply : Reply) (v : ℕ) → Speaks (Unit {0}) s t w reply v → Speaks Q s t w reply v
speaks_always Q s t w reply v h = record {
  exchange = h.exchange;
  seat = h.seat;
  share = h.share;
  hears = h.hears;
  what_is = h.what_is;
  reply_is = h.reply_is;
  version_is = h.version_is;
  shown = h.shown;
  no_fault = λ _. h.no_fault tt;
}

-- ---- its line

whole : (G : List Entry) (v : ℕ) → v ≡ length G → take v G ≡ G
whole G v is = take_all v G (omega (arith, is))

-- the state that the seat shows is the replay of its front
here : (M : Machine) (v : ℕ) → IsReplayed M → v ≡ length M.history → replay (take v M.history) ≡ state_of M
here M v r is = ap replay (whole M.history v is) ∙ r.content

pub speaks_replies : (Q : Type 0) (s t : Seated) (a : Asked) (reply : Reply) (v : ℕ) (output now : List ℕ) → Speaks Q s t a.what reply v → IsReplayed t.machine →
    now ≡ output ++ text a.id v (name_numbered t.machine.graph.elements) reply → Replies Q s t a output now
speaks_replies Q s t a reply v output now h r is = record {
  exchange = h.exchange;
  seat = h.seat;
  share = h.share;
  hears = h.hears;
  what_is = h.what_is;
  no_fault = h.no_fault;
  line_is =
      is
      ∙ ap (λ (l : List ℕ). output ++ l)
      (ap (λ w. text a.id v (name_numbered t.machine.graph.elements) w) h.reply_is
      ∙ ap (λ (S : State). text a.id v (name_numbered S.graph.elements) (reply_of h.exchange)) (sym (here t.machine v r h.shown))
      ∙ ap (λ n. text a.id n (names_at t.machine.history n) (reply_of h.exchange)) h.version_is);
}

-- ---- what it names is live

abbrev live : State → ℕ → Bool
live S n = is_some (element_at S.graph.elements n)

told-nameable : (S : State) (w : What) (reply : Reply) → IsWellFormed S.graph → answer_what S w ≡ told reply → IsNameable (live S) reply
told-nameable S (what.Request r) reply f is =
    subst (λ (a : Answer). IsNameable (live (after S a)) a.reply) is (answer_nameable S r f)
told-nameable S (what.Bad b) reply f is = subst (IsNameable (live S)) (ap (λ (a : Answer). a.reply) is) tt

legal-front : (S : State) (xs ys : List Entry) → IsLegalFrom S (xs ++ ys) → IsLegalFrom S xs
legal-front S [] ys h = tt
legal-front S (x ∷ xs) ys h = (h.0, legal-front (after S (answer S x.request)) xs ys h.1)

replay-last : (S : State) (xs : List Entry) (e : Entry) → replay_from S (xs ++ e ∷ []) ≡ after (replay_from S xs) (answer (replay_from S xs) e.request)
replay-last S [] e = refl
replay-last S (x ∷ xs) e = replay-last (after S (answer S x.request)) xs e

-- the last of a list
at-last : (G : List Entry) (k : ℕ) (e : Entry) → slice_get G k ≡ Some e → length G ≡ k + 1 → G ≡ take k G ++ e ∷ []
at-last [] k e at size = absurd cc
at-last (x ∷ []) zero e at size = cc at
at-last (x ∷ y ∷ xs) zero e at size = absurd (omega (arith, size))
at-last (x ∷ xs) (suc k) e at size = ap (λ (l : List Entry). x ∷ l) (at-last xs k e at (omega (arith, size)))

entered-nameable : (G : List Entry) (k : ℕ) (e : Entry) (reply : Reply) → IsLegal G → slice_get G k ≡ Some e → length G ≡ k + 1 →
    (answer (replay (take k G)) e.request).reply ≡ reply → IsNameable (live (replay G)) reply
entered-nameable G k e reply legal at size is =
    let H = take k G in
    let split : G ≡ H ++ e ∷ [] = at-last G k e at size in
    let before : IsLegal H = legal-front opening H (e ∷ []) (subst IsLegal split legal) in
    let all : IsNameable (live (after (replay H) (answer (replay H) e.request))) (answer (replay H) e.request).reply =
    answer_nameable (replay H) e.request (legal_history H before).formed in
    subst (λ (S : State). IsNameable (live S) reply) (sym (replay-last opening H e) ∙ ap replay (sym split))
    (subst (IsNameable (live (after (replay H) (answer (replay H) e.request)))) is all)

event-nameable : (s : ℕ) (M : Machine) (e : Exchange) → IsReplayed M → IsWellFormed M.graph → version_of e ≡ length M.history → IsReplied s M.history e →
    IsNameable (live (state_of M)) (reply_of e)
event-nameable s M (answered w reply v) r f is h =
    told-nameable (state_of M) w reply f (subst (λ (S : State). answer_what S w ≡ told reply) (here M v r is) h.1)
event-nameable s M (entered place nth request reply) r f is h =
    subst (λ (S : State). IsNameable (live S) reply) r.content
    (entered-nameable M.history place (record { seat = s; nth = nth; request = request }) reply r.legal h.0 (sym is) h.2)
event-nameable s M (faulted request v) r f is h = tt

pub speaks_nameable : (Q : Type 0) (s t : Seated) (w : What) (reply : Reply) (v : ℕ) → Speaks Q s t w reply v → IsReplayed t.machine → IsWellFormed t.machine.graph →
    IsNameable (λ n. is_some (element_at t.machine.graph.elements n)) reply
speaks_nameable Q s t w reply v h r f =
    subst (IsNameable (live (state_of t.machine))) (sym h.reply_is)
    (event-nameable s.lane.seat t.machine h.exchange r f (sym h.version_is ∙ h.shown) h.hears.replied.0)

-- ---- where its line has no room

unspoken-by : (e : Exchange) (s t : Seated) → t.lane.seat ≡ s.lane.seat → t.lane.share ≡ s.lane.share + length (entry_of s.lane.seat e) → Hears s t (e ∷ []) →
    0 < items_in (reply_of e) → Rests s t
unspoken-by (answered w reply v) s t seat share h some = record {
  lane = same-lane s.lane t.lane seat (share ∙ omega arith);
  hears = record {
    grows = h.grows;
    legal = h.legal;
    marked = h.marked;
    rises = let low = h.rises.0 in let high = h.rises.1 in omega (arith, low, high);
    replied = tt;
    own = h.own;
    numbered = tt;
  };
}
unspoken-by (entered place nth request reply) s t seat share h some =
    let S = replay (take place t.machine.history) in
    let is = h.replied.0.2 in
    let many : 0 < items_in (answer S request).reply = subst (λ (r : Reply). 0 < items_in r) (sym is) some in
    let lost = subst IsSome (list_leaves S request many) h.replied.0.1 in
    absurd (cc lost)
unspoken-by (faulted request v) s t seat share h some = absurd (let no : ⊥ = omega (arith, some) in no)

unspoken : (Q : Type 0) (s t : Seated) (w : What) (reply : Reply) (v : ℕ) → Speaks Q s t w reply v → 0 < items_in reply → Rests s t
unspoken Q s t w reply v h some = unspoken-by h.exchange s t h.seat h.share h.hears (subst (λ (r : Reply). 0 < items_in r) h.reply_is some)

listed-by : (m n output capacity : ℕ) → output + 1024 ≤ capacity → (output + (1024 + m * n) ≤ capacity → ⊥) → 0 < n
listed-by m zero output capacity room full = absurd (full (omega arith))
listed-by m (suc n) output capacity room full = omega arith

-- where its line wants more room than others do, the seat was told nothing
pub unprinted_rests : (Q : Type 0) (s t : Seated) (w : What) (reply : Reply) (v output capacity : ℕ) (result : Result ⊤ Memory) → Speaks Q s t w reply v →
    output + 1024 ≤ capacity → (output + reply_most reply ≤ capacity → IsOk result) → OnErr result (Rests s t)
unprinted_rests Q s t w reply v output capacity (Ok x) h room fits = tt
unprinted_rests Q s t w reply v output capacity (Err e) h room fits =
    unspoken Q s t w reply v h (listed-by (item_most reply) (items_in reply) output capacity room (λ k. let no = fits k in let never : ⊥ = cc in never))

-- ---- the line that was answered

answers-by : (Q : Type 0) (o : Option (List ℕ × List ℕ)) (s t : Seated) (a b : Streams) (asked : Asked) (output : List ℕ) (share : ℕ) → cut a.waiting ≡ o
    → Some asked ≡ option_map asked_at (option_map (λ (p : List ℕ × List ℕ). event_of p.0) o)
    → b.waiting ≡ rest_of a.waiting o → output ≡ a.output → Replies Q s t asked output b.output → share ≡ share_of asked.what → (0 < share) × (share ≤ 64) → Answers Q s t a b share
answers-by Q None s t a b asked output share is first rest same h takes within = absurd (none-some asked (sym first))
answers-by Q (Some p) s t a b asked output share is first rest same h takes within =
    let asks : asked ≡ asked_at (event_of p.0) = same_Some asked (asked_at (event_of p.0)) first in
    let at = IsCut-cut a.waiting p is in
    record {
      told = record { line = p.0; exchange = h.exchange };
      takes = takes ∙ ap (λ (x : Asked). share_of x.what) asks;
      within = within;
      first = rw rest at;
      tells = record {
        seat = h.seat;
        share = h.share ∙ ap (λ (l : List Entry). s.lane.share + length l) (sym (append-nil (entry_of s.lane.seat h.exchange)));
        hears = h.hears;
        answered = (record { plain = at.plain; asked = ap (λ (x : Asked). x.what) (sym asks) ∙ h.what_is; no_fault = h.no_fault }, tt);
      };
      output =
          h.line_is ∙ ap (λ (l : List ℕ). l ++ told_line t.machine.history asked h.exchange) same
          ∙ ap (λ (x : Asked). a.output ++ told_line t.machine.history x h.exchange) asks;
    }

pub replies_answers : (Q : Type 0) (s t : Seated) (a b : Streams) (asked : Asked) (output : List ℕ) (share : ℕ) → Some asked ≡ next_asked a.waiting
    → b.waiting ≡ rest_of a.waiting (cut a.waiting) → output ≡ a.output → Replies Q s t asked output b.output → share ≡ share_of asked.what → (0 < share) × (share ≤ 64) → Answers Q s t a b share
replies_answers Q s t a b asked output share first rest same h takes within =
    answers-by Q (cut a.waiting) s t a b asked output share refl first rest same h takes within

pub on_ok_to : {T E P R : Type 0} (r : Result T E) → (P → R) → OnOk r P → OnOk r R
on_ok_to (Ok x) f p = f p
on_ok_to (Err e) f p = tt

pub on_err_of : {T E P : Type 0} (r : Result T E) → P → OnErr r P
on_err_of (Ok x) p = tt
on_err_of (Err e) p = p

-- at most the first line is gone
loses-by : (o : Option (List ℕ × List ℕ)) (w v : List ℕ) → cut w ≡ o → v ≡ rest_of w o → Loses w v
loses-by None w v is rest = record { lines = []; split = sym rest; few = omega arith; plain = tt }
loses-by (Some p) w v is rest =
    let at = IsCut-cut w p is in
    record {
      lines = p.0 ∷ [];
      split = rw rest (at.split ∙ sym (ap (λ (l : List ℕ). l ++ p.1) (append-nil (p.0 ++ 10 ∷ [])) ∙ append_assoc p.0 (10 ∷ []) p.1));
      few = omega arith;
      plain = (at.plain, tt);
    }

pub loses-taken : (w v : List ℕ) → v ≡ rest_of w (cut w) → Loses w v
loses-taken w v rest = loses-by (cut w) w v refl rest
