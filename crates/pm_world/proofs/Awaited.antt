-- A request that passes a version is answered from there on, or by `ahead`.
use Rattle.std.proofs.Common.{◌≡◌, ◌≢◌, ◌↔◌, ◌&&◌, ◌<◌, ◌≤◌, ℕ, Bool, true, false, if◌then◌else◌, List, [], ◌∷◌, length, take, Option, Some, None, is_some, IsSome, Result, Ok, Err, nat_lt, nat_le, refl, sym, ◌∙◌, ap, subst, arith}
use Rattle.std.proofs.lemmas.Bool.{cond_both, lt-ltb, le-ltb, ltb-true, ltb-false}
use Rattle.std.proofs.lemmas.Option.{slice_get_within}
use Rattle.std.proofs.lemmas.List.{length-take-le}
use Rattle.pm_model.specs.State.{State, Graph}
use Rattle.pm_model.specs.Answer.{Answer, answer, answer_body, is_ahead, limited, longest_history, told, responded, settled, made, granted_with}
use Rattle.pm_model.specs.Effect.{effect}
use Rattle.pm_model.specs.Events.{obliging, responders}
use Rattle.pm_model.specs.Formed.{Each}
use Rattle.pm_model.specs.History.{replay, IsLegal}
use Rattle.pm_model.specs.KeptReviews.{KeptReview, kept_at}
use Rattle.pm_model.specs.Made.{made_by, shown_of}
use Rattle.pm_model.specs.Responses.{Stopped}
use Rattle.pm_model.specs.Reviews.{last_change, reviewed}
use Rattle.pm_model.specs.Solo.{answer_what}
use Rattle.pm_model.specs.declared.events.Event.{Event}
use Rattle.pm_model.specs.declared.obligations.Obligation.{Obligation}
use Rattle.pm_model.specs.declared.replies.Refusal.{Refusal}
use Rattle.pm_model.specs.declared.replies.Reply.{Reply}
use Rattle.pm_model.specs.declared.replies.Reply.TheVariants.{Done, Granted, Ahead, KeepFault, Refused}
use Rattle.pm_model.specs.declared.replies.Refusal.TheVariants.{Full}
use Rattle.pm_model.specs.declared.replies.Table.TheVariants.{History}
use Rattle.pm_model.specs.declared.requests.Entry.{Entry}
use Rattle.pm_model.specs.declared.requests.Request.{Request}
use Rattle.pm_model.specs.declared.requests.Review.{Review}
use Rattle.pm_model.specs.declared.requests.Review.TheVariants.{Caps, Entries, Survey, Kept, Changes}
use Rattle.pm_model.specs.declared.requests.What.{What}
use Rattle.pm_laws.proofs.Bodies.{body-is}
use Rattle.pm_laws.proofs.Replayed.{counted-replayed}
use Rattle.pm_world.specs.Transcripts.{Exchange, answered, entered, faulted, IsReplied, AreReplied, IsAwaited, IsTranscript}
use Rattle.pm_world.proofs.Prefixes.{take-prefix}
use Rattle.pm_world.proofs.Schedules.{legal-prefix}

-- ---- the machine replies `ahead` for no other cause

abbrev IsThere : Reply → Type 0
IsThere Ahead = ⊥
IsThere _ = Unit {0}

abbrev RepliesThere : Answer → Type 0
RepliesThere a = IsThere a.reply

settled-there : (S : State) (reply : Reply) (r : Result Graph Stopped) → IsThere reply → RepliesThere (settled S reply r)
settled-there S reply (Ok G) there = there
settled-there S reply (Err stop) there = tt

made-there : (S : State) (reply : Reply) (e : Option Event) (obligations : List Obligation) (r : Result Graph Refusal) → IsThere reply →
    RepliesThere (made S reply e obligations r)
made-there S reply e obligations (Ok G) there = settled-there S reply (responded S e obligations G) there
made-there S reply e obligations (Err why) there = tt

granted-there : (S : State) (e : Event) (obligations : List Obligation) → RepliesThere (granted_with S e obligations)
granted-there S e [] = tt
granted-there S e (o ∷ os) = settled-there S (Granted (length (o ∷ os))) (responded S (Some e) (o ∷ os) S.graph) tt

last-there : (o : Option KeptReview) → IsThere (last_change o)
last-there None = tt
last-there (Some k) = tt

reviewed-there : (G : Graph) (r : Review) → IsThere (reviewed G r)
reviewed-there G (Caps u) = tt
reviewed-there G (Entries e) = tt
reviewed-there G (Survey us) = tt
reviewed-there G (Kept of) = tt
reviewed-there G (Changes n of) = last-there (kept_at G.kept n)

body-there : (S : State) (r : Request) → RepliesThere (answer_body S r.body)
body-there S r =
    body-is RepliesThere S r.body tt (λ why. tt)
    (λ e c. made-there S (Done (length (responders S.graph (obliging S.graph c) e)) (shown_of (made_by S.graph c))) e (responders S.graph (obliging S.graph c) e) (effect S.graph c) tt)
    (λ e. granted-there S e (responders S.graph S.graph.obligations (Some e))) (λ review. reviewed-there S.graph review)

there-not : (reply : Reply) → IsThere reply → reply ≢ Ahead
there-not reply there is = subst IsThere is there

limited-there : (S : State) (a : Answer) → RepliesThere a → RepliesThere (limited S a)
limited-there S a there = cond_both (is_some a.next && nat_le longest_history S.version) (told (Refused (Full History))) a RepliesThere (λ is. tt) (λ is. there)

-- the answer, by whether what the request passes is ahead
abbrev by_ahead : State → Request → Bool → Answer
by_ahead S r ahead = limited S (if ahead then told Ahead else answer_body S r.body)

ahead-then : (S : State) (r : Request) (v : ℕ) → r.after ≡ Some v → S.version < v → answer S r ≡ told Ahead
ahead-then S r v after less = ap (by_ahead S r) (ap (λ (o : Option ℕ). is_ahead o S.version) after ∙ lt-ltb S.version v less)

there-then : (S : State) (r : Request) (v : ℕ) → r.after ≡ Some v → v ≤ S.version → RepliesThere (answer S r)
there-then S r v after reached =
    let is : is_ahead r.after S.version ≡ false = ap (λ (o : Option ℕ). is_ahead o S.version) after ∙ le-ltb S.version v reached in
    subst (λ (b : Bool). RepliesThere (by_ahead S r b)) (sym is) (limited-there S (answer_body S r.body) (body-there S r))

ahead-exactly : (S : State) (r : Request) (v : ℕ) → r.after ≡ Some v → ((answer S r).reply ≡ Ahead) ↔ (S.version < v)
ahead-exactly S r v after = (λ is. of is (nat_lt S.version v) refl, λ less. ap (λ (a : Answer). a.reply) (ahead-then S r v after less)) where
  of : (answer S r).reply ≡ Ahead → (b : Bool) → nat_lt S.version v ≡ b → S.version < v
  of is true less = ltb-true S.version v less
  of is false not = absurd (there-not (answer S r).reply (there-then S r v after (ltb-false S.version v not)) is)

-- ---- exchanges

version-at : (G : List Entry) (v : ℕ) → IsLegal G → v ≤ length G → (replay (take v G)).version ≡ v
version-at G v legal within = counted-replayed (take v G) (legal-prefix (take v G) G (take-prefix v G) legal) ∙ length-take-le v G within

-- what is replied from this version
replied-from : (G : List Entry) (n : ℕ) (r : Request) (v : ℕ) (reply : Reply) → IsLegal G → n ≤ length G → (answer (replay (take n G)) r).reply ≡ reply →
    r.after ≡ Some v → (reply ≡ Ahead) ↔ (n < v)
replied-from G n r v reply legal within is after =
    let at = version-at G n legal within in
    let exactly = ahead-exactly (replay (take n G)) r v after in
    (λ ahead. omega (arith, exactly.0 (is ∙ ahead), at), λ less. sym is ∙ exactly.1 (omega (arith, less, at)))

kept-from : (G : List Entry) (n : ℕ) (r : Request) (v : ℕ) → IsLegal G → n ≤ length G → IsSome (answer (replay (take n G)) r).next →
    r.after ≡ Some v → (KeepFault ≡ Ahead) ↔ (n < v)
kept-from G n r v legal within some after =
    let at = version-at G n legal within in (
      λ no. absurd (cc (no)),
      λ less.
          let none = ap (λ (a : Answer). a.next) (ahead-then (replay (take n G)) r v after (omega (arith, less, at))) in
          let no : IsSome (told Ahead).next = subst (λ (o : Option State). IsSome o) none some in
          absurd (cc (no)),
    )

exchange-awaited : (s : ℕ) (G : List Entry) (e : Exchange) → IsLegal G → IsReplied s G e → IsAwaited e
exchange-awaited s G (answered w reply n) legal replied = λ r v of after.
    let is : answer (replay (take n G)) r ≡ told reply = subst (λ (x : What). answer_what (replay (take n G)) x ≡ told reply) of replied.1 in
    replied-from G n r v reply legal replied.0 (ap (λ (a : Answer). a.reply) is) after
exchange-awaited s G (entered place nth request reply) legal replied = λ r v of after.
    let same : request ≡ r = cc (of) in
    let within = slice_get_within G place (record { seat = s; nth = nth; request = request }) replied.0 in
    replied-from G place r v reply legal (omega (arith, within)) (subst (λ (q : Request). (answer (replay (take place G)) q).reply ≡ reply) same replied.2) after
exchange-awaited s G (faulted request n) legal replied = λ r v of after.
    let same : request ≡ r = cc (of) in
    kept-from G n r v legal replied.0 (subst (λ (q : Request). IsSome (answer (replay (take n G)) q).next) same replied.1) after

each-awaited : (s : ℕ) (G : List Entry) (es : List Exchange) → IsLegal G → AreReplied s G es → Each IsAwaited es
each-awaited s G [] legal replied = tt
each-awaited s G (e ∷ es) legal replied = (exchange-awaited s G e legal replied.0, each-awaited s G es legal replied.1)

pub all_awaited : (s : ℕ) (F G : List Entry) (m n : ℕ) (es : List Exchange) → IsTranscript s F m es G n → Each IsAwaited es
all_awaited s F G m n es t = each-awaited s G es t.legal t.replied
