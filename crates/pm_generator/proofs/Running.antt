-- A run, one request after another.
use Rattle.std.proofs.Common.{◌≡◌, ◌+◌, ◌-◌, ◌++◌, ◌∙◌, ℕ, Bool, true, false, List, [], ◌∷◌, Option, None, Some, arith, refl, sym, ap, length, length-append, subst, if◌then◌else◌}
use Rattle.std.specs.Prelude.{nat_lt}
use Rattle.std.proofs.lemmas.Bool.{le-ltb, lt-ltb}
use Rattle.std.proofs.lemmas.List.{append-nil}
use Rattle.pm_model.specs.Answer.{answer}
use Rattle.pm_model.specs.History.{IsReplayed, Machine, opening_machine, replay, state_of}
use Rattle.pm_model.specs.Recorded.{entries_of, next_entry, recorded}
use Rattle.pm_model.specs.State.{State}
use Rattle.pm_model.specs.declared.replies.Reply.{Reply}
use Rattle.pm_model.specs.declared.requests.Entry.{Entry}
use Rattle.pm_model.specs.declared.requests.Request.{Request}
use Rattle.pm_model.specs.declared.requests.What.TheVariants as what
use Rattle.pm_affect.specs.Counting.{Written, capped, work_in}
use Rattle.pm_machine.specs.Answered.{Tells}
use Rattle.pm_generator.specs.Runs.{IsAsked, IsRunning, IsWithin, shared_since}
use Rattle.pm_generator.specs.Summaries.{history_after, is_denial, is_grant, is_other_refusal, replied, shared, shared_after, sum_over}
use Rattle.pm_generator.specs.Taken.{TakesFirst}
use Rattle.pm_generator.specs.declared.run.Counts.{Counts}

-- what the next request adds is counted, and the others are still to come
sum_more : (adds : List Entry → Request → ℕ) (H K : List Entry) (r : Request) (rest : List Request) (all old new : ℕ)
    → all ≡ old + sum_over adds H (r ∷ rest) → new ≡ old + adds H r → K ≡ recorded H (what.Request r) → all ≡ new + sum_over adds K rest
sum_more adds H K r rest all old new total counted history = rw history (omega (arith, total, counted))

-- one request more was asked
pub one_more : (all rest : List Request) (r : Request) (H K : List Entry) (old new : Counts)
    → IsRunning all (r ∷ rest) H old → IsAsked H K old new r → IsWithin new → IsRunning all rest K new
one_more all rest r H K old new run asked within = record {
  within = within;
  history = run.history ∙ ap (λ L. history_after L rest) (sym asked.history);
  requests = let total = run.requests in let counted = asked.requests in omega (arith, total, counted);
  granted = sum_more (replied is_grant) H K r rest _ _ _ run.granted asked.granted asked.history;
  denied = sum_more (replied is_denial) H K r rest _ _ _ run.denied asked.denied asked.history;
  refused = sum_more (replied is_other_refusal) H K r rest _ _ _ run.refused asked.refused asked.history;
  shared = sum_more shared H K r rest _ _ _ run.shared asked.shared asked.history;
}

-- nothing was asked yet
pub begun : (all requests : List Request) (M : Machine) (counts : Counts) → requests ≡ all → M ≡ opening_machine
    → ((rs : List Request) → IsRunning rs rs [] counts) → IsRunning all requests M.history counts
begun all requests M counts same opening new =
    subst (λ (rest : List Request). IsRunning all rest M.history counts) (sym same)
    (subst (λ (N : Machine). IsRunning all all N.history counts) (sym opening) (new all))

-- none was left to be asked
pub ended : (all before : List Request) (first : Option Request) (after : List Request) (H : List Entry) (counts : Counts)
    → TakesFirst before first after → ((r : Request) → first ≡ Some r → ⊥) → IsRunning all before H counts → IsRunning all [] H counts
ended all before None after H counts taken none run = subst (λ (rest : List Request). IsRunning all rest H counts) taken.0 run
ended all before (Some r) after H counts taken none run = absurd (none r refl)

-- ---- what one request adds

shared_by_next : (H : List Entry) (new : Machine) (r : Request) (next : Option State) → IsReplayed new → new.history ≡ H ++ entries_of next (next_entry H r)
    → shared_since new (length H) (capped (work_in Written H)) ≡ shared_after H r next
shared_by_next H new r None replayed is =
    let same : length new.history ≡ length H = ap length is ∙ ap length (append-nil H) in
    let none : nat_lt (length H) (length new.history) ≡ false = le-ltb (length H) (length new.history) (omega (arith, same)) in
    rw none refl
shared_by_next H new r (Some S) replayed is =
    let more = ap length is ∙ length-append H (next_entry H r ∷ []) in
    let some : nat_lt (length H) (length new.history) ≡ true = lt-ltb (length H) (length new.history) (omega (arith, more)) in
    let live : length new.graph.elements ≡ length (replay new.history).graph.elements = ap (λ (T : State). length T.graph.elements) (sym replayed.content) in
    rw some
    (ap (λ (n : ℕ). n - (capped (work_in Written new.history) - capped (work_in Written H))) live
    ∙ ap (λ (K : List Entry). length (replay K).graph.elements - (capped (work_in Written K) - capped (work_in Written H))) is)

reply_told : (is : Reply → Bool) (old : Machine) (r : Request) (reply : Reply) → IsReplayed old → reply ≡ (answer (state_of old) r).reply
    → (if is reply then 1 else 0) ≡ replied is old.history r
reply_told is old r reply replayed told =
    ap (λ (x : Reply). if is x then 1 else 0) (told ∙ ap (λ (S : State). (answer S r).reply) (sym replayed.content))

-- the request was asked: of the machine before, which is the replay of its history
module _ (old new : Machine) (r : Request) (told : Reply × ℕ) (before after : Counts) (was : IsReplayed old) (is : IsReplayed new) (tells : Tells old new r told) where
  history_is : new.history ≡ recorded old.history (what.Request r)
  history_is =
      tells.answered.history ∙ ap (λ (S : State). old.history ++ entries_of (answer S r).next (next_entry old.history r)) (sym was.content)

  pub asked : after.requests ≡ before.requests + 1 → after.replies.granted ≡ before.replies.granted + (if is_grant told.0 then 1 else 0)
      → after.replies.denied ≡ before.replies.denied + (if is_denial told.0 then 1 else 0)
      → after.replies.refused ≡ before.replies.refused + (if is_other_refusal told.0 then 1 else 0)
      → after.shared ≡ before.shared + shared_since new (length old.history) (capped (work_in Written old.history))
      → IsAsked old.history new.history before after r
  asked requests granted denied refused shared_so = record {
    history = history_is;
    requests = requests;
    granted = granted ∙ ap (λ (n : ℕ). before.replies.granted + n) (reply_told is_grant old r told.0 was tells.answered.reply);
    denied = denied ∙ ap (λ (n : ℕ). before.replies.denied + n) (reply_told is_denial old r told.0 was tells.answered.reply);
    refused = refused ∙ ap (λ (n : ℕ). before.replies.refused + n) (reply_told is_other_refusal old r told.0 was tells.answered.reply);
    shared = shared_so ∙ ap (λ (n : ℕ). before.shared + n) (shared_by_next old.history new r (answer (replay old.history) r).next is history_is);
  }
