use Rattle.std.proofs.Common.{rules, ◌≡◌, true, false, sym, ◌∙◌, ap, arith, inl, inr, subst}
use Rattle.std.specs.Time.{instant_nanos}
use Rattle.pm_worker.specs.declared.feeds.Next.TheVariants as next
use Rattle.pm_server.specs.Polled.{Polled, IsFirst, IsSilent, TakesNone}
use Rattle.pm_server.specs.declared.poll_feed.Resting.{Resting}
use Rattle.pm_server.proofs.Polling.{still_first, first_goes, goes_from}
use Rattle.pm_server.proofs.Staying.{stays_all, stays_or_goes, stays_then}
use Rattle.pm_server.proofs.poll_feed.PollFeedFeedMioLink.next.Goals as goal

-- it doesn't stop where the round has a connection
pub returns-then-not-refill-clause-first : goal.returns-then-not-refill-clause-first
returns-then-not-refill-clause-first g c = λ key rest first.
    let h = c.loop.invariant.within key rest first in
    let w = c.refill.ensures.within key rest h.0 in
    let no : c.refill.result ≡ false = search rules in
    let both : true ≡ false = sym w.1 ∙ no in
    absurd (cc both)

pub returns-in-Some-next_of_round-clause-first : goal.returns-in-Some-next_of_round-clause-first
returns-in-Some-next_of_round-clause-first g c = λ key rest first.
    let h = c.loop.invariant.within key rest first in
    let w = c.refill.ensures.within key rest h.0 in
    let here : IsFirst c.refill.new.self key rest = subst (λ (s : Polled Resting). IsFirst s key rest) (sym w.0) h.0 in
    let goes = first_goes c.refill.new.self c.next_of_round.new.self key rest c.in-Some-next_of_round.conn (λ (r : Resting). r.conn) here c.in-Some-next_of_round.ensures.some.1 in (
      ap (λ conn. next.Turn conn) goes.0,
      goes_from c.args.self.now c.refill.new.self c.next_of_round.new.self key
          (ap (λ (s : Polled Resting). s.conns) w.0 ∙ h.1) (ap (λ (s : Polled Resting). s.later) w.0 ∙ h.2) goes.1,
    )

-- those that rested before the first round stay
pub returns-then-not-refill-clause-stay : goal.returns-then-not-refill-clause-stay
returns-then-not-refill-clause-stay g c = λ key rest here.
    let stay = stays_then (λ r. instant_nanos r.since) _ _ _ c.loop.invariant.stay c.refill.ensures.stay in
    elim (stay.rests key rest here) [
      | inl there ↦ inl (search (rules, there))
      | inr silent ↦ inr (inr (search (rules, silent)))
    ]

-- so do those that aren't given
pub returns-in-Some-next_of_round-clause-stay : goal.returns-in-Some-next_of_round-clause-stay
returns-in-Some-next_of_round-clause-stay g c = λ key rest here.
    let stay = stays_then (λ r. instant_nanos r.since) _ _ _ c.loop.invariant.stay c.refill.ensures.stay in
    elim (stay.rests key rest here) [
      | inl there ↦ elim (stays_or_goes c.refill.new.self c.next_of_round.new.self c.in-Some-next_of_round.conn (λ (r : Resting). r.conn) key rest c.in-Some-next_of_round.ensures.some.1 there) [
        | inl still ↦ inl still
        | inr out ↦ inr (inl (ap (λ conn. next.Turn conn) out))
      ]
      | inr silent ↦ inr (inr (subst (λ n. IsSilent n (instant_nanos rest.since)) (sym c.next_of_round.ensures.same.1) silent))
    ]

-- a key with no connection
pub loop-preserved : goal.loop-preserved
loop-preserved g c =
    let none : TakesNone c.refill.new.self c.next_of_round.new.self = search rules in
    record {
      out = search rules;
      stay =
          let gone = stays_then (λ r. instant_nanos r.since) _ _ _ c.loop.invariant.stay c.refill.ensures.stay in
          stays_then (λ r. instant_nanos r.since) _ c.refill.new.self c.next_of_round.new.self gone
          (stays_all (λ r. instant_nanos r.since) c.refill.new.self c.next_of_round.new.self (omega (arith, c.next_of_round.ensures.same.1)) (ap (λ e. e.place) c.next_of_round.ensures.same.2) none.conns);
      within = λ key rest first.
          let h = c.loop.invariant.within key rest first in
          let w = c.refill.ensures.within key rest h.0 in
          let here : IsFirst c.refill.new.self key rest = subst (λ (s : Polled Resting). IsFirst s key rest) (sym w.0) h.0 in (
            still_first c.refill.new.self c.next_of_round.new.self key rest here none,
            none.conns ∙ ap (λ (s : Polled Resting). s.conns) w.0 ∙ h.1,
            none.later ∙ ap (λ (s : Polled Resting). s.later) w.0 ∙ h.2,
          );
    }
