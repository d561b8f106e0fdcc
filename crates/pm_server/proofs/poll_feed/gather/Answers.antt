-- One event more.
use Rattle.std.proofs.Common.{◌≡◌, ◌==◌, ◌+◌, ◌||◌, ℕ, List, length, take, sym, ◌∙◌, ap, subst, arith, refl}
use Rattle.std.proofs.lemmas.Iterator.{YieldsList-from_slice}
use Rattle.std.proofs.lemmas.Iterator.Consumers.{YieldsList-turn, YieldsList-end}
use Rattle.std.proofs.lemmas.List.{length_push, take_all}
use Rattle.std.specs.List.{list_any}
use Rattle.mio.specs.Events.{items}
use Rattle.mio.specs.Event.{event_token}
use Rattle.mio.specs.declared.event.event.Event.{Event}
use Rattle.mio.specs.declared.token.Token.{Token}
use Rattle.pm_server.specs.KeySets.{HasAddedAll, is_told}
use Rattle.pm_server.proofs.Gathered.{woken_more, added_more, added_none}
use Rattle.pm_server.proofs.poll_feed.gather.Goals as goal

pub loop-event-init : goal.loop-event-init
loop-event-init c = record { woken = refl; ready = added_none c.args.ready.now }

pub loop-event-preserved : goal.loop-event-preserved
loop-event-preserved c =
    let events : List Event = items c.args.events.now in
    let event : Event = c.in-Some.event.now in
    let n = length c.loop-event.yielded in
    let t = YieldsList-turn (YieldsList-from_slice events cc) c.loop-event.yielded _ c.loop-event.yielded_by _ _ c.in-Some.event c.in-Some.is c.next.ensures.steps in
    let more = sym (length_push c.loop-event.yielded c.in-Some.event) in
    let key : (event_token event).0 ≡ c.token-key.result.0 = ap (λ (t : Token). t.0) (sym c.token-key.ensures) in
    record {
      woken = subst (λ (m : ℕ). (c.loop-event.woken || c.token-key.result.0 == 1024) ≡ list_any (is_told 1024) (take m events)) more
          (subst (λ (k : ℕ). (c.loop-event.woken || k == 1024) ≡ list_any (is_told 1024) (take (n + 1) events)) key
          (woken_more 1024 events n event c.loop-event.woken t.0 t.1 c.loop-event.invariant.woken));
      ready = subst (λ (m : ℕ). HasAddedAll c.args.ready.now c.add.new.self (take m events)) more
          (added_more c.args.ready.now c.loop-event.ready c.add.new.self events n event c.token-key.result.0 t.0 t.1 key c.loop-event.invariant.ready c.add.ensures);
    }

pub returns-clause-woken : goal.returns-clause-woken
returns-clause-woken c =
    let events : List Event = items c.args.events.now in
    let t = YieldsList-end (YieldsList-from_slice events cc) c.loop-event.yielded _ c.loop-event.yielded_by _ _ c.in-None.is c.next.ensures.steps in
    c.loop-event.invariant.woken ∙ ap (list_any (is_told 1024)) (take_all (length c.loop-event.yielded) events (omega (arith, t.1)))

pub returns-clause-ready : goal.returns-clause-ready
returns-clause-ready c =
    let events : List Event = items c.args.events.now in
    let t = YieldsList-end (YieldsList-from_slice events cc) c.loop-event.yielded _ c.loop-event.yielded_by _ _ c.in-None.is c.next.ensures.steps in
    subst (HasAddedAll c.args.ready.now c.loop-event.ready) (take_all (length c.loop-event.yielded) events (omega (arith, t.1))) c.loop-event.invariant.ready
