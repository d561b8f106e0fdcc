use Rattle.std.proofs.Common.{arith, inl, inr, ◌∙◌}
use Rattle.pm_worker.specs.declared.turns.Turn.TheVariants.{Idle, Ended, LinkFault}
use Rattle.pm_worker.proofs.Wiring.{quiet-self, quiet-then, failed-then, none-then}
use Rattle.pm_worker.proofs.Turning.{turning-begin, turning-sent, turning-answered, turning-stays, turning-fed, turning-unfed, serves-of, serves-stopped, serves-closed, serves-lost, drained-after}
use Rattle.pm_worker.proofs.serving.serve.Goals as goal
use Rattle.pm_worker.proofs.serving.serve.Goals.{then-share-ge-WHOLE-via-then-share-ge-WHOLE, then-share-ge-WHOLE-via-else-share-ge-WHOLE+then-total-ge65536}

-- ---- before the first line

pub returns-in-Some : goal.returns-in-Some
returns-in-Some g c =
    serves-stopped _ _ _ _ _ _ _ _ _ _ _ _ (turning-begin _ _ _ _ c.still.ensures.rests c.shaped.ensures) (quiet-self _) c.send.ensures.sends
    c.in-Some.ensures.why (omega arith) (omega arith)

pub loop-share-init : goal.loop-share-init
loop-share-init g c =
    record {
      turning = turning-sent _ _ _ _ _ _ _ _ _ _ _ (turning-begin _ _ _ _ c.still.ensures.rests c.shaped.ensures) c.send.ensures.sends;
      quiet = c.in_default.ensures.why;
      few = omega arith;
      short = omega arith;
    }

-- ---- the turn has had its share

pub returns-then-share-ge-WHOLE : goal.returns-then-share-ge-WHOLE
returns-then-share-ge-WHOLE g c =
    let h = c.loop-share.invariant in
    serves-closed _ _ _ _ _ _ _ _ _ _ _ _ h.turning h.quiet c.close.ensures.sends c.close.ensures.why (elim c.then-share-ge-WHOLE.branch [
      | then-share-ge-WHOLE-via-then-share-ge-WHOLE w ↦ inl (let k = w.if-share-ge-WHOLE.true in omega (arith, k))
      | then-share-ge-WHOLE-via-else-share-ge-WHOLE+then-total-ge65536 w ↦ inr w.if-total-ge65536.true
    ]) h.few h.short

-- ---- a line is answered

pub returns-in-Some-make_room : goal.returns-in-Some-make_room
returns-in-Some-make_room g c =
    let h = c.loop-share.invariant in
    serves-stopped _ _ _ _ _ _ _ _ _ _ _ _ h.turning h.quiet c.make_room.ensures.sends c.in-Some-make_room.ensures.why h.few h.short

pub loop-share-preserved-in-Ok-Some : goal.loop-share-preserved-in-Ok-Some
loop-share-preserved-in-Ok-Some g c =
    let h = c.loop-share.invariant in
    let e = c.make_room.ensures.sends in
    let done = rw c.in-Ok-Some.field-0-is at c.in-Ok-Some.ensures.ok in
    let not = c.if-share-ge-WHOLE.false in
    let most = done.within.1 in
    record {
      turning =
          turning-answered _ _ _ _ _ _ _ _ _ _ _ _ (turning-sent _ _ _ _ _ _ _ _ _ _ _ h.turning e) (omega (arith, not)) c.in_default-make_room.ensures.room done;
      quiet = quiet-then _ _ _ h.quiet c.in_default-make_room.ensures.why;
      few = omega (arith, most, not);
      short = h.short;
    }

pub returns-in-Err : goal.returns-in-Err
returns-in-Err g c =
    let h = c.loop-share.invariant in
    let k = c.in-Err.ensures in
    serves-lost _ _ _ _ _ c.make_room.new.session c.answer_line.new.session _ _ _ _ _ _ (turning-sent _ _ _ _ _ _ _ _ _ _ _ h.turning c.make_room.ensures.sends)
    k.err k.lost c.in_default-make_room.ensures.room k.kept c.send-sent.ensures.sends h.few h.short

-- ---- no line waits

pub returns-in-Some-send : goal.returns-in-Some-send
returns-in-Some-send g c =
    let h = c.loop-share.invariant in
    let none = rw c.in-Ok-None.field-0-is at c.in-Ok-None.ensures.ok in
    let stays = turning-stays _ _ _ _ _ _ _ _ _ _ _ (turning-sent _ _ _ _ _ _ _ _ _ _ _ h.turning c.make_room.ensures.sends) none in
    serves-stopped _ _ _ _ _ _ _ _ _ _ _ _ stays (quiet-then _ _ _ h.quiet c.in_default-make_room.ensures.why) c.send-in-loop-share.ensures.sends
    c.in-Some-send.ensures.why h.few h.short

pub loop-share-preserved : goal.loop-share-preserved
loop-share-preserved g c =
    let h = c.loop-share.invariant in
    let none = rw c.in-Ok-None.field-0-is at c.in-Ok-None.ensures.ok in
    let stays = turning-stays _ _ _ _ _ _ _ _ _ _ _ (turning-sent _ _ _ _ _ _ _ _ _ _ _ h.turning c.make_room.ensures.sends) none in
    let sent = turning-sent _ _ _ _ _ _ _ _ _ _ _ stays c.send-in-loop-share.ensures.sends in
    let quiet = quiet-then _ _ _ (quiet-then _ _ _ h.quiet c.in_default-make_room.ensures.why) c.in_default-send.ensures.why in
    let f = c.feed.ensures in
    let fed = c.in-Got.ensures.fed in
    let most = fed.most in
    let less = c.if-total-ge65536.false in
    record {
      turning = turning-fed _ _ _ _ _ _ _ _ _ _ _ _ sent fed f.taken f.later f.output;
      quiet = quiet-then _ _ _ quiet fed.quiet;
      few = h.few;
      short = omega (arith, most, less);
    }

pub returns-in-End : goal.returns-in-End
returns-in-End g c =
    let h = c.loop-share.invariant in
    let none = rw c.in-Ok-None.field-0-is at c.in-Ok-None.ensures.ok in
    let stays = turning-stays _ _ _ _ _ _ _ _ _ _ _ (turning-sent _ _ _ _ _ _ _ _ _ _ _ h.turning c.make_room.ensures.sends) none in
    let sent = turning-sent _ _ _ _ _ _ _ _ _ _ _ stays c.send-in-loop-share.ensures.sends in
    let quiet = quiet-then _ _ _ (quiet-then _ _ _ h.quiet c.in_default-make_room.ensures.why) c.in_default-send.ensures.why in
    let f = c.feed.ensures in
    let fed = c.in-End.ensures.fed in
    serves-of _ _ _ _ _ _ _ _ _ Ended (turning-unfed _ _ _ _ _ _ _ _ _ _ _ sent fed.0 f.taken f.later f.output) h.few h.short (
      fed.1,
      drained-after _ _ _ _ _ none (fed.0.waiting ∙ c.send-in-loop-share.ensures.sends.waiting),
      f.output ∙ c.in_default-send.ensures.all,
      quiet-then _ _ _ quiet fed.2,
    )

pub returns-in-Again : goal.returns-in-Again
returns-in-Again g c =
    let h = c.loop-share.invariant in
    let none = rw c.in-Ok-None.field-0-is at c.in-Ok-None.ensures.ok in
    let stays = turning-stays _ _ _ _ _ _ _ _ _ _ _ (turning-sent _ _ _ _ _ _ _ _ _ _ _ h.turning c.make_room.ensures.sends) none in
    let sent = turning-sent _ _ _ _ _ _ _ _ _ _ _ stays c.send-in-loop-share.ensures.sends in
    let quiet = quiet-then _ _ _ (quiet-then _ _ _ h.quiet c.in_default-make_room.ensures.why) c.in_default-send.ensures.why in
    let f = c.feed.ensures in
    let fed = c.in-Again.ensures.fed in
    serves-of _ _ _ _ _ _ _ _ _ Idle (turning-unfed _ _ _ _ _ _ _ _ _ _ _ sent fed.0 f.taken f.later f.output) h.few h.short
    (inr (
      f.output ∙ c.in_default-send.ensures.all,
      drained-after _ _ _ _ _ none (fed.0.waiting ∙ c.send-in-loop-share.ensures.sends.waiting),
      none-then _ _ _ quiet fed.1,
    ))

pub returns-in-Failed : goal.returns-in-Failed
returns-in-Failed g c =
    let h = c.loop-share.invariant in
    let none = rw c.in-Ok-None.field-0-is at c.in-Ok-None.ensures.ok in
    let stays = turning-stays _ _ _ _ _ _ _ _ _ _ _ (turning-sent _ _ _ _ _ _ _ _ _ _ _ h.turning c.make_room.ensures.sends) none in
    let sent = turning-sent _ _ _ _ _ _ _ _ _ _ _ stays c.send-in-loop-share.ensures.sends in
    let quiet = quiet-then _ _ _ (quiet-then _ _ _ h.quiet c.in_default-make_room.ensures.why) c.in_default-send.ensures.why in
    let f = c.feed.ensures in
    let fed = c.in-Failed.ensures.fed in
    serves-of _ _ _ _ _ _ _ _ _ LinkFault (turning-unfed _ _ _ _ _ _ _ _ _ _ _ sent fed.0 f.taken f.later f.output) h.few h.short
    (failed-then _ _ _ quiet fed.1)
