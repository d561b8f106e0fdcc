use Rattle.std.proofs.Common.{◌<◌, refl, ap, ◌∙◌, arith, length, List, ℕ}
use Rattle.pm_model.specs.History.{state_of}
use Rattle.pm_run.proofs.Answering.{answered-none, answered-line, answered-moved, answered-part, answered-whole, next-line}
use Rattle.pm_run.proofs.lines.answer_waiting.Goals as goal

pub loop-asked-init : goal.loop-asked-init
loop-asked-init g c = record { answered = answered-none _ _ _ _ c.requires; kept = refl }

pub returns-in_err-asked-clause-memory : goal.returns-in_err-asked-clause-memory
returns-in_err-asked-clause-memory g c = λ _.
    answered-whole _ _ _ _ _ _ _ _ _ c.loop-asked.invariant.answered c.in_err-asked.ensures.output refl

pub returns-in_err-answer-clause-memory : goal.returns-in_err-answer-clause-memory
returns-in_err-answer-clause-memory g c = λ _.
    answered-whole _ _ _ _ _ _ _ _ _
    (answered-moved _ _ _ _ _ _ _ _ _ _ c.loop-asked.invariant.answered c.in_ok-asked.ensures.output c.in_ok-make_room.ensures.ok)
    c.in_err-answer.ensures.kept c.in_err-answer.ensures.err

pub returns-in_err-make_room-clause-fault : goal.returns-in_err-make_room-clause-fault
returns-in_err-make_room-clause-fault g c = λ _.
    answered-part _ _ _ _ _ _ _ _ _ c.loop-asked.invariant.answered c.in_ok-asked.ensures.output c.in_err-make_room.ensures.err

pub loop-asked-smaller : goal.loop-asked-smaller
loop-asked-smaller g c =
    let next = next-line c.loop-asked.session.waiting c.in-Some.asked (rw c.in-Some.is at c.in_ok-asked.ensures.asked) in
    let l = next.shorter in
    let rest = ap (λ (l : List ℕ). length l) (c.in_ok-answer.ensures.waiting ∙ c.in_ok-make_room.ensures.waiting ∙ c.in_ok-asked.ensures.waiting) in
    let want : length c.answer.new.session.waiting < length c.loop-asked.session.waiting = omega arith in want

pub loop-asked-preserved : goal.loop-asked-preserved
loop-asked-preserved g c =
    let k = c.loop-asked.invariant in
    record {
      answered =
          answered-line _ _ _ _ _ (state_of (g.M.Answerer.machine c.loop-asked.machine)) _ _ c.loop-asked.session.waiting _ c.in-Some.asked
          (answered-moved _ _ _ _ _ _ _ _ _ _ k.answered c.in_ok-asked.ensures.output c.in_ok-make_room.ensures.ok)
          (next-line c.loop-asked.session.waiting c.in-Some.asked (rw c.in-Some.is at c.in_ok-asked.ensures.asked))
          c.in_ok-make_room.ensures.room c.in_ok-answer.ensures.output c.in_ok-answer.ensures.state
          (c.in_ok-answer.ensures.waiting ∙ c.in_ok-make_room.ensures.waiting ∙ c.in_ok-asked.ensures.waiting);
      kept = c.in_ok-make_room.ensures.cause.kept ∙ k.kept;
    }
