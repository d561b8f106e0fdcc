use Rattle.std.proofs.Common.{refl, ◌∙◌}
use Rattle.pm_state.specs.Drafted.{machine_in}
use Rattle.pm_step.proofs.Counted.{settled-counted}
use Rattle.pm_step.proofs.Stepping.{settled-answered, settled-step, settled-full}
use Rattle.pm_step.proofs.entries.finish.Goals as goal

pub finish-requires-clause-answered : goal.finish-requires-clause-answered
finish-requires-clause-answered c =
    settled-answered c.args.state.now (machine_in c.settle_reviews.new.draft) c.args.draft.graph c.args.entry.request c.args.reply
    (rw (c.version.ensures.version) at c.in_ok-settle_reviews.ensures.ok) c.requires.asked
    (c.in_ok-settle_reviews.ensures.history ∙ c.requires.history) c.replayed.ensures

pub returns-in-Ok : goal.returns-in-Ok
returns-in-Ok c =
    settled-step c.args.state.now (machine_in c.settle_reviews.new.draft) c.args.draft.graph c.args.entry.request c.args.reply
    (rw (c.version.ensures.version) at c.in_ok-settle_reviews.ensures.ok) c.requires.asked
    c.in-Ok.next c.args.entry refl (c.in_ok-settle_reviews.ensures.history ∙ c.requires.history) c.in-Ok.ensures.room c.in-Ok.ensures.ok

pub returns-in-Err-Full : goal.returns-in-Err-Full
returns-in-Err-Full c =
    settled-full c.args.state.now (machine_in c.settle_reviews.new.draft) c.args.draft.graph c.args.entry.request c.args.reply
    (rw (c.version.ensures.version) at c.in_ok-settle_reviews.ensures.ok) c.requires.asked
    c.args.entry refl (c.in_ok-settle_reviews.ensures.history ∙ c.requires.history) (c.in-Err-Full.ensures.full c.in-Err-Full.field-0-is)

pub finish-requires-clause-done : goal.finish-requires-clause-done
finish-requires-clause-done c w =
    settled-counted w c.args.state.now c.settle_reviews.new.draft c.args.draft c.args.entry c.replayed.ensures (c.in_ok-settle_reviews.ensures.done w)
    (c.in_ok-settle_reviews.ensures.history ∙ c.requires.history) (c.requires.done w)
