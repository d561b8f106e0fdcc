use Rattle.std.proofs.Common.{◌∙◌, sym}
use Rattle.pm_model.specs.Obligations.{concerns}
use Rattle.pm_pages.proofs.Runs.{any-in_run, any-behind_run}
use Rattle.pm_oblig.proofs.items.is_named.Goals as goal

pub returns-then-is_named_among : goal.returns-then-is_named_among
returns-then-is_named_among c =
    any-in_run (concerns c.args.id) c.args.items.now.items c.run-run.result.now c.loop-begin.begin c.run-run.ensures.items
    (sym c.is_named_among.ensures ∙ c.if-is_named_among.true) c.loop-begin.invariant

pub loop-begin-preserved : goal.loop-begin-preserved
loop-begin-preserved c =
    any-behind_run (concerns c.args.id) c.args.items.now.items c.run-run.result.now c.loop-begin.begin c.run-run.ensures.items
    (sym c.is_named_among.ensures ∙ c.if-is_named_among.false) c.loop-begin.invariant
