use Rattle.std.proofs.Common.{◌∙◌, sym}
use Rattle.pm_assoc.specs.Grantees.{mentions}
use Rattle.pm_assoc.proofs.Runs.{any-in_run, any-behind_run}
use Rattle.pm_assoc.proofs.grantees.is_named.Goals as goal

pub returns-then-is_named_among : goal.returns-then-is_named_among
returns-then-is_named_among c =
    any-in_run (mentions c.args.id) c.args.grantees.now.items c.loop-begin.begin c.run-run.result.now c.run-run.ensures.items
    c.loop-begin.invariant (sym c.is_named_among.ensures ∙ c.if-is_named_among.true)

pub loop-begin-preserved : goal.loop-begin-preserved
loop-begin-preserved c =
    any-behind_run (mentions c.args.id) c.args.grantees.now.items c.loop-begin.begin c.run-run.result.now c.run-run.ensures.items
    c.loop-begin.invariant (sym c.is_named_among.ensures ∙ c.if-is_named_among.false)
