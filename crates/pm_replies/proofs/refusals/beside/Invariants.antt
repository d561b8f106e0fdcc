use Rattle.std.proofs.Common.{◌≡◌, drop}
use Rattle.pm_print.specs.Spelt.{beside}
use Rattle.pm_replies.proofs.refusals.beside.Given as goal

abbrev pub invariant-loop-entry : goal.invariant-loop-entry
invariant-loop-entry g l = beside (drop l.entry-index l.table) l.text ≡ beside l.table l.text
