use Rattle.std.proofs.Common.{◌≡◌, drop}
use Rattle.pm_print.specs.Spelt.{spelt}
use Rattle.pm_replies.proofs.refusals.spelt.Given as goal

abbrev pub invariant-loop-key : goal.invariant-loop-key
invariant-loop-key l = spelt (drop l.key-index l.all) l.text ≡ spelt l.all l.text
