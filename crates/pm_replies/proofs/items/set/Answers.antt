use Rattle.std.proofs.Common.{Some, sym, ap, ◌∙◌}
use Rattle.pm_replies.proofs.Hex.{set_there, set_none}
use Rattle.pm_replies.proofs.items.set.Goals as goal

pub returns-in-Ok : goal.returns-in-Ok
returns-in-Ok c = let read = c.in-Ok.ensures.value in ap Some read.1 ∙ sym (set_there _ read.0.0 read.0.1)

pub returns-in-Err : goal.returns-in-Err
returns-in-Err c = sym (set_none _ c.in-Err.ensures.value)
