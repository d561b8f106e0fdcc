use Rattle.std.proofs.Common.{IsTrue, false}
use Rattle.pm_document.proofs.Said.{said-text, said-no_text}
use Rattle.pm_document.proofs.read.read_policy.Goals as goal

pub returns-else-is_memory : goal.returns-else-is_memory
returns-else-is_memory c = said-no_text _ (c.in-Err.ensures.err (λ m. let f : IsTrue false = c.if-is_memory.ensures.1 m in cc))

pub returns-in-Ok : goal.returns-in-Ok
returns-in-Ok c = rw (said-text c.args.bytes.now _ c.in-Ok.ensures.ok.0 c.in-Ok.ensures.ok.1) c.policy.ensures
