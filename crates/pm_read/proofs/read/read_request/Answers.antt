use Rattle.std.proofs.Common.{◌∙◌, sym, IsTrue, false}
use Rattle.pm_read.proofs.Asking.{asked-text, asked-no_text}
use Rattle.pm_read.proofs.read.read_request.Goals as goal

pub returns-else-is_memory : goal.returns-else-is_memory
returns-else-is_memory c =
    c.not_json.ensures
    ∙ sym (asked-no_text _ (c.in-Err.ensures.err (λ m. let f : IsTrue false = c.if-is_memory.ensures.1 m in cc)))

pub returns-in-Ok : goal.returns-in-Ok
returns-in-Ok c = rw (asked-text c.args.line.now _ c.in-Ok.ensures.ok.0 c.in-Ok.ensures.ok.1) c.asked.ensures
