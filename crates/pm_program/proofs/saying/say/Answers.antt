use Rattle.pm_program.proofs.Texts.{said-of}
use Rattle.pm_program.proofs.saying.say.Goals as goal

pub returns : goal.returns
returns g c =
    let w = c.write_line.ensures in
    said-of _ _ _ _ _ c.write_line.result w.ok w.err w.cause
