use Rattle.std.proofs.Common.{◌∙◌}
use Rattle.pm_program.proofs.saying.write_number.Goals as goal

pub returns-clause-err : goal.returns-clause-err
returns-clause-err g c =
    let is = c.as_bytes.ensures.value ∙ c.format.ensures.text in
    rw is at c.write_both.ensures.err
