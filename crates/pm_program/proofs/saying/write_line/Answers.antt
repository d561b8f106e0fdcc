use Rattle.std.proofs.Common.{◌∙◌, ◌++◌, OnErr, [], codes, decimal, subst, sym}
use Rattle.std.specs.Option.{option_map_or}
use Rattle.pm_run.specs.Statuses.{status_text}
use Rattle.pm_run.specs.Wrote.{WrotePart}
use Rattle.pm_run.proofs.Writing.{WrotePart-before, WrotePart-behind, on_err_of}
use Rattle.pm_program.proofs.saying.write_line.Goals as goal

pub returns-in_err-write_all-clause-err : goal.returns-in_err-write_all-clause-err
returns-in_err-write_all-clause-err g c =
    let is = c.as_bytes.ensures.value ∙ c.text.ensures in
    let part = rw is at c.in_err-write_all.ensures.err in
    on_err_of _ (WrotePart-before _ _ (status_text c.args.status) _ part)

pub returns-in-Some-clause-err : goal.returns-in-Some-clause-err
returns-in-Some-clause-err g c =
    let place = sym c.place.ensures ∙ c.in-Some.is in
    let is = c.as_bytes.ensures.value ∙ c.text.ensures in
    let text = rw is at c.in_ok-write_all.ensures.ok in
    subst (λ p. OnErr c.write_number.result (WrotePart (g.E.Sink.taken c.args.err.now) (g.E.Sink.taken c.write_number.new.err) (λ _. status_text c.args.status ++ option_map_or (λ at. decimal at ++ codes "\n") p [])))
    (sym place)
    (WrotePart-behind _ _ _ (status_text c.args.status) (decimal c.in-Some.at ++ codes "\n") c.write_number.result text c.write_number.ensures.err)
