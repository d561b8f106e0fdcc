use Rattle.std.proofs.Common.{rules, ◌∙◌}
use Rattle.std.specs.Prelude.{IfErr}
use Rattle.pm_recovery.specs.Recovered.{IsUnrecovered}
use Rattle.pm_recovery.proofs.GoingOn.{error_excused, goes_on, goes_on_from}
use Rattle.pm_recovery.proofs.recovering.recover.Goals as goal

pub returns-in_err-journal-clause-excused : goal.returns-in_err-journal-clause-excused
returns-in_err-journal-clause-excused g c tells history back made =
    let not : IfErr c.from_residual.result (IsUnrecovered g.D.Disk.content c.args.disk c.args.seats) = search rules in
    error_excused g.D.Disk.content c.args.disk c.args.seats history c.from_residual.result not back made

pub returns-in_err-made-clause-excused : goal.returns-in_err-made-clause-excused
returns-in_err-made-clause-excused g c tells history back made =
    let not : IfErr c.from_residual-in_err-made.result (IsUnrecovered g.D.Disk.content c.args.disk c.args.seats) = search rules in
    error_excused g.D.Disk.content c.args.disk c.args.seats history c.from_residual-in_err-made.result not back made

pub returns-clause-recovered : goal.returns-clause-recovered
returns-clause-recovered g c tells =
    let found = c.in_ok-journal in
    goes_on (g.D.Disk.content c.args.disk) c.args.seats c.in_ok-made.made.1 found.journal.kept c.as_slice.result.now (found.ensures.stood tells) (found.ensures.exactly tells)
    (c.as_slice.ensures ∙ found.ensures.entries tells) c.in_ok-made.ensures.made c.in_ok-made.ensures.seats

pub returns-clause-acknowledged : goal.returns-clause-acknowledged
returns-clause-acknowledged g c tells history back =
    let found = c.in_ok-journal in
    goes_on_from (g.D.Disk.content c.args.disk) c.args.seats c.in_ok-made.made.1 history
    (goes_on (g.D.Disk.content c.args.disk) c.args.seats c.in_ok-made.made.1 found.journal.kept c.as_slice.result.now (found.ensures.stood tells) (found.ensures.exactly tells)
    (c.as_slice.ensures ∙ found.ensures.entries tells) c.in_ok-made.ensures.made c.in_ok-made.ensures.seats) back
