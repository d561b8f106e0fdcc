use Rattle.pm_program.proofs.Exported.{no_other, part_exported, small_number}
use Rattle.pm_run.specs.declared.statuses.Status.TheVariants.{Usage, Serve, ServeJournal}
use Rattle.pm_program.proofs.exporting.export.Goals as goal

pub returns-in-Err-clause-usage : goal.returns-in-Err-clause-usage
returns-in-Err-clause-usage g c = no_other _ _ _ _ _ _ _ c.in-Err.status Usage (c.in-Err.ensures.err (g.O.Sink.taken c.args.out.now)) (λ bytes written due. due)

pub returns-in-Err-clause-serve : goal.returns-in-Err-clause-serve
returns-in-Err-clause-serve g c port workers =
    no_other _ _ _ _ _ _ _ c.in-Err.status (Serve port workers) (c.in-Err.ensures.err (g.O.Sink.taken c.args.out.now)) (λ bytes written due. due)

pub returns-in-Err-clause-serve_journal : goal.returns-in-Err-clause-serve_journal
returns-in-Err-clause-serve_journal g c port workers =
    no_other _ _ _ _ _ _ _ c.in-Err.status (ServeJournal port workers) (c.in-Err.ensures.err (g.O.Sink.taken c.args.out.now)) (λ bytes written due. due)

pub returns-in-Err-clause-number : goal.returns-in-Err-clause-number
returns-in-Err-clause-number g c = small_number _ _ _ _ _ _ _ c.in-Err.status (c.in-Err.ensures.err (g.O.Sink.taken c.args.out.now))

pub returns-clause-exported : goal.returns-clause-exported
returns-clause-exported g c =
    let part = rw c.deref.ensures.value at c.in-Err-write_all.ensures.err in
    part_exported _ _ _ _ _ _ c.in-Ok.ensures.ok part
