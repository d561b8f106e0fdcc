use Rattle.std.proofs.Common.{◌∙◌, [], Some, ap, arith, refl}
use Rattle.pm_io.proofs.Known.{Consumes-nil}
use Rattle.pm_run.proofs.Ending.{ran-nothing, ran-serve, ran-serve_journal, ran-usage}
use Rattle.pm_program.proofs.Exported.{unbegun}
use Rattle.pm_program.proofs.Made.{unread_told}
use Rattle.pm_program.proofs.Summing.{is_size}
use Rattle.pm_run.specs.declared.statuses.Status.TheVariants.{Memory}
use Rattle.pm_program.proofs.program.top.Goals.{in-Ok-Some-Run, in-Ok-Some-Generate, in-Ok-Some-Serve, in-Ok-Some-ServeJournal, in-Ok-Some-RequestLines, in-Ok-Some-Export, in-Ok-None, in-Err}
use Rattle.pm_program.proofs.program.top.Goals as goal

pub run_generated-status-requires-after_bounds : goal.run_generated-status-requires-after_bounds
run_generated-status-requires-after_bounds g c κs bounds =
    let arm = c.in-Ok-Some-Generate in
    is_size c.args.args arm.size ((arm.ensures.generate arm.size).0 (arm.field-0-is ∙ ap Some arm.field-0-0-is))

pub returns-clause-unwritten : goal.returns-clause-unwritten
returns-clause-unwritten g c = λ run lines export none. elim c.match-read_words.branch [
  | in-Ok-Some-Run w ↦ let arm = w.in-Ok-Some-Run in absurd (run (arm.ensures.run.0 (arm.field-0-is ∙ ap Some arm.field-0-0-is)))
  | in-Ok-Some-Generate w ↦
      let arm = w.in-Ok-Some-Generate in absurd (none arm.size ((arm.ensures.generate arm.size).0 (arm.field-0-is ∙ ap Some arm.field-0-0-is)))
  | in-Ok-Some-Serve w ↦ w.out-is
  | in-Ok-Some-ServeJournal w ↦ w.out-is
  | in-Ok-Some-RequestLines w ↦
      let arm = w.in-Ok-Some-RequestLines in absurd (lines (arm.ensures.request_lines.0 (arm.field-0-is ∙ ap Some arm.field-0-0-is)))
  | in-Ok-Some-Export w ↦
      let arm = w.in-Ok-Some-Export in absurd (export (arm.ensures.export.0 (arm.field-0-is ∙ ap Some arm.field-0-0-is)))
  | in-Ok-None w ↦ w.out-is
  | in-Err w ↦ w.out-is
]

pub returns-clause-ran : goal.returns-clause-ran
returns-clause-ran g c = λ lines export none. elim c.match-read_words.branch [
  | in-Ok-Some-Run w ↦ rw (w.source-is, w.out-is, w.status-is) w.run_lines-status.ensures.ran
  | in-Ok-Some-Generate w ↦
      let arm = w.in-Ok-Some-Generate in absurd (none arm.size ((arm.ensures.generate arm.size).0 (arm.field-0-is ∙ ap Some arm.field-0-0-is)))
  | in-Ok-Some-Serve w ↦ rw (w.source-is, w.out-is, w.status-is) (ran-serve _ _ _ _ _ (omega arith))
  | in-Ok-Some-ServeJournal w ↦ rw (w.source-is, w.out-is, w.status-is) (ran-serve_journal _ _ _ _ _ (omega arith))
  | in-Ok-Some-RequestLines w ↦
      let arm = w.in-Ok-Some-RequestLines in absurd (lines (arm.ensures.request_lines.0 (arm.field-0-is ∙ ap Some arm.field-0-0-is)))
  | in-Ok-Some-Export w ↦
      let arm = w.in-Ok-Some-Export in absurd (export (arm.ensures.export.0 (arm.field-0-is ∙ ap Some arm.field-0-0-is)))
  | in-Ok-None w ↦ rw (w.source-is, w.out-is, w.status-is) (ran-usage _ _ _ (omega arith))
  | in-Err w ↦ rw (w.source-is, w.out-is, w.status-is) (ran-nothing _ _ _)
]

pub returns-clause-made : goal.returns-clause-made
returns-clause-made g c = λ asked. elim c.match-read_words.branch [
  | in-Ok-Some-Run w ↦ let arm = w.in-Ok-Some-Run in absurd (cc (arm.ensures.request_lines.1 asked, arm.field-0-is, arm.field-0-0-is))
  | in-Ok-Some-Generate w ↦ let arm = w.in-Ok-Some-Generate in absurd (cc (arm.ensures.request_lines.1 asked, arm.field-0-is, arm.field-0-0-is))
  | in-Ok-Some-Serve w ↦ let arm = w.in-Ok-Some-Serve in absurd (cc (arm.ensures.request_lines.1 asked, arm.field-0-is, arm.field-0-0-is))
  | in-Ok-Some-ServeJournal w ↦ let arm = w.in-Ok-Some-ServeJournal in absurd (cc (arm.ensures.request_lines.1 asked, arm.field-0-is, arm.field-0-0-is))
  | in-Ok-Some-RequestLines w ↦ rw (w.source-is, w.out-is, w.status-is) w.make_lines-status.ensures.made
  | in-Ok-Some-Export w ↦ let arm = w.in-Ok-Some-Export in absurd (cc (arm.ensures.request_lines.1 asked, arm.field-0-is, arm.field-0-0-is))
  | in-Ok-None w ↦ let arm = w.in-Ok-None in absurd (cc (arm.ensures.request_lines.1 asked, arm.field-0-is))
  | in-Err w ↦ rw (w.source-is, w.out-is, w.status-is) (unread_told _ _ _ _ _ _ [] Memory (Consumes-nil _) (omega arith) refl refl (λ e. cc))
]

pub returns-clause-exported : goal.returns-clause-exported
returns-clause-exported g c = λ asked. elim c.match-read_words.branch [
  | in-Ok-Some-Run w ↦ let arm = w.in-Ok-Some-Run in absurd (cc (arm.ensures.export.1 asked, arm.field-0-is, arm.field-0-0-is))
  | in-Ok-Some-Generate w ↦ let arm = w.in-Ok-Some-Generate in absurd (cc (arm.ensures.export.1 asked, arm.field-0-is, arm.field-0-0-is))
  | in-Ok-Some-Serve w ↦ let arm = w.in-Ok-Some-Serve in absurd (cc (arm.ensures.export.1 asked, arm.field-0-is, arm.field-0-0-is))
  | in-Ok-Some-ServeJournal w ↦ let arm = w.in-Ok-Some-ServeJournal in absurd (cc (arm.ensures.export.1 asked, arm.field-0-is, arm.field-0-0-is))
  | in-Ok-Some-RequestLines w ↦ let arm = w.in-Ok-Some-RequestLines in absurd (cc (arm.ensures.export.1 asked, arm.field-0-is, arm.field-0-0-is))
  | in-Ok-Some-Export w ↦ rw (w.source-is, w.out-is, w.status-is) w.export-status.ensures.exported
  | in-Ok-None w ↦ let arm = w.in-Ok-None in absurd (cc (arm.ensures.export.1 asked, arm.field-0-is))
  | in-Err w ↦ rw (w.source-is, w.out-is, w.status-is) (unbegun _ _ _ _)
]
