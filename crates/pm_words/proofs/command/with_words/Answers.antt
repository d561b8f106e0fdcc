use Rattle.std.proofs.Common.{◌∙◌, ap, ap₂, sym}
use Rattle.clap.specs.Words.{App, with_subcommand}
use Rattle.clap.proofs.SimpleLemmas.{plain_fields}
use Rattle.pm_words.specs.Lists.{entry_of}
use Rattle.pm_words.specs.Told.{bare_app, with_entry}
use Rattle.pm_words.proofs.Adding.{fold_more}
use Rattle.pm_words.proofs.command.with_words.Goals as goal

pub loop-entry-preserved : goal.loop-entry-preserved
loop-entry-preserved c =
    let plain = plain_fields c.in_ok-subcommand.field-0 (ap (λ (a : App). a.top.is_plain) c.in_ok-subcommand.ensures) in
    c.in_ok-command.ensures.shape plain.globals ∙ ap₂ with_subcommand c.loop-entry.invariant (ap (λ (a : App). a.top) c.in_ok-subcommand.ensures)
    ∙ sym (fold_more with_entry bare_app entry_of c.args.entries.now c.loop-entry.entry-index _ c.loop-entry-test.true)
