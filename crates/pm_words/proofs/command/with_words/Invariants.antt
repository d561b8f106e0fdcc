use Rattle.std.proofs.Common.{◌≡◌, take, map}
use Rattle.std.specs.Prelude.{fold}
use Rattle.clap.specs.Words.{app_of}
use Rattle.pm_words.specs.Lists.{entry_of}
use Rattle.pm_words.specs.Told.{bare_app, with_entry}
use Rattle.pm_words.proofs.command.with_words.Given as goal

abbrev pub invariant-loop-entry : goal.invariant-loop-entry
invariant-loop-entry l = app_of l.command ≡ fold with_entry bare_app (map entry_of (take l.entry-index l.entries))
