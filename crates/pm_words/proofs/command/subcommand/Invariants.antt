use Rattle.std.proofs.Common.{◌≡◌, ◌++◌, take, map}
use Rattle.clap.specs.Words.{app_of}
use Rattle.pm_words.specs.Lists.{Wanted, wanted_of}
use Rattle.pm_words.specs.Told.{word_app}
use Rattle.pm_words.proofs.command.subcommand.Given as goal

abbrev pub invariant-loop-text : goal.invariant-loop-text
invariant-loop-text l = app_of l.command
    ≡ word_app l.entry.0.now (map (λ (w : Wanted). w.label) (map wanted_of l.entry.1.now) ++ map (λ text. text.now) (take l.text-index l.text-items))
