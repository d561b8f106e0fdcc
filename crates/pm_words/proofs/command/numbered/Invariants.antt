use Rattle.std.proofs.Common.{◌≡◌, take, map}
use Rattle.clap.specs.Words.{app_of}
use Rattle.pm_words.specs.Lists.{Wanted, wanted_of}
use Rattle.pm_words.specs.Told.{word_app}
use Rattle.pm_words.proofs.command.numbered.Given as goal

abbrev pub invariant-loop-wanted : goal.invariant-loop-wanted
invariant-loop-wanted l = app_of l.command ≡ word_app l.entry.0.now (map (λ (w : Wanted). w.label) (map wanted_of (take l.wanted-index l.wanted-items)))
