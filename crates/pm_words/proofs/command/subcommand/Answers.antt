use Rattle.std.proofs.Common.{List, ◌∙◌, ap, ap₂, map}
use Rattle.clap.specs.Words.{Rule, new_app, with_rule}
use Rattle.pm_words.specs.Lists.{Wanted, wanted_of}
use Rattle.pm_words.specs.Told.{value_rule}
use Rattle.pm_words.proofs.Adding.{behind_more, map_one_more}
use Rattle.pm_words.proofs.command.subcommand.Goals as goal

pub loop-text-preserved : goal.loop-text-preserved
loop-text-preserved c =
    let entry = c.args.entry.now in
    let named = new_app entry.0.now in
    let before = map (λ (w : Wanted). w.label) (map wanted_of entry.1.now) in
    let more = behind_more before (λ text. text.now) entry.2.now c.loop-text.text-index _ c.loop-text-test.true in
    c.in_ok-command-2.ensures.shape c.value.ensures.local ∙ ap₂ with_rule c.loop-text.invariant c.value.ensures.rule
    ∙ ap (λ (rules : List Rule). record named { top = record named.top { rules = rules } }) (map_one_more value_rule _ _ _ more)
