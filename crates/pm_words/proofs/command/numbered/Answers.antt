use Rattle.std.proofs.Common.{List, ◌∙◌, ap, ap₂, arith, map}
use Rattle.std.proofs.lemmas.List.{take_all}
use Rattle.clap.specs.Words.{Rule, new_app, with_rule}
use Rattle.pm_words.specs.Lists.{Wanted, wanted_of}
use Rattle.pm_words.specs.Told.{value_rule, word_app}
use Rattle.pm_words.proofs.Adding.{map_one_more, map_twice_more}
use Rattle.pm_words.proofs.command.numbered.Goals as goal

pub loop-wanted-preserved : goal.loop-wanted-preserved
loop-wanted-preserved c =
    let named = new_app c.args.entry.now.0.now in
    let more = map_twice_more (λ (w : Wanted). w.label) wanted_of c.args.entry.now.1.now c.loop-wanted.wanted-index _ c.loop-wanted-test.true in
    c.in_ok-command.ensures.shape c.value.ensures.local ∙ ap₂ with_rule c.loop-wanted.invariant c.value.ensures.rule
    ∙ ap (λ (rules : List Rule). record named { top = record named.top { rules = rules } }) (map_one_more value_rule _ _ _ more)

pub returns : goal.returns
returns c =
    let past = c.loop-wanted-test.false in
    let all = take_all c.loop-wanted.wanted-index c.args.entry.now.1.now (omega (arith, past)) in
    c.loop-wanted.invariant ∙ ap (λ ws. word_app c.args.entry.now.0.now (map (λ (w : Wanted). w.label) (map wanted_of ws))) all
