use Rattle.std.proofs.Common.{refl}
use Rattle.pm_model.specs.Words.{word_text}
use Rattle.pm_read.proofs.OfWords.{other_act}
use Rattle.pm_read.proofs.responses.rule_act.Goals as goal

pub returns-in_default : goal.returns-in_default
unfolding word_text
returns-in_default c =
    let w = c.args.word.now in
    let d = c.in_default in
    let r = c.requires in
    other_act w _ _ _ r.0 (other_act w _ _ _ r.1.0 (other_act w _ _ _ r.1.1.0 (other_act w _ _ _ r.1.1.1.0
    (other_act w _ _ _ r.1.1.1.1.0 (other_act w _ _ _ r.1.1.1.1.1.0 (other_act w _ _ _ r.1.1.1.1.1.1.0 (other_act w _ _ _ d.not-associate
    (other_act w _ _ _ d.not-dissociate (other_act w _ _ _ d.not-prohibit (other_act w _ _ _ d.not-lift refl))))))))))
