-- What is left out has nothing.
use Rattle.std.proofs.Common.{◌∙◌, ap, ◌||◌, arith, length}
use Rattle.pm_reach.specs.Words.{in_row}
use Rattle.pm_reach.proofs.Bits.{words_within}
use Rattle.pm_reach.proofs.words.unite_within.Goals as goal

pub returns-clause-row : goal.returns-clause-row
returns-clause-row c y =
    c.unite.ensures.row y
    ∙ ap (λ b. in_row c.args.into.now y || b) (words_within c.args.from.now (length c.args.into.now) c.min-n.result (grind (arith, c.min-n.ensures)) (λ k h l. grind (arith, c.min-n.ensures, h, l)) c.requires y)
