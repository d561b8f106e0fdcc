use Rattle.std.proofs.Common.{◌≡◌, ◌++◌, ◌∷◌, [], true, false, Some, sym, ap, ◌∙◌}
use Rattle.std.proofs.lemmas.Slice.Eq.{bytes_eq-Decides, strip_suffix_is}
use Rattle.std.proofs.lemmas.Bool.Decides.{Decides-eqb}
use Rattle.pm_print.proofs.Replying.{cut_feed}
use Rattle.pm_replies.proofs.confirm.is_line.Goals as goal

pub returns-in-Some-clause-yes : goal.returns-in-Some-clause-yes
returns-in-Some-clause-yes c =
    let stripped = strip_suffix_is Decides-eqb c.args.printed.now (10 ∷ []) (Some c.in-Some.text) c.in-Some.ensures.cases in
    λ same. stripped ∙ ap (λ t. t ++ 10 ∷ []) ((bytes_eq-Decides c.in-Some.text.now c.args.line.now).0 (sym c.eq.ensures ∙ same))

pub returns-in-Some-clause-no : goal.returns-in-Some-clause-no
returns-in-Some-clause-no c =
    let stripped = strip_suffix_is Decides-eqb c.args.printed.now (10 ∷ []) (Some c.in-Some.text) c.in-Some.ensures.cases in
    λ other whole.
    let same = cut_feed c.in-Some.text.now c.args.line.now (sym stripped ∙ whole) in
    let both : false ≡ true = sym other ∙ (c.eq.ensures ∙ (bytes_eq-Decides c.in-Some.text.now c.args.line.now).1 same) in
    cc
