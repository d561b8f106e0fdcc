-- What each thread counts of its users is one list, in their order.
use Rattle.std.proofs.Common.{rules, ◌≡◌, ap, ◌∙◌}
use Rattle.pm_model.specs.Reviews.{count_held}
use Rattle.rayon.proofs.ListFacts.{IfOk-then, AllZip-weaken}
use Rattle.rayon.proofs.ToStd.{slice-map}
use Rattle.pm_review.proofs.surveys.bulk.Goals as goal

pub returns : goal.returns
returns g c =
    let users = ap (λ it. it.base.slice.now) c.map.ensures.base ∙ ap (λ it. it.slice.now) c.with_min_len.ensures.base ∙ c.par_iter.ensures ∙ c.as_slice.ensures in
    let counted = c.in_ok-counts.ensures in
    let chain = rw (c.map.ensures.f) at counted.1 in
    let of_user = count_held (g.J.Judge.judgement c.args.source.now).rights c.args.elements.now in
    let each = AllZip-weaken _ (λ z y. y ≡ of_user z.now) (λ z y h. search rules) chain.0 counted.0 chain.2 in
    IfOk-then c.list_of.result _ _ c.list_of.ensures (λ list same.
    same ∙ c.as_slice-2.ensures.value ∙ counted.2 ∙ slice-map chain.0 c.args.users.now (chain.1 ∙ users) of_user counted.0 each)
