use Rattle.std.proofs.Common.{◌≡◌, ◌∙◌, [], get_or, true, sym, subst}
use Rattle.std.proofs.lemmas.List.{get_or_default}
use Rattle.pm_order.specs.Ranked.{can_make}
use Rattle.pm_order.proofs.Due.{due-more}
use Rattle.pm_order.proofs.walks.mark_if_free.Goals as goal

pub returns-then-can_make-clause-due : goal.returns-then-can_make-clause-due
returns-then-can_make-clause-due c =
    let above = c.args.containers.now in
    let made = c.args.made.now.items in
    let place = c.args.place in
    let item : c.index-containers-place.result ≡ get_or above place [] =
    c.index-containers-place.is ∙ get_or_default above place c.index-containers-place.result [] c.requires.place in
    let is : can_make made place (get_or above place []) ≡ true =
    subst (λ l. can_make made place l ≡ true) item (subst (λ m. can_make m place c.index-containers-place.result ≡ true) c.as_slice.ensures.value (sym c.can_make.ensures ∙ c.if-can_make.true)) in
    due-more above made place c.requires.place is
