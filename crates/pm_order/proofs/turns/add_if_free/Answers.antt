use Rattle.std.proofs.Common.{◌≡◌, ◌∙◌, [], get_or, true, sym, subst, inl, inr}
use Rattle.std.proofs.lemmas.List.{get_or_default}
use Rattle.pm_order.specs.Ranked.{can_make, IsFree}
use Rattle.pm_order.proofs.Queued.{put-in}
use Rattle.pm_order.proofs.turns.add_if_free.Goals as goal

pub returns-in_ok-push : goal.returns-in_ok-push
returns-in_ok-push c i =
    let above = c.args.containers.now in
    let made = c.args.made.now in
    let place = c.args.place in
    let item : c.index-containers-place.result ≡ get_or above place [] =
    c.index-containers-place.is ∙ get_or_default above place c.index-containers-place.result [] c.requires.place in
    let free : IsFree above made place = (c.requires.place, subst (λ l. can_make made place l ≡ true) item (sym c.can_make.ensures ∙ c.if-can_make.true)) in
    let put = put-in place c.args.free.now c.push.new.self c.in_ok-push.ensures i in (
      (λ h. elim (put.0 h) [ inl old ↦ inl old | inr same ↦ inr (sym same, subst (λ j. IsFree above made j) same free) ]),
      (λ h. put.1 (elim h [ inl old ↦ inl old | inr new ↦ inr (sym new.0) ])),
    )
