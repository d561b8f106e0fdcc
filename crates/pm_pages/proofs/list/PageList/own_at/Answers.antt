use Rattle.std.proofs.Common.{◌≡◌, ◌∙◌, true, ap, sym, length, map, refl}
use Rattle.std.proofs.lemmas.Result.{on_ok_weaker}
use Rattle.pm_pages.specs.Listed.{items_of, is_own, all_own, owned, IsOwnAt}
use Rattle.pm_pages.proofs.Spots.{same-starts, same-listed}
use Rattle.pm_pages.proofs.Changed.{either_way, map-edited, all-edited}
use Rattle.pm_pages.proofs.Owning.{own-edited, own-page, own_page_all, keeps-edited}
use Rattle.pm_pages.proofs.list.PageList.own_at.Goals as goal

pub invariant_of-self : goal.invariant_of-self
invariant_of-self g c =
    let old = c.self.inside.pages.items in
    let e = c.own_at.ensures in
    let new = c.own_at.new.pages.items in
    let m = either_way c.own_at.result _ _ _ (λ ps. map items_of ps ≡ map items_of old) e.pages e.err (map-edited items_of owned (λ p. refl) c.find-spot.result.page old) refl in
    record {
      starts = c.self.invariant.starts ∙ sym (same-starts items_of 0 new old m);
      counted = c.self.invariant.counted ∙ ap length (sym (same-listed items_of new old m));
      alone = λ a. either_way c.own_at.result _ _ _ (λ ps. all_own ps ≡ true) e.pages e.err
          (all-edited is_own owned (λ p h. refl) c.find-spot.result.page old (c.self.invariant.alone a)) (c.self.invariant.alone a);
    }

pub returns-clause-items : goal.returns-clause-items
returns-clause-items g c =
    let old = c.self.inside.pages.items in
    let e = c.own_at.ensures in
    let new = c.own_at.new.pages.items in
    let m = either_way c.own_at.result _ _ _ (λ ps. map items_of ps ≡ map items_of old) e.pages e.err (map-edited items_of owned (λ p. refl) c.find-spot.result.page old) refl in
    rw (← c.self.view_is) (same-listed items_of new old m)

pub returns-clause-keeps : goal.returns-clause-keeps
returns-clause-keeps g c =
    let old = c.self.inside.pages.items in
    let e = c.own_at.ensures in
    rw (← c.self.view_is) (λ i h. either_way c.own_at.result _ _ _ (λ ps. IsOwnAt ps i) e.pages e.err (keeps-edited owned (λ p. refl) (λ p o. refl) c.find-spot.result.page old i h) h)

pub returns-clause-ok : goal.returns-clause-ok
returns-clause-ok g c =
    let spot = rw c.deref.ensures.value at c.find-spot.ensures.spot in
    let within = rw c.deref.ensures.value at c.find-spot.ensures.page in
    on_ok_weaker c.own_at.result (λ done. rw done (own-edited owned c.find-spot.result.offset (λ p. refl) (λ p w. w) c.self.inside.pages.items c.args.i c.find-spot.result.page within spot)) c.own_at.ensures.pages

pub returns-clause-own : goal.returns-clause-own
returns-clause-own g c = λ own.
    let spot = rw c.deref.ensures.value at c.find-spot.ensures.spot in
    c.own_at.ensures.own (own-page c.self.inside.pages.items c.args.i c.find-spot.result.page c.find-spot.result.offset spot (rw (← c.self.view_is) at own))

pub returns-clause-sure : goal.returns-clause-sure
returns-clause-sure g c = λ alone.
    let within = rw c.deref.ensures.value at c.find-spot.ensures.page in
    c.own_at.ensures.own (own_page_all c.self.inside.pages.items c.find-spot.result.page within (c.self.invariant.alone (rw (← c.self.view_is) at alone)))
