use Rattle.std.proofs.Common.{◌≡◌, ◌∙◌, Bool, List, sym, ap, length, length-set, slice_get, arith, refl}
use Rattle.pm_pages.specs.Paged.{Paged}
use Rattle.pm_pages.specs.Listed.{items_of, is_own, listed, marks, changed_item}
use Rattle.pm_pages.proofs.Spots.{piece_read, spot-get, spot-set, starts-same}
use Rattle.pm_pages.proofs.Changed.{set_edited, all-edited}
use Rattle.pm_pages.proofs.Owning.{own-within, own-page, own_page_read, marks-changed}
use Rattle.pm_pages.proofs.list.PageList.edit.Goals as goal

abbrev paged : {T : Type 0} → List T → List Bool → Bool → Paged T
paged xs ms a = record { items = xs; own = ms; alone = a }

same : {T : Type 0} (xs ys : List T) (ms ns : List Bool) (a : Bool) → xs ≡ ys → ms ≡ ns → paged xs ms a ≡ paged ys ns a
same xs ys ms ns a e d = rw (e, d) refl

pub find-spot-requires-clause-within : goal.find-spot-requires-clause-within
find-spot-requires-clause-within g c = rw c.deref.ensures.value (own-within c.self.inside.pages.items c.args.i (rw (← c.self.view_is) at c.requires))

pub item_mut-requires-clause-own : goal.item_mut-requires-clause-own
item_mut-requires-clause-own g c =
    let old = c.self.inside.pages.items in
    let spot = rw c.deref.ensures.value at c.find-spot.ensures.spot in
    let within = rw c.deref.ensures.value at c.find-spot.ensures.page in
    sym (own_page_read old c.find-spot.result.page c.index_mut.result.now within c.index_mut.ensures.value)
    ∙ own-page old c.args.i c.find-spot.result.page c.find-spot.result.offset spot (rw (← c.self.view_is) at c.requires)

pub item_mut-requires-clause-place : goal.item_mut-requires-clause-place
item_mut-requires-clause-place g c =
    let within = rw c.deref.ensures.value at c.find-spot.ensures.page in
    let place = rw c.deref.ensures.value at c.find-spot.ensures.offset in
    let l = ap length (piece_read items_of c.self.inside.pages.items c.find-spot.result.page c.index_mut.result.now within c.index_mut.ensures.value) in
    omega (arith, l, place)

pub invariant_of-self-lent : goal.invariant_of-self-lent
invariant_of-self-lent g c x =
    let old = c.self.inside.pages.items in
    let k = c.find-spot.result.page in
    let j = c.find-spot.result.offset in
    let spot = rw c.deref.ensures.value at c.find-spot.ensures.spot in
    let within = rw c.deref.ensures.value at c.find-spot.ensures.page in
    let e = set_edited (changed_item j x) old k c.index_mut.result.now within c.index_mut.ensures.value in
    record {
      starts = rw e (c.self.invariant.starts ∙ sym (starts-same items_of (changed_item j x) (λ p. length-set (items_of p) j x) 0 old k));
      counted = rw (e, spot-set items_of (changed_item j x) old c.args.i k j x spot (λ p is. refl)) (c.self.invariant.counted ∙ sym (length-set (listed old) c.args.i x));
      alone = λ a. rw e (all-edited is_own (changed_item j x) (λ p h. refl) k old (c.self.invariant.alone a));
    }

pub returns : goal.returns
returns g c =
    let old = c.self.inside.pages.items in
    let k = c.find-spot.result.page in
    let j = c.find-spot.result.offset in
    let spot = rw c.deref.ensures.value at c.find-spot.ensures.spot in
    let within = rw c.deref.ensures.value at c.find-spot.ensures.page in
    let page = c.index_mut.result.now in
    let own = own-page old c.args.i k j spot (rw (← c.self.view_is) at c.requires) in (
      (
        refl,
        λ x.
            let e = set_edited (changed_item j x) old k page within c.index_mut.ensures.value in
            rw (← c.self.view_is) (same _ _ _ _ _ (ap listed e ∙ spot-set items_of (changed_item j x) old c.args.i k j x spot (λ p is. refl)) (ap marks e ∙ marks-changed old k j x within own)),
      ),
      record {
        writes_back = tt;
        value = rw (← c.self.view_is) (spot-get items_of old c.args.i k j spot ∙ ap (λ xs. slice_get xs j) (piece_read items_of old k page within c.index_mut.ensures.value) ∙ c.item_mut.ensures.value);
      },
    )
