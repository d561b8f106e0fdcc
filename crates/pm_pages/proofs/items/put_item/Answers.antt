use Rattle.std.proofs.Common.{◌≡◌, ◌≤◌, ◌+◌, true, length, arith, refl}
use Rattle.std.proofs.lemmas.Result.{on_ok_weaker}
use Rattle.pm_pages.specs.Listed.{items_of, is_own, all_own, with_item}
use Rattle.pm_pages.proofs.Spots.{spot-inserted}
use Rattle.pm_pages.proofs.Changed.{either_way, length-edited, all-edited, listed-split, own-split}
use Rattle.pm_pages.proofs.Owning.{own-edited, longer, own-halved}
use Rattle.pm_pages.proofs.items.put_item.Goals as goal

pub returns-then-items-room-clause-items : goal.returns-then-items-room-clause-items
returns-then-items-room-clause-items g c = λ i s.
    on_ok_weaker c.insert_at.result (λ done. rw done
    (spot-inserted items_of (with_item c.args.spot.offset c.args.item) c.args.pages.now.items i c.args.spot.page c.args.spot.offset c.args.item s (λ p is. refl))) c.insert_at.ensures.pages

pub returns-then-items-room-clause-pages : goal.returns-then-items-room-clause-pages
returns-then-items-room-clause-pages g c =
    let e = c.insert_at.ensures in
    let l = length-edited (with_item c.args.spot.offset c.args.item) c.args.spot.page c.args.pages.now.items in
    either_way c.insert_at.result _ _ _ (λ ps. length ps ≤ length c.args.pages.now.items + 1) e.pages e.err (omega (arith, l)) (omega arith)

pub returns-then-items-room-clause-stays : goal.returns-then-items-room-clause-stays
returns-then-items-room-clause-stays g c = λ all.
    let e = c.insert_at.ensures in
    either_way c.insert_at.result _ _ _ (λ ps. all_own ps ≡ true) e.pages e.err
    (all-edited is_own (with_item c.args.spot.offset c.args.item) (λ p h. refl) c.args.spot.page c.args.pages.now.items all) all

pub returns-clause-items : goal.returns-clause-items
returns-clause-items g c = λ i s. on_ok_weaker c.split_at.result (λ split. listed-split _ _ i _ _ c.args.item s split) c.split_at.ensures.pages

pub returns-clause-stays : goal.returns-clause-stays
returns-clause-stays g c = λ all. own-split c.split_at.result _ _ _ _ _ c.split_at.ensures.pages c.split_at.ensures.err all

pub returns-then-items-room-clause-own : goal.returns-then-items-room-clause-own
returns-then-items-room-clause-own g c = λ i s.
    on_ok_weaker c.insert_at.result (λ done. rw done
    (own-edited (with_item c.args.spot.offset c.args.item) c.args.spot.offset (λ p. refl) (λ p w. longer c.args.spot.offset c.args.item p w)
    c.args.pages.now.items i c.args.spot.page c.requires.page s)) c.insert_at.ensures.pages

pub returns-clause-own : goal.returns-clause-own
returns-clause-own g c = λ i s. on_ok_weaker c.split_at.result (λ split. own-halved _ _ i _ _ c.args.item s split) c.split_at.ensures.pages
