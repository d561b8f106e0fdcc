use Rattle.std.proofs.Common.{◌≡◌, ◌-◌, true, length, ap, arith, refl}
use Rattle.std.proofs.lemmas.Result.{on_ok_weaker}
use Rattle.pm_pages.specs.Listed.{items_of, is_own, all_own, starts_from, with_item, IsOwnAt}
use Rattle.pm_pages.proofs.Spots.{piece_read, starts-last}
use Rattle.pm_pages.proofs.Changed.{either_way, pushed-last, all-edited}
use Rattle.pm_pages.proofs.Owning.{keeps-pushed, own-pushed}
use Rattle.pm_pages.proofs.items.push_last.Goals as goal

pub insert_at-requires-clause-place : goal.insert_at-requires-clause-place
insert_at-requires-clause-place g c =
    let l = ap length (piece_read items_of c.args.pages.now.items (c.len-k.result - 1) c.index-page.result.now (omega (arith, c.len-k.ensures, c.requires)) c.index-page.ensures) in
    let m = ap length c.items-end.ensures in
    omega (arith, l, m)

pub returns-clause-items : goal.returns-clause-items
returns-clause-items g c =
    let l = ap length (piece_read items_of c.args.pages.now.items (c.len-k.result - 1) c.index-page.result.now (omega (arith, c.len-k.ensures, c.requires)) c.index-page.ensures) in
    let m = ap length c.items-end.ensures in
    on_ok_weaker c.insert_at.result (λ done. rw done
    (pushed-last items_of (with_item (length c.items-end.result.now) c.args.item) c.args.pages.now.items (c.len-k.result - 1) (length c.items-end.result.now) c.args.item
    (omega (arith, c.len-k.ensures, c.requires)) (omega (arith, l, m)) (λ p. refl))) c.insert_at.ensures.pages

pub returns-clause-starts : goal.returns-clause-starts
returns-clause-starts g c =
    let e = c.insert_at.ensures in
    either_way c.insert_at.result _ _ _ (λ ps. starts_from items_of 0 ps ≡ starts_from items_of 0 c.args.pages.now.items) e.pages e.err
    (starts-last items_of (with_item (length c.items-end.result.now) c.args.item) 0 c.args.pages.now.items (c.len-k.result - 1) (omega (arith, c.len-k.ensures, c.requires))) refl

pub returns-clause-stays : goal.returns-clause-stays
returns-clause-stays g c = λ all.
    let e = c.insert_at.ensures in
    either_way c.insert_at.result _ _ _ (λ ps. all_own ps ≡ true) e.pages e.err
    (all-edited is_own (with_item (length c.items-end.result.now) c.args.item) (λ p h. refl) (c.len-k.result - 1) c.args.pages.now.items all) all

pub returns-clause-keeps : goal.returns-clause-keeps
returns-clause-keeps g c = λ i own.
    let e = c.insert_at.ensures in
    let l = ap length (piece_read items_of c.args.pages.now.items (c.len-k.result - 1) c.index-page.result.now (omega (arith, c.len-k.ensures, c.requires)) c.index-page.ensures) in
    let m = ap length c.items-end.ensures in
    either_way c.insert_at.result _ _ _ (λ ps. IsOwnAt ps i) e.pages e.err
    (keeps-pushed c.args.pages.now.items (c.len-k.result - 1) (length c.items-end.result.now) c.args.item (omega (arith, c.len-k.ensures, c.requires)) (omega (arith, l, m)) i own) own

pub returns-clause-own : goal.returns-clause-own
returns-clause-own g c =
    let l = ap length (piece_read items_of c.args.pages.now.items (c.len-k.result - 1) c.index-page.result.now (omega (arith, c.len-k.ensures, c.requires)) c.index-page.ensures) in
    let m = ap length c.items-end.ensures in
    on_ok_weaker c.insert_at.result (λ done. rw done
    (own-pushed c.args.pages.now.items (c.len-k.result - 1) (length c.items-end.result.now) c.args.item (omega (arith, c.len-k.ensures, c.requires)) (omega (arith, l, m)))) c.insert_at.ensures.pages
