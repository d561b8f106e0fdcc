use Rattle.std.proofs.Common.{◌≡◌, ◌<◌, ◌/◌, ◌%◌, ◌∙◌, Bool, List, ap, length, length-set, refl, set, sym}
use Rattle.pm_pages.specs.Leaves.{all_in, marks_in}
use Rattle.pm_pages.specs.Paged.{Paged}
use Rattle.pm_pages.proofs.Leaves.{full-edited, mark-list, mark-within, marks-edited, spot-in}
use Rattle.pm_pages.proofs.Spots.{spot-get, spot-set, spot-within}
use Rattle.pm_pages.proofs.leaf_list.LeafList.edit.Goals as goal

abbrev paged : {T : Type 0} → List T → List Bool → Bool → Paged T
paged xs ms a = record { items = xs; own = ms; alone = a }

same : {T : Type 0} (xs ys : List T) (ms ns : List Bool) (a : Bool) → xs ≡ ys → ms ≡ ns → paged xs ms a ≡ paged ys ns a
same xs ys ms ns a e d = rw (e, d) refl

pub edit-requires-clause-own : goal.edit-requires-clause-own
edit-requires-clause-own g c =
    let lists = c.self.inside.row.lists in
    let own = rw (← c.self.view_is) at c.requires in
    let s = spot-in lists c.args.i c.self.invariant.full (mark-within lists c.self.inside.row.own c.args.i own) in
    mark-list lists c.self.inside.row.own c.args.i (c.args.i / 16) (c.args.i % 16) s own

pub edit-requires-clause-place : goal.edit-requires-clause-place
edit-requires-clause-place g c =
    let lists = c.self.inside.row.lists in
    let own = rw (← c.self.view_is) at c.requires in
    let s = spot-in lists c.args.i c.self.invariant.full (mark-within lists c.self.inside.row.own c.args.i own) in
    spot-within (λ list. list) lists c.args.i (c.args.i / 16) (c.args.i % 16) s

pub invariant_of-self-lent : goal.invariant_of-self-lent
invariant_of-self-lent g c x =
    let lists = c.self.inside.row.lists in
    let own = rw (← c.self.view_is) at c.requires in
    let k = c.args.i / 16 in
    let j = c.args.i % 16 in
    let s = spot-in lists c.args.i c.self.invariant.full (mark-within lists c.self.inside.row.own c.args.i own) in
    record {
      counted = c.self.invariant.counted ∙ sym (length-set (all_in lists) c.args.i x) ∙ ap length (sym (spot-set (λ list. list) (λ l. set l j x) lists c.args.i k j x s (λ p is. refl)));
      full = full-edited (λ l. set l j x) (λ l. length-set l j x) k lists c.self.invariant.full;
    }

pub returns : goal.returns
returns g c =
    let lists = c.self.inside.row.lists in
    let marks = c.self.inside.row.own in
    let own = rw (← c.self.view_is) at c.requires in
    let k = c.args.i / 16 in
    let j = c.args.i % 16 in
    let s = spot-in lists c.args.i c.self.invariant.full (mark-within lists marks c.args.i own) in (
      (
        refl,
        λ x.
            rw (← c.self.view_is)
            (same _ _ _ _ _ (spot-set (λ list. list) (λ l. set l j x) lists c.args.i k j x s (λ p is. refl)) (marks-edited (λ l. set l j x) (λ l. length-set l j x) k lists marks)),
      ),
      record {
        writes_back = tt;
        value = rw (← c.self.view_is) (spot-get (λ list. list) lists c.args.i k j s ∙ c.edit.ensures.value);
      },
    )
