use Rattle.std.proofs.Common.{◌≡◌, ◌<◌, ◌∙◌, Bool, List, ap, length, set, slice_get, arith, refl}
use Rattle.pm_pages.specs.Leaves.{Leaved}
use Rattle.pm_pages.specs.Paged.{Row}
use Rattle.pm_pages.proofs.Leaves.{all-own-set, both-same, list-of, lists-set, own-leaf-of, own-page-of}
use Rattle.pm_pages.proofs.list_row.ListRow.edit.Goals as goal

abbrev row : {T : Type 0} → List (List T) → List Bool → Bool → Row T
row ls ms a = record { lists = ls; own = ms; alone = a }

same : {T : Type 0} (ks ls : List (List T)) (ms ns : List Bool) (a : Bool) → ks ≡ ls → ms ≡ ns → row ks ms a ≡ row ls ns a
same ks ls ms ns a e d = rw (e, d) refl

pub edit-requires : goal.edit-requires
edit-requires g c = own-page-of c.self.inside.leaves.items c.self.inside.leaves.own c.args.k (rw (← c.self.view_is) at c.requires.own)

pub item_mut-requires-clause-own : goal.item_mut-requires-clause-own
item_mut-requires-clause-own g c =
    own-leaf-of c.self.inside.leaves.items c.self.inside.leaves.own c.args.k c.edit.result.now (rw (← c.self.view_is) at c.requires.own) c.edit.ensures.value

pub item_mut-requires-clause-place : goal.item_mut-requires-clause-place
item_mut-requires-clause-place g c =
    let l = ap length (list-of c.self.inside.leaves.items c.args.k c.edit.result.now c.edit.ensures.value) in
    let p = rw (← c.self.view_is) at c.requires.place in
    omega (arith, l, p)

pub invariant_of-self-lent : goal.invariant_of-self-lent
invariant_of-self-lent g c x = λ a.
    let ls = c.self.inside.leaves.items in
    let own = own-leaf-of ls c.self.inside.leaves.own c.args.k c.edit.result.now (rw (← c.self.view_is) at c.requires.own) c.edit.ensures.value in
    ((c.self.invariant a).0, all-own-set ls c.args.k _ own (c.self.invariant a).1)

pub returns : goal.returns
returns g c =
    let ls = c.self.inside.leaves.items in
    let k = c.args.k in
    let j = c.args.j in
    let leaf = c.edit.result.now in
    let is = c.edit.ensures.value in (
      (
        refl,
        λ x.
            let new : Leaved g.row.T.Denot = record { items = set leaf.items j x; own = leaf.own } in
            rw (← c.self.view_is) (same _ _ _ _ _ (lists-set (λ l. set l j x) ls k leaf new is refl) (both-same ls c.self.inside.leaves.own k leaf new is refl)),
      ),
      record {
        writes_back = tt;
        value = rw (← c.self.view_is) (ap (λ xs. slice_get xs j) (list-of ls k leaf is) ∙ c.item_mut.ensures.value);
      },
    )
