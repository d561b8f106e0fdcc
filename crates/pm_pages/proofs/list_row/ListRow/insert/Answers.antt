use Rattle.std.proofs.Common.{◌≡◌, ◌<◌, ◌∙◌, ap, insert, length, map, set, true, refl, arith}
use Rattle.std.specs.List.{list_all}
use Rattle.std.proofs.lemmas.List.{length-map}
use Rattle.std.proofs.lemmas.Result.{on_ok_weaker, on_err_weaker}
use Rattle.pm_pages.specs.Leaves.{Leaved, held, is_own_leaf}
use Rattle.pm_pages.specs.Listed.{edited}
use Rattle.pm_pages.proofs.Changed.{either_way}
use Rattle.pm_pages.proofs.Leaves.{all-own-at, all-own-set, keeps-pages, keeps-put, list-of, lists-same, lists-set, own-set}
use Rattle.pm_pages.proofs.list_row.ListRow.insert.Goals as goal

pub returns-in_err-own_at-clause-keeps : goal.returns-in_err-own_at-clause-keeps
returns-in_err-own_at-clause-keeps g c =
    let e = c.in_err-own_at.ensures in
    rw (← c.self.view_is) (λ k h. rw e.items (keeps-pages c.self.inside.leaves.items c.self.inside.leaves.own c.own_at.new.self.own e.keeps k h))

pub insert-requires : goal.insert-requires
insert-requires g c =
    let l = ap length (list-of c.own_at.new.self.items c.args.k c.edit.result.now c.edit.ensures.value) in
    let p = rw (← c.self.view_is, ← c.in_ok-own_at.ensures.items) at c.requires.place in
    omega (arith, l, p)

pub invariant_of-self-2 : goal.invariant_of-self-2
invariant_of-self-2 g c = λ a.
    let ls = c.own_at.new.self.items in
    let leaf = c.edit.result.now in
    let all : list_all is_own_leaf ls ≡ true = rw c.in_ok-own_at.ensures.items (c.self.invariant a).1 in (
      c.in_ok-own_at.ensures.alone ∙ (c.self.invariant a).0,
      either_way c.insert.result c.insert.new.self _ leaf (λ (l : Leaved g.row.T.Denot). list_all is_own_leaf (set ls c.args.k l) ≡ true) c.insert.ensures.ok c.insert.ensures.err
          (all-own-set ls c.args.k _ refl all) (all-own-set ls c.args.k leaf (all-own-at ls c.args.k leaf all c.edit.ensures.value) all),
    )

pub returns-clause-lists : goal.returns-clause-lists
returns-clause-lists g c =
    let ls = c.own_at.new.self.items in
    let leaf = c.edit.result.now in
    rw (← c.self.view_is, ← c.in_ok-own_at.ensures.items)
    (on_ok_weaker c.insert.result
    (λ done. lists-set (λ l. insert l c.args.j c.args.item) ls c.args.k leaf c.insert.new.self c.edit.ensures.value (ap held done)) c.insert.ensures.ok)

pub returns-clause-keeps : goal.returns-clause-keeps
returns-clause-keeps g c =
    let ls = c.own_at.new.self.items in
    let leaf = c.edit.result.now in
    let own = on_ok_weaker c.insert.result (λ done. ap (λ (l : Leaved g.row.T.Denot). l.own) done) c.insert.ensures.ok in
    rw (← c.self.view_is, ← c.in_ok-own_at.ensures.items)
    (λ k h. keeps-put c.insert.result ls c.self.inside.leaves.own c.own_at.new.self.own c.args.k leaf c.insert.new.self c.edit.ensures.value own c.insert.ensures.err c.in_ok-own_at.ensures.keeps k h)

pub returns-clause-own : goal.returns-clause-own
returns-clause-own g c =
    let ls = c.own_at.new.self.items in
    let n = ap length c.in_ok-own_at.ensures.items in
    let m = length-map c.self.inside.leaves.items held in
    let w = rw (← c.self.view_is) at c.requires.list in
    let within : c.args.k < length ls = omega (arith, n, m, w) in
    on_ok_weaker c.insert.result (λ done. own-set ls c.own_at.new.self.own c.args.k c.insert.new.self within c.in_ok-own_at.ensures.ok (ap (λ (l : Leaved g.row.T.Denot). l.own) done)) c.insert.ensures.ok

pub returns-clause-err : goal.returns-clause-err
returns-clause-err g c =
    let ls = c.own_at.new.self.items in
    rw (← c.self.view_is, ← c.in_ok-own_at.ensures.items)
    (on_err_weaker c.insert.result (λ same. lists-same ls c.args.k c.edit.result.now c.insert.new.self c.edit.ensures.value (ap held same)) c.insert.ensures.err)
