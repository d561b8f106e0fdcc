use Rattle.std.proofs.Common.{◌≡◌, ◌∙◌, refl, sym}
use Rattle.std.proofs.lemmas.Slice.Eq.{slice_eq-Decides}
use Rattle.pm_affect.proofs.Merging.{pair-decides, put_all-order}
use Rattle.pm_affect.proofs.pairs.Pairs.merge.Goals as goal

pub returns-clause-order : goal.returns-clause-order
returns-clause-order c =
    rw (c.in_ok-self.ensures, c.in_ok-list.ensures, c.list.ensures) (put_all-order c.args.row.now c.args.self.now c.requires.order)

pub returns-then-eq-clause-ok : goal.returns-then-eq-clause-ok
returns-then-eq-clause-ok c =
    let same : c.as_slice.result.now ≡ c.as_slice-2.result.now = (slice_eq-Decides pair-decides _ _ _ refl).0 (sym c.if-eq.ensures) in
    let merged = rw c.list.ensures at c.in_ok-list.ensures in
    sym c.list-2.ensures ∙ sym c.as_slice-2.ensures ∙ sym same ∙ c.as_slice.ensures ∙ merged
