use Rattle.std.proofs.Common.{◌≡◌, true, subst, sym}
use Rattle.std.specs.List.{list_any}
use Rattle.std.proofs.lemmas.Bool.{not-true}
use Rattle.pm_model.specs.History.{replay}
use Rattle.pm_model.specs.KeptReviews.{is_kept_of}
use Rattle.pm_model.specs.Reviews.{list_of}
use Rattle.pm_state.specs.Drafted.{Drafted}
use Rattle.pm_state.proofs.Listed.{list-stays}
use Rattle.pm_state.proofs.draft.Draft.keeps_list.Goals as goal

pub returns-in-Some : goal.returns-in-Some
returns-in-Some c = λ yes.
    let d = c.self.inside in
    let of = c.args.of.now in
    let L = c.in-Some.lists in
    let kept = subst (λ (D : Drafted). list_any (is_kept_of of) D.graph.kept ≡ true) (sym c.self.view_is) c.requires in
    subst (λ (D : Drafted). list_of (replay D.history).graph of ≡ list_of D.graph of) c.self.view_is
    (list-stays L (replay d.history.entries).graph d.graph of (rw c.in-Some.is at c.self.invariant.listed) kept (rw c.in-Some.is at c.self.invariant.were)
    (c.is_written.ensures (not-true c.is_written.result yes)))
