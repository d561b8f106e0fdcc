use Rattle.std.proofs.Common.{◌≡◌, true, ap, sym, subst}
use Rattle.std.specs.List.{list_any}
use Rattle.std.specs.Option.{option_copied}
use Rattle.pm_model.specs.History.{Machine}
use Rattle.pm_model.specs.KeptReviews.{is_kept_of}
use Rattle.pm_model.specs.Reviews.{list_of}
use Rattle.pm_state.proofs.Listed.{stored-none, stored-some}
use Rattle.pm_state.proofs.state.State.list.Goals as goal

pub unreachable-requires : goal.unreachable-requires
unreachable-requires c =
    let s = c.self.inside in
    let kept = subst (λ (M : Machine). list_any (is_kept_of c.args.of.now) M.graph.kept ≡ true) (sym c.self.view_is) c.requires in
    stored-none s.lists s.graph c.args.of.now (option_copied c.list.result) c.self.invariant.listed kept c.list.ensures (ap option_copied c.in-None.is)

pub returns : goal.returns
returns c =
    let s = c.self.inside in
    let kept = subst (λ (M : Machine). list_any (is_kept_of c.args.of.now) M.graph.kept ≡ true) (sym c.self.view_is) c.requires in
    subst (λ (M : Machine). c.in-Some.list.now ≡ list_of M.graph c.args.of.now) c.self.view_is
    (stored-some s.lists s.graph c.args.of.now (option_copied c.list.result) c.self.invariant.listed kept c.list.ensures c.in-Some.list.now
    (ap option_copied c.in-Some.is))
