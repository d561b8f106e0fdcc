use Rattle.std.proofs.Common.{sym, ap, subst}
use Rattle.pm_model.specs.History.{replay}
use Rattle.pm_model.specs.State.{Graph, State}
use Rattle.pm_affect.specs.Right.{WereLists}
use Rattle.pm_state.proofs.NamesKept.{same-names}
use Rattle.pm_state.proofs.draft.Draft.begun.Goals as goal

pub invariant_of-result : goal.invariant_of-result
invariant_of-result c = record {
  legal = c.requires.replayed.legal;
  limit = c.requires.limit;
  listed = c.requires.listed;
  were = subst (λ (G : Graph). WereLists G c.args.lists) (sym (ap (λ (S : State). S.graph) c.requires.replayed.content)) c.requires.were;
  few = search;
  names = λ no. same-names (replay c.args.history.entries).graph c.args.graph (sym (ap (λ (S : State). S.graph.elements) c.requires.replayed.content));
}
