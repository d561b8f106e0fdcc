-- A last change is in no list.
use Rattle.pm_model.specs.History.{replay}
use Rattle.pm_state.proofs.Listed.{if-set}
use Rattle.pm_state.proofs.NamesKept.{names-set}
use Rattle.pm_state.proofs.draft.Draft.set_last.Goals as goal

pub invariant_of-self : goal.invariant_of-self
invariant_of-self c =
    let d = c.self.inside in
    let kept = c.self.invariant in
    record {
      legal = kept.legal;
      limit = kept.limit;
      few = kept.few;
      were = kept.were;
      listed = if-set d.lists d.graph c.set_last.new.self c.args.place c.args.version c.args.changes (rw (← c.self.view_is) at c.requires) c.set_last.ensures kept.listed;
      names = λ no.
          names-set (replay d.history.entries).graph d.graph c.set_last.new.self c.args.place c.args.version c.args.changes (rw (← c.self.view_is) at c.requires) c.set_last.ensures (kept.names no);
    }
