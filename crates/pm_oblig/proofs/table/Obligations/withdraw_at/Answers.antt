use Rattle.pm_model.specs.Obligations.{max_obligations}
use Rattle.pm_oblig.proofs.Knowing.{few-removed}
use Rattle.pm_oblig.proofs.table.Obligations.withdraw_at.Goals as goal

pub invariant_of-self : goal.invariant_of-self
invariant_of-self c = record {
  few = few-removed c.take.result c.self.inside.items.items c.take.new.items.items c.args.index max_obligations
      (rw (← c.self.view_is) at c.requires) c.take.ensures.rest c.take.ensures.err c.self.invariant.few;
  known = c.take.ensures.known c.self.inside.known.items c.self.invariant.known;
}
