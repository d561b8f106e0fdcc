use Rattle.pm_oblig.proofs.table.Obligations.targets_of.Goals as goal

pub returns : goal.returns
returns c = rw (← c.self.view_is, c.find.ensures) (c.self.invariant.known c.args.operation)
