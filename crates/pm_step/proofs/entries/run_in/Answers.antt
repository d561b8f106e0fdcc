use Rattle.pm_step.proofs.entries.run_in.Goals as goal

pub returns-clause-done : goal.returns-clause-done
returns-clause-done c w = rw (c.names_in.ensures, c.obligations-obligations.ensures) at (c.respond.ensures.done w)
