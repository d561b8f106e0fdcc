use Rattle.pm_program.proofs.Exported.{reached-export}
use Rattle.pm_program.proofs.exporting.make_document.Goals as goal

pub returns-in-Ok-text_of-clause-ok : goal.returns-in-Ok-text_of-clause-ok
returns-in-Ok-text_of-clause-ok g c =
    reached-export _ _ _ (g.M.Answerer.machine c.run_unheard.new.machine) _ c.in_ok-run_unheard.ensures.ok c.in_ok-run_unheard.ensures.end c.in-Ok-text_of.ensures
