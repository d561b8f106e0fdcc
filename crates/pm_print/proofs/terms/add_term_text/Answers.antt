-- The words stand as they are.
use Rattle.std.proofs.Common.{ap, ◌∙◌}
use Rattle.json.specs.Print.{quoted}
use Rattle.pm_model.specs.declared.actions.Term.{Term}
use Rattle.pm_print.specs.Actions.{term_text}
use Rattle.pm_print.proofs.Appending.{adds-as}
use Rattle.pm_print.proofs.Texts.{event_user, event_target, fresh}
use Rattle.pm_print.proofs.terms.add_term_text.Goals as goal

pub returns-in-EventUser : goal.returns-in-EventUser
returns-in-EventUser c = adds-as _ _ _ _ _ (ap (λ (t : Term). quoted (term_text t)) c.in-EventUser.is ∙ event_user) c.put.ensures

pub returns-in-EventTarget : goal.returns-in-EventTarget
returns-in-EventTarget c = adds-as _ _ _ _ _ (ap (λ (t : Term). quoted (term_text t)) c.in-EventTarget.is ∙ event_target) c.put-in-EventTarget.ensures

pub returns-in-Fresh : goal.returns-in-Fresh
returns-in-Fresh c = adds-as _ _ _ _ _ (ap (λ (t : Term). quoted (term_text t)) c.in-Fresh.is ∙ fresh) c.put-in-Fresh.ensures
