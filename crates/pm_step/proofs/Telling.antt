-- What a reply names is live.
use Rattle.std.proofs.Common.{is_some, subst, sym}
use Rattle.pm_model.specs.State.{State, element_at}
use Rattle.pm_model.specs.Answer.{answer, after}
use Rattle.pm_model.specs.History.{Machine, state_of}
use Rattle.pm_model.specs.Formed.{IsWellFormed}
use Rattle.pm_model.specs.Nameable.{IsNameable}
use Rattle.pm_model.specs.declared.requests.Entry.{Entry}
use Rattle.pm_model.specs.declared.replies.Reply.{Reply}
use Rattle.pm_laws.proofs.Nameable.{answer_nameable}
use Rattle.pm_machine.specs.Answered.{HasAnswered}

pub names-live : (old new : Machine) (e : Entry) (reply : Reply) → IsWellFormed old.graph → HasAnswered old new e reply →
    IsNameable (λ n. is_some (element_at new.graph.elements n)) reply
names-live old new e reply f h = subst (λ (T : State). IsNameable (λ n. is_some (element_at T.graph.elements n)) reply) (sym h.state)
    (subst (IsNameable (λ n. is_some (element_at (after (state_of old) (answer (state_of old) e.request)).graph.elements n))) (sym h.reply)
    (answer_nameable (state_of old) e.request f))
