use Rattle.std.proofs.Common.{drop, ap, sym, ◌∙◌}
use Rattle.pm_io.specs.Devices.{FailingLink}
use Rattle.pm_io.proofs.mem_link.MemLinkLink.read.Goals as goal

pub returns-then-count-eq0-clause-read : goal.returns-then-count-eq0-clause-read
returns-then-count-eq0-clause-read c =
    let none = c.give_most-count.ensures.end c.if-count-eq0.true in
    let same = c.self.view_is ∙ c.next_call.ensures.calls in
    (none.1 ∙ sym none.0 ∙ ap (λ (l : FailingLink). l.left) same, none.1)

pub returns-then-count-eq0-clause-told : goal.returns-then-count-eq0-clause-told
returns-then-count-eq0-clause-told c =
    let none = c.give_most-count.ensures.end c.if-count-eq0.true in
    let same = c.self.view_is ∙ c.next_call.ensures.calls in (
      sym (ap (λ (l : FailingLink). l.left) same) ∙ none.0,
      c.next_most-most.ensures.rest ∙ ap (λ (l : FailingLink). drop 1 l.pieces) same,
    )
