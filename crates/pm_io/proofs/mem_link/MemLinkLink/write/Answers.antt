use Rattle.std.proofs.Common.{◌≤◌, length, arith, subst, ◌∙◌}
use Rattle.pm_io.specs.Devices.{FailingLink}
use Rattle.pm_io.proofs.mem_link.MemLinkLink.write.Goals as goal

pub returns-then-count-eq0-clause-told : goal.returns-then-count-eq0-clause-told
returns-then-count-eq0-clause-told c = λ _.
    let some = c.requires in
    let count = c.store-count.ensures.count in
    let none = c.if-count-eq0.true in
    let full : c.self.inside.room ≤ length c.self.inside.taken.items = omega (arith, some, count, none) in (
      λ idle. let e = c.next_call.ensures.idles.1 idle in let is = c.in-Work.is in cc (e, is),
      subst (λ (l : FailingLink). l.room ≤ length l.taken) (c.self.view_is ∙ c.next_call.ensures.calls) full,
    )
