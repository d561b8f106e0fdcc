use Rattle.pm_admin.proofs.FirstDenied.{inc-denied, exc-left}
use Rattle.pm_admin.proofs.capabilities.denied_prohibit.Goals as goal

pub returns-in-Some-denied_on : goal.returns-in-Some-denied_on
returns-in-Some-denied_on c =
    inc-denied c.args.graph.now c.args.user c.args.process c.args.item.now c.subject_element-subject.result
    c.in-Some-denied_on.why c.subject_element-subject.ensures.value c.in-None.ensures
    c.in-Some-denied_on.ensures

pub returns : goal.returns
returns c =
    exc-left c.args.graph.now c.args.user c.args.process c.args.item.now c.subject_element-subject.result
    c.denied_on-2.result c.subject_element-subject.ensures.value c.in-None.ensures
    c.in-None-denied_on.ensures c.denied_on-2.ensures
