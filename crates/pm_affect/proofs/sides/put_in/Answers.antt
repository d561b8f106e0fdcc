use Rattle.std.proofs.Common.{refl}
use Rattle.pm_affect.specs.Puts.{with_put}
use Rattle.pm_affect.proofs.Edits.{edited-set, listed-set, on_ok-to, subjects-set}
use Rattle.pm_affect.proofs.sides.put_in.Goals as goal

pub returns-clause-ok : goal.returns-clause-ok
returns-clause-ok c = on_ok-to c.put.result _ _
    (λ h. edited-set (with_put c.args.element c.args.rights) c.args.i c.args.items.now.items c.index_mut-item.result.now _
    c.requires.place c.index_mut-item.ensures.value (rw h refl)) c.put.ensures.ok

pub returns-clause-listed : goal.returns-clause-listed
returns-clause-listed c =
    listed-set c.args.items.now.items c.args.i c.index_mut-item.result.now c.put.new.self c.requires.listed c.index_mut-item.ensures.value
    c.put.ensures.subject c.put.ensures.order

pub returns-clause-subjects : goal.returns-clause-subjects
returns-clause-subjects c =
    subjects-set c.args.items.now.items c.args.i c.index_mut-item.result.now c.put.new.self c.index_mut-item.ensures.value c.put.ensures.subject
