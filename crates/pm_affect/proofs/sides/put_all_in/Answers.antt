use Rattle.std.proofs.Common.{refl}
use Rattle.pm_affect.specs.Puts.{with_all}
use Rattle.pm_affect.proofs.Edits.{edited-set, listed-set, on_ok-to, subjects-set}
use Rattle.pm_affect.proofs.sides.put_all_in.Goals as goal

pub returns-clause-ok : goal.returns-clause-ok
returns-clause-ok c = on_ok-to c.put_all.result _ _
    (λ h. edited-set (with_all c.args.row.now) c.args.i c.args.items.now.items c.index_mut-item.result.now _
    c.requires.place c.index_mut-item.ensures.value (rw h refl)) c.put_all.ensures.ok

pub returns-clause-listed : goal.returns-clause-listed
returns-clause-listed c =
    listed-set c.args.items.now.items c.args.i c.index_mut-item.result.now c.put_all.new.self c.requires.listed c.index_mut-item.ensures.value
    c.put_all.ensures.subject c.put_all.ensures.order

pub returns-clause-subjects : goal.returns-clause-subjects
returns-clause-subjects c =
    subjects-set c.args.items.now.items c.args.i c.index_mut-item.result.now c.put_all.new.self c.index_mut-item.ensures.value c.put_all.ensures.subject
