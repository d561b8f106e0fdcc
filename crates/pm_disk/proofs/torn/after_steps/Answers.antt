use Rattle.std.proofs.Common.{arith, take, subst, sym, List, ℕ}
use Rattle.pm_disk.specs.Steps.{Leads}
use Rattle.pm_disk.proofs.Stepping.{leads_next}
use Rattle.pm_disk.proofs.torn.after_steps.Goals as goal

pub loop-i-preserved : goal.loop-i-preserved
loop-i-preserved c =
    let steps = c.args.steps.now in
    let i = c.loop-i.i in
    let before : Leads (take i steps) c.args.synced.now c.deref.result.now =
    subst (λ (l : List ℕ). Leads (take i steps) c.args.synced.now l) (sym c.deref.ensures.value) c.loop-i.invariant in
    leads_next steps i _ c.args.synced.now c.deref.result.now c.in_ok-bytes-2.bytes.items (omega (arith, c.loop-i-test.true)) before c.in_ok-bytes-2.ensures
