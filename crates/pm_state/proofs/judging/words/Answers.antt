-- Each word more has a number that is live.
use Rattle.std.proofs.Common.{◌*◌, arith, sym, ◌∙◌}
use Rattle.pm_state.proofs.Listing.{least-above, least-past}
use Rattle.pm_state.proofs.judging.words.Goals as goal

pub loop-id-preserved : goal.loop-id-preserved
loop-id-preserved c =
    let few = c.in-Some.ensures.few in
    rw c.number.ensures (omega (arith, few))

pub loop-id-smaller : goal.loop-id-smaller
loop-id-smaller c =
    let above = least-above c.elements-elements.result.now.elements (64 * c.loop-id.words) c.in-Some.id c.in-Some.ensures.number in
    let few = c.in-Some.ensures.few in
    rw c.number.ensures (omega (arith, above, few))

pub returns-clause-fits : goal.returns-clause-fits
returns-clause-fits c =
    least-past c.args.graph.now.elements (64 * c.loop-id.words)
    (rw (c.elements-elements.ensures.elements) at (sym c.in_default.is ∙ c.next.ensures.number))
