use Rattle.std.proofs.Common.{◌∙◌, ◌+◌, sym, refl, arith}
use Rattle.pm_affect.specs.Puts.{with_put}
use Rattle.pm_affect.proofs.Edits.{mapped-all, mapped-step, mapped-end, length-edited}
use Rattle.pm_affect.proofs.sides.take_out.Goals as goal

pub loop-i-init : goal.loop-i-init
loop-i-init c = record {
  rest = mapped-all (with_put c.args.element 0) c.args.items.now.items;
  length = refl;
  listed = c.requires;
}

pub loop-i-preserved : goal.loop-i-preserved
loop-i-preserved c =
    let f = with_put c.args.element 0 in record {
      rest = rw c.in_ok-put_in.ensures.ok (mapped-step f c.loop-i.i (c.loop-i.i + 1) c.loop-i.items.items refl) ∙ c.loop-i.invariant.rest;
      length = rw c.in_ok-put_in.ensures.ok (length-edited f c.loop-i.i c.loop-i.items.items) ∙ c.loop-i.invariant.length;
      listed = c.put_in.ensures.listed;
    }

pub returns-clause-ok : goal.returns-clause-ok
returns-clause-ok c =
    sym (mapped-end (with_put c.args.element 0) c.loop-i.i c.loop-i.items.items (omega (arith, c.loop-i.invariant.length))) ∙ c.loop-i.invariant.rest
