-- The grants of the user attribute of the lowest bit come to the others.
use Rattle.std.proofs.Common.{ℕ, Option, length, ◌*◌, ◌+◌, ◌∙◌, arith}
use Rattle.pm_model.specs.declared.rights.Grantee.{Grantee}
use Rattle.pm_decide.specs.Hits.{in_word, some_of}
use Rattle.pm_decide.proofs.Hits.{found-in, hit-first, holders-left, no-hits}
use Rattle.pm_given.specs.Given.{some_at}
use Rattle.pm_given.specs.Told.{AreWithin, tells}
use Rattle.pm_given.proofs.Tells.{joins-more, joins-done}
use Rattle.pm_given.proofs.puts.put_word.Goals as goal

pub put_all-requires-clause-within : goal.put_all-requires-clause-within
put_all-requires-clause-within g c =
    let within = found-in (λ (x : Grantee). AreWithin (length c.args.own.now) x.grants) (64 * c.args.k + c.lowest-i.result)
    (g.G.Grants.grantees c.args.grants.now) c.grantee-grantee.result.now c.grantee-grantee.ensures c.requires.within in
    rw (c.as_slice.ensures, c.loop-left.invariant.own) within

pub loop-left-preserved : goal.loop-left-preserved
loop-left-preserved g c =
    let all = g.G.Grants.grantees c.args.grants.now in
    record {
      own = c.put_all.ensures.own ∙ c.loop-left.invariant.own;
      marks = c.put_all.ensures.marks ∙ c.loop-left.invariant.marks;
      holders = holders-left c.args.k c.loop-left.left c.lowest-i.result c.lowest-i.ensures.within c.lowest-i.ensures.set
          c.without_bit-left.result c.without_bit-left.ensures.rest all c.loop-left.invariant.holders;
      told = λ q p. joins-more (tells c.loop-left.own c.loop-left.marks q p) (some_at q p c.grantee-grantee.result.now)
          (some_of (in_word c.args.k c.without_bit-left.result) (some_at q p) all) (some_of (in_word c.args.k c.loop-left.left) (some_at q p) all) _ _
          (c.loop-left.invariant.told q p)
          (hit-first c.args.k c.loop-left.left c.lowest-i.result c.lowest-i.ensures.within c.lowest-i.ensures.set
          c.without_bit-left.result c.without_bit-left.ensures.rest all c.grantee-grantee.result.now c.grantee-grantee.ensures (some_at q p))
          (rw c.as_slice.ensures at (c.put_all.ensures.told q p));
    }

pub returns-clause-told : goal.returns-clause-told
returns-clause-told g c = λ q p.
    joins-done (tells c.loop-left.own c.loop-left.marks q p)
    (some_of (in_word c.args.k c.loop-left.left) (some_at q p) (g.G.Grants.grantees c.args.grants.now)) _ (c.loop-left.invariant.told q p)
    (no-hits (some_at q p) c.args.k c.loop-left.left (g.G.Grants.grantees c.args.grants.now) (omega (arith, c.loop-left-test.false)))
