use Rattle.std.proofs.Common.{sym, arith}
use Rattle.pm_decide.proofs.Fakes.{few-added, once-added}
use Rattle.pm_rules_tests.proofs.decide.Associations.add.Goals as goal

pub invariant_of-self : goal.invariant_of-self
invariant_of-self c = record {
  few = few-added c.push.result c.args.self.now.list c.push.new.self c.args.grantee c.push.ensures.ok c.push.ensures.err
      (omega (arith, c.if-number-ge16384.false, c.number.ensures)) c.args.self.now.few;
  once = once-added c.push.result c.args.self.now.list c.push.new.self c.args.grantee c.push.ensures.ok c.push.ensures.err
      (sym (rw c.as_slice.ensures at c.if-is_among.ensures)) c.args.self.now.once;
}
