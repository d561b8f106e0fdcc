use Rattle.std.proofs.Common.{sym}
use Rattle.pm_oblig.proofs.known.make_known.Goals as goal

pub returns-in-Some-clause-told : goal.returns-in-Some-clause-told
returns-in-Some-clause-told c = c.add_at.ensures.told c.args.pattern.now.on (sym c.in-Some.ensures.value)
