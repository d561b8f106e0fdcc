use Rattle.std.proofs.Common.{◌≡◌, arith}
use Rattle.pm_pages.proofs.Owning.{own-there}
use Rattle.pm_pages.proofs.items.next_own.Goals as goal

pub returns-then-more-eq0-clause-own : goal.returns-then-more-eq0-clause-own
returns-then-more-eq0-clause-own g c = λ within.
    own-there c.args.pages.now c.loop-i.i c.find-spot.result.page c.find-spot.result.offset c.find-spot.ensures.spot (c.passed-more.ensures c.if-more-eq0.true)
