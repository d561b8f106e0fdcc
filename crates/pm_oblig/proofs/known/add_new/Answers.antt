use Rattle.std.proofs.Common.{ap}
use Rattle.std.proofs.lemmas.Result.{on_ok_weaker, on_err_weaker}
use Rattle.pm_pages.specs.Paged.{Paged}
use Rattle.pm_oblig.specs.declared.targets.Targets.{Targets}
use Rattle.pm_oblig.proofs.Knowing.{knows-more, told-pushed}
use Rattle.pm_oblig.proofs.known.add_new.Goals as goal

pub returns-clause-more : goal.returns-clause-more
returns-clause-more c =
    knows-more c.args.known.now.items c.in_ok-targets.targets c.push.new.self.items c.push.result c.push.ensures.items
    (on_err_weaker c.push.result (ap (λ (p : Paged Targets). p.items)) c.push.ensures.err)

pub returns-clause-told : goal.returns-clause-told
returns-clause-told c =
    on_ok_weaker c.push.result
    (told-pushed c.args.known.now.items c.in_ok-targets.targets c.push.new.self.items c.args.pattern.now.on c.args.pattern.now.target
    c.in_ok-targets.ensures.operation c.requires c.in_ok-targets.ensures.told)
    c.push.ensures.items
