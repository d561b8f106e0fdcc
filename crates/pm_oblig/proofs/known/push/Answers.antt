use Rattle.std.proofs.Common.{ap}
use Rattle.std.proofs.lemmas.Result.{on_err_weaker}
use Rattle.pm_model.specs.declared.obligations.Obligation.{Obligation}
use Rattle.pm_pages.specs.Paged.{Paged}
use Rattle.pm_oblig.proofs.Knowing.{known-more, known-pushed}
use Rattle.pm_oblig.proofs.known.push.Goals as goal

pub returns-in_err-make_known-clause-known : goal.returns-in_err-make_known-clause-known
returns-in_err-make_known-clause-known c =
    known-more c.args.items.now.items c.args.known.now.items c.make_known.new.known.items c.make_known.ensures.more c.requires

pub returns-clause-known : goal.returns-clause-known
returns-clause-known c =
    known-pushed c.args.items.now.items c.args.item c.make_known.new.known.items c.push.new.self.items c.push.result c.push.ensures.items
    (on_err_weaker c.push.result (ap (λ (p : Paged Obligation). p.items)) c.push.ensures.err)
    (known-more c.args.items.now.items c.args.known.now.items c.make_known.new.known.items c.make_known.ensures.more c.requires)
    c.in_ok-make_known.ensures.told
