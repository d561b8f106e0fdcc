-- Both words have the user attributes with associations that contain the user.
use Rattle.std.proofs.Common.{◌+◌, ◌*◌}
use Rattle.std.specs.List.{list_any}
use Rattle.pm_model.specs.Decision.{is_grantee}
use Rattle.pm_decide.proofs.Bits.{none-of, both-of}
use Rattle.pm_decide.proofs.words.holders_above.Goals as goal

pub returns-then-holders-eq0-clause-hits : goal.returns-then-holders-eq0-clause-hits
returns-then-holders-eq0-clause-hits g c =
    none-of c.holders-holders.result (λ i. list_any (is_grantee (64 * c.args.k + i)) (g.G.Grants.grantees c.args.grants.now))
    (λ i. (g.R.Reach.relation c.args.reach.now).below c.args.user (64 * c.args.k + i)) c.if-holders-eq0.true c.holders-holders.ensures

pub returns-clause-hits : goal.returns-clause-hits
returns-clause-hits g c =
    both-of c.holders-holders.result c.above.result (λ i. list_any (is_grantee (64 * c.args.k + i)) (g.G.Grants.grantees c.args.grants.now))
    (λ i. (g.R.Reach.relation c.args.reach.now).below c.args.user (64 * c.args.k + i)) c.holders-holders.ensures c.above.ensures.word
