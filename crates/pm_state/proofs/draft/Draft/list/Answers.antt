use Rattle.std.proofs.Common.{ap}
use Rattle.std.specs.Option.{option_copied}
use Rattle.pm_state.proofs.Listed.{stored-none, stored-some}
use Rattle.pm_state.proofs.draft.Draft.list.Goals as goal

pub unreachable-requires : goal.unreachable-requires
unreachable-requires c =
    stored-none c.in_ok-lists.field-0.now c.args.self.now.graph c.args.of.now (option_copied c.list.result) c.in_ok-lists.ensures.lists c.requires c.list.ensures
    (ap option_copied c.in-None.is)

pub returns-clause-list : goal.returns-clause-list
returns-clause-list c =
    stored-some c.in_ok-lists.field-0.now c.args.self.now.graph c.args.of.now (option_copied c.list.result) c.in_ok-lists.ensures.lists c.requires c.list.ensures
    c.in-Some.list.now (ap option_copied c.in-Some.is)
