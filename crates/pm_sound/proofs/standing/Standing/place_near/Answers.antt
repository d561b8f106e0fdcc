use Rattle.std.proofs.Common.{sym}
use Rattle.pm_sound.proofs.Found.{called_at, place_at}
use Rattle.pm_sound.proofs.standing.Standing.place_near.Goals as goal

pub returns-in-Some-clause-kind : goal.returns-in-Some-clause-kind
returns-in-Some-clause-kind c = sym (called_at c.args.self.now c.args.likely c.args.name.now c.in-Some.kind c.requires c.in-Some.ensures)

pub returns-in-Some-clause-place : goal.returns-in-Some-clause-place
returns-in-Some-clause-place c = sym (place_at c.args.self.now c.args.likely c.args.name.now c.in-Some.kind c.requires c.in-Some.ensures)

pub returns-in-Some-kind_at-clause-kind : goal.returns-in-Some-kind_at-clause-kind
returns-in-Some-kind_at-clause-kind c =
    sym (called_at c.args.self.now c.saturating_add-next.result c.args.name.now c.in-Some-kind_at.kind c.requires c.in-Some-kind_at.ensures)

pub returns-in-Some-kind_at-clause-place : goal.returns-in-Some-kind_at-clause-place
returns-in-Some-kind_at-clause-place c =
    sym (place_at c.args.self.now c.saturating_add-next.result c.args.name.now c.in-Some-kind_at.kind c.requires c.in-Some-kind_at.ensures)
