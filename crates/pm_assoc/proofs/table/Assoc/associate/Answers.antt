use Rattle.std.proofs.Common.{refl, ◌∙◌}
use Rattle.pm_model.specs.Decision.{associations_of}
use Rattle.pm_assoc.specs.Grantees.{association}
use Rattle.pm_model.proofs.Joined.{length-joined}
use Rattle.pm_assoc.proofs.Holding.{tells-added}
use Rattle.pm_assoc.proofs.table.Assoc.associate.Goals as goal

pub invariant_of-self-2 : goal.invariant_of-self-2
invariant_of-self-2 c = record {
  ordered = c.in_ok-add.ensures.ordered;
  counted = rw (c.in_ok-add.ensures.ok, length-joined (association c.args.ua (record { rights = c.args.rights; at = c.args.at })) (associations_of c.self.inside.grantees.items), c.self.invariant.counted) refl;
  holders = tells-added c.args.ua c.make_room.new.self c.insert.new.self c.self.inside.grantees.items c.add.new.grantees.items
      (λ n. c.in_ok-make_room.ensures.same n ∙ c.self.invariant.holders n) (rw c.number-2.ensures at c.insert.ensures) c.in_ok-add.ensures.holders;
}
