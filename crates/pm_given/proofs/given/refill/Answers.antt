-- The words that were used are emptied, and the others were empty.
use Rattle.std.proofs.Common.{◌≡◌, ◌*◌, ◌||◌, ℕ, Option, Bool, false, length, ap, ◌∙◌, arith}
use Rattle.std.specs.List.{list_any}
use Rattle.pm_given.specs.Given.{given, is_at}
use Rattle.pm_given.specs.Told.{AreTold, tells}
use Rattle.pm_given.proofs.Grants.{ends-within, nothing-told, told-marked}
use Rattle.pm_given.proofs.given.refill.Goals as goal

pub put_given-requires-clause-within : goal.put_given-requires-clause-within
put_given-requires-clause-within g c =
    ends-within (g.R.Reach.relation c.args.reach.now) (length c.clear.new.words) (g.G.Grants.grantees c.args.grants.now) c.requires.grants
    (rw c.clear.ensures.length c.requires.fits)

pub returns-clause-told : goal.returns-clause-told
returns-clause-told g c = λ q p.
    let L = given (g.R.Reach.relation c.args.reach.now).below c.args.user (g.G.Grants.grantees c.args.grants.now) in
    let none : tells c.clear.new.words c.clear-2.new.words q p ≡ false = nothing-told c.args.own.now c.args.marks.now c.clear.new.words c.clear-2.new.words c.args.words
    c.requires.rest c.requires.marked c.clear.ensures.empty c.clear.ensures.rest c.clear-2.ensures.empty c.clear-2.ensures.rest q p in
    c.put_given.ensures.told q p ∙ ap (λ b. b || list_any (is_at q p) L) none

pub returns-clause-marked : goal.returns-clause-marked
returns-clause-marked g c =
    let L = given (g.R.Reach.relation c.args.reach.now).below c.args.user (g.G.Grants.grantees c.args.grants.now) in
    told-marked L c.put_given.new.own c.put_given.new.marks (λ q p.
    let none : tells c.clear.new.words c.clear-2.new.words q p ≡ false = nothing-told c.args.own.now c.args.marks.now c.clear.new.words c.clear-2.new.words c.args.words
    c.requires.rest c.requires.marked c.clear.ensures.empty c.clear.ensures.rest c.clear-2.ensures.empty c.clear-2.ensures.rest q p in
    c.put_given.ensures.told q p ∙ ap (λ b. b || list_any (is_at q p) L) none)
