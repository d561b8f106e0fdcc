-- The classes that are left are those that contain the element and aren't met, and the lowest bit is the first of them.
use Rattle.std.proofs.Common.{ℕ, Bool, sym, ◌∙◌, ◌&&◌, not, refl}
use Rattle.std.proofs.lemmas.Option.{slice_get_read}
use Rattle.pm_model.specs.Decision.{is_met, associations_of}
use Rattle.pm_decide.proofs.Firsts.{find-filter}
use Rattle.pm_decide.proofs.Unmet.{those-live, left-those, those-within, none-left, lowest-first}
use Rattle.pm_decide.proofs.classes.lacking_among.Goals as goal

pub left_by_user-left-requires-clause-unmet : goal.left_by_user-left-requires-clause-unmet
left_by_user-left-requires-clause-unmet g c =
    let relation = g.R.Reach.relation c.args.reach.now in
    rw c.containing-unmet.ensures.same (those-live relation (relation.below c.args.element) c.args.classes.now c.containing-unmet.result
    c.requires.asked.classes c.containing-unmet.ensures.answer)

pub returns-then-left-eq0-clause-answer : goal.returns-then-left-eq0-clause-answer
returns-then-left-eq0-clause-answer g c =
    let below = (g.R.Reach.relation c.args.reach.now).below in
    let met : ℕ → Bool = is_met below (associations_of (g.G.Grants.grantees c.args.grants.now)) c.args.user c.args.right c.args.element in
    let within : ℕ → Bool = below c.args.element in
    sym (find-filter within (λ pc. not (met pc)) c.args.classes.now
    ∙ none-left (λ pc. within pc && not (met pc)) c.args.classes.now c.left_by_user-left.result
    (left-those within met c.args.classes.now c.containing-unmet.result c.left_by_user-left.result c.containing-unmet.ensures.answer
    (rw c.containing-unmet.ensures.same at c.left_by_user-left.ensures.left)) c.requires.few c.if-left-eq0.true)

pub bounds-classes-lowest : goal.bounds-classes-lowest
bounds-classes-lowest g c =
    let below = (g.R.Reach.relation c.args.reach.now).below in
    let met : ℕ → Bool = is_met below (associations_of (g.G.Grants.grantees c.args.grants.now)) c.args.user c.args.right c.args.element in
    let within : ℕ → Bool = below c.args.element in
    those-within (λ pc. within pc && not (met pc)) c.args.classes.now c.left_by_user-left.result
    (left-those within met c.args.classes.now c.containing-unmet.result c.left_by_user-left.result c.containing-unmet.ensures.answer
    (rw c.containing-unmet.ensures.same at c.left_by_user-left.ensures.left)) c.lowest.result c.lowest.ensures.within c.lowest.ensures.set

pub returns-clause-answer : goal.returns-clause-answer
returns-clause-answer g c =
    let below = (g.R.Reach.relation c.args.reach.now).below in
    let met : ℕ → Bool = is_met below (associations_of (g.G.Grants.grantees c.args.grants.now)) c.args.user c.args.right c.args.element in
    let within : ℕ → Bool = below c.args.element in
    let left = left-those within met c.args.classes.now c.containing-unmet.result c.left_by_user-left.result c.containing-unmet.ensures.answer
    (rw c.containing-unmet.ensures.same at c.left_by_user-left.ensures.left) in
    let there = those-within (λ pc. within pc && not (met pc)) c.args.classes.now c.left_by_user-left.result left c.lowest.result
    c.lowest.ensures.within c.lowest.ensures.set in
    sym (find-filter within (λ pc. not (met pc)) c.args.classes.now
    ∙ lowest-first (λ pc. within pc && not (met pc)) c.args.classes.now c.left_by_user-left.result left c.lowest.result
    c.index-classes-lowest.result c.lowest.ensures.within c.lowest.ensures.set c.lowest.ensures.first
    (slice_get_read c.args.classes.now _ _ _ refl there c.index-classes-lowest.is))
