use Rattle.std.proofs.Common.{◌≡◌, ◌∙◌, ◌++◌, [], filter, sym, ap, subst}
use Rattle.std.proofs.lemmas.List.{append-nil}
use Rattle.std.specs.Prelude.{OnOk}
use Rattle.pm_model.specs.Decision.{associations_of, is_grantee, of_grantee}
use Rattle.pm_drawing.specs.Gathered.{is_of_attribute}
use Rattle.pm_drawing.proofs.Gathering.{grants-of, none-filtered}
use Rattle.pm_drawing.proofs.associations.push_associations.Goals as goal

pub returns-then-is_holder : goal.returns-then-is_holder
returns-then-is_holder c =
    let gs = c.args.assoc.now.grantees in
    let g = c.grantee.result.now in
    let same : of_grantee g ≡ filter (is_of_attribute c.args.id) (associations_of gs) =
    sym (append-nil (of_grantee g)) ∙ ap associations_of (sym c.grantee.ensures) ∙ grants-of c.args.id gs in
    subst (λ l. OnOk c.push_grants.result (c.push_grants.new.list.items ≡ c.args.list.now.items ++ l)) same c.push_grants.ensures

pub returns : goal.returns
returns c =
    let gs = c.args.assoc.now.grantees in
    let none : filter (is_grantee c.args.id) gs ≡ [] = none-filtered (is_grantee c.args.id) gs (sym c.is_holder.ensures ∙ c.if-is_holder.false) in
    sym (append-nil c.args.list.now.items)
    ∙ ap (λ l. c.args.list.now.items ++ l) (ap associations_of (sym none) ∙ grants-of c.args.id gs)
