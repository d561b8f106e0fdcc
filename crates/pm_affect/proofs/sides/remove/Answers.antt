use Rattle.std.proofs.Common.{◌≡◌, rules, sym, subst}
use Rattle.std.proofs.lemmas.Fn.{filter_same}
use Rattle.pm_affect.specs.Lists.{AreListed, without_list}
use Rattle.pm_affect.proofs.Edits.{listed-without}
use Rattle.pm_affect.proofs.sides.remove.Goals as goal

pub returns-clause-rest : goal.returns-clause-rest
returns-clause-rest c = filter_same _ _ _ (λ x b f' k. search rules) _ _ c.retain.ensures.filtered

pub returns-clause-listed : goal.returns-clause-listed
returns-clause-listed c =
    let is : c.retain.new.self.items ≡ without_list c.args.subject c.args.items.now.items =
    filter_same _ _ _ (λ x b f' k. search rules) _ _ c.retain.ensures.filtered in
    subst AreListed (sym is) (listed-without c.args.subject c.args.items.now.items c.requires)
