use Rattle.std.proofs.Common.{◌≡◌, ◌==◌, not, filter, rules, ap, ◌∙◌}
use Rattle.std.proofs.lemmas.Fn.{filter_same}
use Rattle.pm_model.specs.Grants.{is_told}
use Rattle.pm_model.specs.declared.grants.PlaceWord.{PlaceWord}
use Rattle.pm_model.proofs.Places.{told_full}
use Rattle.pm_model.proofs.grants.drop_empty.Goals as goal

pub returns : goal.returns
returns c n =
    let full : c.retain.new.self.items ≡ filter (λ (p : PlaceWord). not (p.word == 0)) c.args.places.now.items = filter_same _ _ _ (λ x b f' k. search rules) _ _ c.retain.ensures.filtered in
    ap (λ l. is_told l n) full ∙ told_full c.args.places.now.items n
