use Rattle.std.proofs.Common.{◌≡◌, ◌<◌, ◌==◌, ◌/◌, ◌||◌, length, get_or, sym, ap, ◌∙◌}
use Rattle.std.proofs.lemmas.Bool.{eqb-true}
use Rattle.std.proofs.lemmas.List.{get_or_read}
use Rattle.std.proofs.lemmas.List.Quantifiers.{position-Some}
use Rattle.pm_model.specs.declared.grants.PlaceWord.{PlaceWord}
use Rattle.pm_model.specs.Grants.{is_in}
use Rattle.pm_model.proofs.Places.{told_set}
use Rattle.pm_model.proofs.grants.set_at.Goals as goal

pub set_number-requires : goal.set_number-requires
set_number-requires c =
    let items = c.args.places.now.items in
    let d = c.index_mut.result.now in
    let found = position-Some (λ (p : PlaceWord). p.k == c.args.number / 64) items c.args.i d c.requires in
    let was : d ≡ get_or items c.args.i d = get_or_read items c.args.i _ found.0 c.index_mut.ensures.value _ in
    sym (ap (λ (p : PlaceWord). p.k) was ∙ eqb-true _ _ found.1)

pub returns : goal.returns
returns c =
    let items = c.args.places.now.items in
    let d = c.index_mut.result.now in
    let found = position-Some (λ (p : PlaceWord). p.k == c.args.number / 64) items c.args.i d c.requires in
    let was : d ≡ get_or items c.args.i d = get_or_read items c.args.i _ found.0 c.index_mut.ensures.value _ in
    told_set items c.args.i d c.set_number.new.place c.args.number found.0 (λ n. c.set_number.ensures n ∙ ap (λ p. n == c.args.number || is_in n p) was)
