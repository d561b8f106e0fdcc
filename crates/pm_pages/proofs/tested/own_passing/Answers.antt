use Rattle.std.proofs.Common.{◌∙◌, sym, ap}
use Rattle.std.specs.List.{list_any}
use Rattle.std.proofs.lemmas.Result.{on_ok_weaker}
use Rattle.pm_pages.specs.Listed.{items_of, owned, owned_where}
use Rattle.pm_pages.proofs.Spots.{piece_read}
use Rattle.pm_pages.proofs.Changed.{edited-as, edited-none}
use Rattle.pm_pages.proofs.Owning.{own_page_all}
use Rattle.pm_pages.proofs.Passing.{where-some, where-none}
use Rattle.pm_pages.proofs.tested.own_passing.Goals as goal

pub returns-then-any_passes-clause-pages : goal.returns-then-any_passes-clause-pages
returns-then-any_passes-clause-pages g c =
    let old = c.args.pages.now.items in
    let read = piece_read items_of old c.args.k c.index-page.result.now c.requires.1.1.0 c.index-page.ensures in
    on_ok_weaker c.own_at.result (λ done. done ∙ edited-as owned (owned_where g.passes) old c.args.k (λ p is. where-some g.passes p
    (ap (list_any g.passes) (sym (piece_read items_of old c.args.k p c.requires.1.1.0 is) ∙ read ∙ sym c.items.ensures) ∙ sym c.any_passes.ensures ∙ c.if-any_passes.true))) c.own_at.ensures.pages

pub returns-then-any_passes-clause-own : goal.returns-then-any_passes-clause-own
returns-then-any_passes-clause-own g c = λ all. c.own_at.ensures.own (own_page_all c.args.pages.now.items c.args.k c.requires.1.1.0 all)

pub returns-clause-pages : goal.returns-clause-pages
returns-clause-pages g c =
    let old = c.args.pages.now.items in
    let read = piece_read items_of old c.args.k c.index-page.result.now c.requires.1.1.0 c.index-page.ensures in
    edited-none (owned_where g.passes) old c.args.k (λ p is. where-none g.passes p
    (ap (list_any g.passes) (sym (piece_read items_of old c.args.k p c.requires.1.1.0 is) ∙ read ∙ sym c.items.ensures) ∙ sym c.any_passes.ensures ∙ c.if-any_passes.false))
