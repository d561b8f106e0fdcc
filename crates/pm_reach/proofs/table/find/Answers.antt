-- The page is the number's.
use Rattle.std.proofs.Common.{◌∙◌, ◌/◌, refl, length}
use Rattle.std.proofs.lemmas.Option.{slice_get_read, slice_get_past}
use Rattle.pm_reach.proofs.Pages.{found-row, found-none}
use Rattle.pm_reach.proofs.table.find.Goals as goal

pub returns-in-Some : goal.returns-in-Some
returns-in-Some c =
    let h = c.in-Some.ensures.lookup in
    c.find_in.ensures
    ∙ (found-row c.args.pages.now c.args.x c.in-Some.page.now (slice_get_read c.args.pages.now (length c.args.pages.now) (c.args.x / 64) c.in-Some.page.now refl h.3.0 h.1))

pub returns-in-None : goal.returns-in-None
returns-in-None c = let h = c.in-None.ensures.lookup in found-none c.args.pages.now c.args.x (slice_get_past c.args.pages.now (c.args.x / 64) h.3)
