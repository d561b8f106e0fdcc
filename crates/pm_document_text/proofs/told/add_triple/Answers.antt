use Rattle.std.proofs.Common.{[], ◌∷◌}
use Rattle.pm_print.proofs.Appending.{adds-as}
use Rattle.pm_print.proofs.ItemTexts.{list_text}
use Rattle.pm_document_text.proofs.told.add_triple.Goals as goal

pub returns : goal.returns
returns g c =
    adds-as _ _ _ _ _ (list_text (g.A.Told.told c.args.first.now ∷ g.B.Told.told c.args.second.now ∷ g.C.Told.told c.args.third.now ∷ []))
    c.add_bracketed_triple.ensures
