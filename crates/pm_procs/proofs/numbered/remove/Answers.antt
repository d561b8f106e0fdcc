use Rattle.pm_procs.proofs.Places.{remove-placed, filter-absent, found-own, has_number}
use Rattle.std.proofs.Common.{◌∙◌}
use Rattle.pm_procs.proofs.numbered.remove.Goals as goal

pub remove-gone-requires : goal.remove-gone-requires
remove-gone-requires g c =
    found-own g.T.Numbered.number c.args.number c.args.items.now c.in-Some.i c.in-Some.ensures c.requires.own

pub returns-in-Some-clause-items : goal.returns-in-Some-clause-items
returns-in-Some-clause-items g c =
    c.remove-gone.ensures.items ∙ remove-placed g.T.Numbered.number c.args.number c.args.items.now.items c.in-Some.i c.requires.rising c.in-Some.ensures

pub returns-in_default-clause-items : goal.returns-in_default-clause-items
returns-in_default-clause-items g c = filter-absent (has_number g.T.Numbered.number c.args.number) c.args.items.now.items c.in_default.ensures
