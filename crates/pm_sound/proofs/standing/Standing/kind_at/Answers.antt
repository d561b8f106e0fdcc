use Rattle.std.proofs.Common.{◌∙◌, ap, sym, slice_get}
use Rattle.pm_sound.proofs.Found.{entry_at}
use Rattle.pm_sound.proofs.standing.Standing.kind_at.Goals as goal

pub returns-in-Some : goal.returns-in-Some
returns-in-Some c =
    ap (λ es. slice_get es c.args.place) (sym c.self.view_is)
    ∙ entry_at c.self.inside.kinds.entries c.args.place c.in-Some.there.now c.args.name.now c.in-Some.kind.now (sym c.in-Some.ensures.entry)
    (sym c.eq.ensures ∙ c.if-eq.true)
