use Rattle.std.proofs.Common.{◌≡◌, None, subst, sym}
use Rattle.std.specs.Prelude.{All}
use Rattle.std.proofs.lemmas.List.Elements.{All-push}
use Rattle.ngac.proofs.serving.Staff.hire.Goals as goal

-- nobody has been given a connection, this one neither
pub invariant_of-self-2 : goal.invariant_of-self-2
invariant_of-self-2 g c =
    subst (All (λ m. m.feed.out ≡ None)) (sym c.in_ok-push.ensures.items) (All-push (λ m. m.feed.out ≡ None) c.self.inside.crew.items _ c.self.invariant c.requires)
