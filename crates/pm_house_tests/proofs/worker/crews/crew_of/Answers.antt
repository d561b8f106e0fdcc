use Rattle.std.proofs.Common.{◌≡◌, None, All, subst, sym}
use Rattle.std.proofs.lemmas.List.Elements.{All-push}
use Rattle.pm_house_tests.proofs.worker.crews.crew_of.Goals as goal

-- nobody has been given a connection, this one neither
pub loop-place-preserved : goal.loop-place-preserved
loop-place-preserved g c =
    subst (All (λ m. m.feed.out ≡ None)) (sym c.in_ok-push.ensures.items) (All-push (λ m. m.feed.out ≡ None) c.loop-place.crew.items _ c.loop-place.invariant c.feed_of-feed.ensures)
