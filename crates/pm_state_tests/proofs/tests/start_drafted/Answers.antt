use Rattle.std.proofs.Common.{◌≡◌, true, is_some, Result, Ok, Err, OnOk, ap, sym, ◌∙◌}
use Rattle.std.specs.Result.{is_ok}
use Rattle.pm_state_tests.proofs.tests.start_drafted.Goals as goal

-- what holds of a value holds where there is one
on-ok : {A E P : Type 0} (r : Result A E) → is_ok r ≡ true → OnOk r P → P
on-ok (Ok a) is h = h
on-ok (Err e) is h = absurd (cc)

pub returns-clause-done : goal.returns-clause-done
returns-clause-done g c w = on-ok c.change.result (sym c.ok-started.ensures.variant ∙ ap is_some c.expect.ensures) (c.change.ensures.done w)
