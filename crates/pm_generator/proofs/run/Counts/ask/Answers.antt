use Rattle.std.proofs.Common.{◌+◌, ◌∙◌, ℕ, ap, ap₂, refl}
use Rattle.pm_generator.specs.Runs.{shared_since}
use Rattle.pm_generator.proofs.Running.{asked}
use Rattle.pm_generator.proofs.run.Counts.ask.Goals as goal

pub returns-clause-asked : goal.returns-clause-asked
returns-clause-asked g c =
    let old = g.M.Answerer.machine c.args.machine.now in
    let new = g.M.Answerer.machine c.ask.new.self in
    let since = c.shared_since.ensures.value ∙ ap₂ (shared_since new) c.version-version.ensures.version c.written-rows.ensures in
    asked old new c.args.request.now c.in_ok-told.told c.args.self.now _ c.replayed.ensures c.replayed-2.ensures c.in_ok-told.ensures.ok
    refl c.count.ensures.granted c.count.ensures.denied c.count.ensures.refused (ap (λ (n : ℕ). c.args.self.now.shared + n) since)
