use Rattle.std.proofs.Common.{rules, ◌<◌, ◌^◌, ℕ, ◌*◌, length, slice_index_or}
use Rattle.pm_server.specs.KeySets.{HasKey}
use Rattle.pm_server.proofs.KeyBits.{taken}
use Rattle.pm_server.proofs.keys.Keys.take_first.Goals as goal

pub returns-then-word-ne0 : goal.returns-then-word-ne0
returns-then-word-ne0 c =
    let ws = c.loop-place.self-inside.words in
    let p = c.loop-place.place in
    let within : p < length ws = search rules in
    let few : p < 16 = search rules in
    let some : 0 < slice_index_or ws p 0 = search rules in
    let fits : slice_index_or ws p 0 < 2 ^ 64 = search rules in
    let none : (k : ℕ) → k < 64 * p → ¬ HasKey (record { words = ws }) k = search rules in
    search (rules, taken ws p within few some fits none)
