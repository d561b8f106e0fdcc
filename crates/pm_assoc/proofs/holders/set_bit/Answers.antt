use Rattle.std.proofs.Common.{◌≡◌, ◌/◌, ◌<◌, length, get_or, arith}
use Rattle.std.proofs.lemmas.List.{get_or_read}
use Rattle.pm_assoc.proofs.SetBits.{bit_set}
use Rattle.pm_assoc.proofs.holders.set_bit.Goals as goal

pub returns-clause-set : goal.returns-clause-set
returns-clause-set c =
    let words = c.args.words.now in
    let k = c.args.number / 64 in
    let within : k < length words.items = omega (arith, words.ok.0, c.requires) in
    let was : c.index_mut.result.now ≡ get_or words.items k 0 = get_or_read words.items k _ within c.index_mut.ensures.value 0 in
    rw was (bit_set words.items c.args.number within)
