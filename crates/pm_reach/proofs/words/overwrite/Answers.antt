-- What the row has is within its words.
use Rattle.std.proofs.Common.{◌∙◌, sym}
use Rattle.pm_reach.proofs.Bits.{within_row, all_written}
use Rattle.pm_reach.proofs.words.overwrite.Goals as goal

pub refill-requires : goal.refill-requires
refill-requires c y h = rw c.as_mut_slice.ensures.value (within_row c.args.words.now.items y (c.requires y h))

pub returns : goal.returns
returns c q =
    c.trim.ensures q
    ∙ rw (all_written c.args.words.now.len c.refill.new.words _ (sym c.as_mut_slice.ensures.len ∙ sym c.refill.ensures.long)) (c.refill.ensures.row q)
