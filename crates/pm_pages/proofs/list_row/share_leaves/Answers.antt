use Rattle.std.proofs.Common.{◌≡◌, ◌<◌, ◌∙◌, arith, length, length-set}
use Rattle.pm_pages.proofs.Leaves.{lists-same}
use Rattle.pm_pages.proofs.list_row.share_leaves.Goals as goal

pub returns-in_err-share : goal.returns-in_err-share
returns-in_err-share g c =
    lists-same c.loop-k.leaves.items c.loop-k.k c.edit.result.now c.share.new.self c.edit.ensures.value c.share.ensures ∙ c.loop-k.invariant.lists

pub loop-k-preserved : goal.loop-k-preserved
loop-k-preserved g c = record {
  lists = lists-same c.loop-k.leaves.items c.loop-k.k c.edit.result.now c.share.new.self c.edit.ensures.value c.share.ensures ∙ c.loop-k.invariant.lists;
  within = c.next_own-k-in-loop-k.ensures.within;
  own = c.next_own-k-in-loop-k.ensures.own;
}
