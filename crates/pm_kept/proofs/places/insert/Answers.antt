use Rattle.std.proofs.Common.{◌∙◌, ap}
use Rattle.pm_model.specs.KeptReviews.{unkept}
use Rattle.pm_kept.proofs.Numbers.{keep-put, keep-put_rises}
use Rattle.pm_kept.proofs.places.insert.Goals as goal

pub returns-clause-ok : goal.returns-clause-ok
returns-clause-ok c =
    keep-put c.args.items.now.items c.requires.rising c.least_number-place.result c.args.of c.new.result _ (c.least_number-place.ensures.number ∙ ap unkept c.deref.ensures.value) c.new.ensures c.in_ok-put.ensures.ok

pub returns-clause-rising : goal.returns-clause-rising
returns-clause-rising c =
    keep-put_rises c.args.items.now.items c.requires.rising c.least_number-place.result c.args.of c.new.result _ (c.least_number-place.ensures.number ∙ ap unkept c.deref.ensures.value) c.new.ensures
    c.in_ok-put.ensures.ok c.requires.room
