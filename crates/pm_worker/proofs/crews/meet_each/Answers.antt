use Rattle.std.proofs.Common.{rules, ◌<◌, arith, length}
use Rattle.pm_house.proofs.Sitting.{rests_then}
use Rattle.pm_worker.proofs.Meeting.{met_at, met_one_more, rest_left}
use Rattle.pm_worker.proofs.crews.meet_each.Goals as goal

pub loop-place-preserved : goal.loop-place-preserved
loop-place-preserved g c =
    let within : c.loop-place.place < length c.loop-place.others = search rules in
    record {
      first = rests_then c.args.first.now c.loop-place.first c.meet.new.a c.loop-place.invariant.first c.meet.ensures.a;
      count = search rules;
      met = met_one_more (λ m. m.seat) (λ m. m.feed) c.loop-place.first c.meet.new.a c.args.others.now c.loop-place.others c.loop-place.place _ within c.meet.ensures.a
          (λ d. met_at (λ m. m.seat) (λ m. m.feed) c.meet.new.a c.meet.new.b c.args.others.now c.loop-place.others c.loop-place.place c.index-others-place.result d within
          (c.loop-place.invariant.rest c.loop-place.place d (omega arith)) c.meet.ensures.b c.meet.ensures.met) c.loop-place.invariant.met;
      rest = rest_left c.args.others.now c.loop-place.others c.loop-place.place _ c.loop-place.invariant.rest;
    }
