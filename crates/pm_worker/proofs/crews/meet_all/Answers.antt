use Rattle.std.proofs.Common.{rules, ◌≡◌, ◌∷◌, refl}
use Rattle.pm_worker.proofs.Meeting.{met_all_of}
use Rattle.pm_worker.proofs.crews.meet_all.Goals as goal

pub returns-in-Some-clause-met : goal.returns-in-Some-clause-met
returns-in-Some-clause-met g c =
    let split : c.args.crew.now ≡ c.in-Some.first.now ∷ c.in-Some.others.now = search rules in
    rw split (met_all_of (λ m. m.seat) (λ m. m.feed) c.in-Some.first.now (record { seat = c.meet_each.new.first; feed = c.in-Some.first.now.feed }) c.in-Some.others.now c.meet_each.new.others
    c.meet_each.ensures.first refl c.meet_each.ensures.met)
