use Rattle.std.proofs.Common.{rules, ◌≡◌, ◌+◌, true, length, arith}
use Rattle.pm_model.specs.Answer.{longest_history}
use Rattle.pm_model.specs.History.{Machine}
use Rattle.pm_model.specs.declared.requests.Entry.{Entry}
use Rattle.pm_world.specs.Restored.{IsNext}
use Rattle.pm_world.specs.Seats.{count_by_seat}
use Rattle.pm_house.proofs.EntryByEntry.{count_room, footing_more}
use Rattle.pm_house.proofs.GoingOn.{went}
use Rattle.pm_house.proofs.restoring.Restoring.take.Goals as goal

pub count-requires-clause-room : goal.count-requires-clause-room
count-requires-clause-room g c =
    let machine = g.V.Version.machine in
    let M : Machine = machine c.self.inside.state in
    let N : Machine = machine c.goes_on.new.version in
    let e : Entry = c.args.entry.now in
    let yes : c.in_ok-goes_on.field-0 ≡ true = search rules in
    let gone = went M N e c.in_ok-goes_on.field-0 yes c.in_ok-goes_on.ensures.taken in
    let size : c.version-next.result ≡ length N.history = search rules in
    count_room c.self.inside.counts.items M.history N.history e longest_history (c.self.invariant.counted e.seat c.in-Some.ensures.some.0) gone.1 (omega (arith, size, c.version-next.ensures.most))

pub invariant_of-self-2 : goal.invariant_of-self-2
invariant_of-self-2 g c =
    let machine = g.V.Version.machine in
    let M : Machine = machine c.self.inside.state in
    let N : Machine = machine c.goes_on.new.version in
    let e : Entry = c.args.entry.now in
    let yes : c.in_ok-goes_on.field-0 ≡ true = search rules in
    let gone = went M N e c.in_ok-goes_on.field-0 yes c.in_ok-goes_on.ensures.taken in
    let number : e.nth ≡ count_by_seat e.seat M.history + 1 = search rules in
    let next : IsNext g.H.Home.all M.history e = record { seat = c.in-Some.ensures.some.0; number = number; accepted = gone.0 } in
    footing_more M.history N.history e c.self.inside.book.total c.enter.new.book.total c.self.inside.lanes.items c.enter.new.lanes.items c.self.inside.counts.items c.count.new.counts.items g.H.Home.all
    c.self.invariant gone.1 next c.enter.ensures.book c.enter.ensures.size c.enter.ensures.seat c.enter.ensures.others c.count.ensures.size c.count.ensures.seat c.count.ensures.others
