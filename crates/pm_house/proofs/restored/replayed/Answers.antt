use Rattle.std.proofs.Common.{rules, ◌≡◌, true, List}
use Rattle.pm_model.specs.declared.requests.Entry.{Entry}
use Rattle.pm_house.proofs.EntryByEntry.{taken_more}
use Rattle.pm_house.proofs.restored.replayed.Goals as goal

pub loop-at-preserved : goal.loop-at-preserved
loop-at-preserved g c =
    let was_taken : c.in_ok-take.field-0 ≡ true = search rules in
    let entries : List Entry = c.args.entries.now in
    let e : Entry = c.index-entries-at.result in
    let both = taken_more g.H.Home.all c.loop-at.restoring.history c.take.new.self.history entries c.loop-at.at e c.loop-at.invariant.history c.loop-at.invariant.made c.loop-at-test.true c.index-entries-at.is c.in_ok-take.field-0 _ was_taken c.in_ok-take.ensures.taken in
    record { history = both.0; made = both.1 }
