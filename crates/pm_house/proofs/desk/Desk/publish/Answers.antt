use Rattle.std.proofs.Common.{rules, option_map, ◌≡◌, ◌<◌, List, length, ◌++◌, ◌∷◌, [], sym, subst, Some, IsSome, IfSome}
use Rattle.pm_model.specs.Answer.{answer}
use Rattle.pm_model.specs.History.{Machine, IsReplayed, state_of}
use Rattle.pm_model.specs.declared.requests.Entry.{Entry}
use Rattle.pm_model.specs.declared.requests.Request.{Request}
use Rattle.pm_world.specs.Restored.{IsNext, IsMade}
use Rattle.pm_world.specs.Seats.{count_by_seat}
use Rattle.pm_house.specs.Lanes.{Laned, entry_by}
use Rattle.pm_house.proofs.Counting.{desk-entered}
use Rattle.pm_house.proofs.EntryByEntry.{made_more, next_at_desk}
use Rattle.pm_house.proofs.Kept.{kept-before}
use Rattle.pm_house.proofs.desk.Desk.publish.Goals as goal

pub keep_last-requires-clause-kept : goal.keep_last-requires-clause-kept
keep_last-requires-clause-kept g c =
    let e = entry_by c.args.lane.now c.args.request.now in
    let h = (g.V.Version.machine c.self.inside.publisher).history in
    let now = (g.V.Version.machine c.version-2.result.now).history in
    let size : c.version-at.result ≡ length h = search rules in
    let grown : now ≡ h ++ e ∷ [] = search rules in
    kept-before (g.K.Keep.kept c.self.inside.keeper) h now c.version-at.result e c.self.invariant.keeps grown size

pub invariant_of-self-2 : goal.invariant_of-self-2
invariant_of-self-2 g c =
    let e = entry_by c.args.lane.now c.args.request.now in
    let machine = g.V.Version.machine in
    let M : Machine = machine c.self.inside.publisher in
    let N : Machine = machine c.publish.new.self in
    let kept = g.K.Keep.kept c.keep_last.new.keeper in
    let grown : N.history ≡ M.history ++ e ∷ [] = search rules in
    let seat : e.seat ≡ c.seat-2.result = search rules in
    let same : (machine c.version-2.result.now).history ≡ N.history = search rules in
    let keeps : IfSome kept (λ es. es ≡ N.history) = subst (λ (l : List Entry). IfSome kept (λ es. es ≡ l)) same c.in_ok-keep_last.ensures.ok in
    let hand : machine c.publish.result ≡ N = search rules in
    let lane : Laned = c.args.lane.now in
    let request : Request = c.args.request.now in
    let replayed : IsReplayed M = search rules in
    let share : lane.share ≡ count_by_seat lane.seat M.history = search rules in
    let within : lane.seat < g.H.Home.all = search rules in
    let accepted : IsSome (answer (state_of M) request).next = search rules in
    let next : IsNext g.H.Home.all M.history e = next_at_desk g.H.Home.all M lane request replayed within share accepted in
    let made : IsMade g.H.Home.all N.history = subst (IsMade g.H.Home.all) (sym grown) (made_more g.H.Home.all [] M.history e c.self.invariant.made next) in
    desk-entered M N e c.seat-2.result (option_map machine c.self.inside.latest) (Some (machine c.publish.result)) kept (g.K.Keep.kept c.self.inside.keeper) c.self.inside.book.total c.enter.new.book.total c.self.inside.counts.items c.count.new.counts.items g.H.Home.all
    seat c.self.invariant grown c.seat-2.ensures.within hand keeps made c.enter.ensures.book c.count.ensures.size c.count.ensures.seat c.count.ensures.others
