use Rattle.std.proofs.Common.{◌≡◌, arith, drop, take, length, ap, sym, ◌∙◌, refl, List, ℕ, length-drop}
use Rattle.pm_model.specs.Lines.{whole}
use Rattle.pm_session.specs.Cuts.{HasNoFeed, open_line}
use Rattle.pm_session.proofs.Fitting.{event_of-short, event_of-long}
use Rattle.pm_session.proofs.OpenLine.{HasNoFeed-open_line}
use Rattle.pm_session.proofs.Taking.{Holds-view, LeavesRest-none, first_event-none, LeavesRest-some, first_event-some, IsWaiting-rest}
use Rattle.pm_session.proofs.session.Session.take.Goals as goal

pub returns-then-unread-self : goal.returns-then-unread-self
returns-then-unread-self c =
    let waiting : List ℕ = drop c.self.inside.start c.self.inside.waiting.items in
    let opened : length (open_line waiting) ≡ c.self.inside.tail = c.self.invariant.kept.opened in
    let behind = length-drop c.self.inside.start c.self.inside.waiting.items in
    let all : length (open_line waiting) ≡ length waiting = omega (arith, c.if-unread-self.true, c.len.ensures, behind, opened) in
    let plain : HasNoFeed waiting = HasNoFeed-open_line waiting all in
    let holds = Holds-view _ _ _ c.self.view_is in
    ((refl, (λ _. tt), LeavesRest-none _ _ _ holds plain), record { shows = first_event-none _ _ _ holds plain; after_borrow = tt })

pub returns-in_default : goal.returns-in_default
returns-in_default c =
    let slice = c.deref.ensures.value in
    let plain : HasNoFeed (drop c.self.inside.start c.self.inside.waiting.items) = rw slice at c.in_default.ensures in
    let holds = Holds-view _ _ _ c.self.view_is in
    ((refl, (λ _. tt), LeavesRest-none _ _ _ holds plain), record { shows = first_event-none _ _ _ holds plain; after_borrow = tt })

pub invariant_of-self-2 : goal.invariant_of-self-2
invariant_of-self-2 c =
    let slice = c.deref.ensures.value in
    let found = rw slice at c.in-Some.ensures in
    record {
      begun = let below = found.0 in omega arith;
      within = c.self.invariant.within;
      room = c.self.invariant.room;
      kept = IsWaiting-rest _ _ _ _ c.self.invariant.kept found.1;
      unsent = c.self.invariant.unsent;
      together = c.self.invariant.together;
    }

pub returns-then-line-gt-LONGEST : goal.returns-then-line-gt-LONGEST
returns-then-line-gt-LONGEST c =
    let slice = c.deref.ensures.value in
    let found = rw slice at c.in-Some.ensures in
    let line = c.part-line.ensures ∙ ap (λ (l : List ℕ). take c.in-Some.count (drop c.self.inside.start l)) c.deref-2.ensures.value in
    let long = c.if-line-gt-LONGEST.true in
    let event = sym (event_of-long _ (rw line at long)) in
    let holds = Holds-view _ _ _ c.self.view_is in
    ((refl, (λ _. tt), LeavesRest-some _ _ _ _ _ holds found.1), record { shows = first_event-some _ _ _ _ _ _ holds found.1 event; after_borrow = tt })

pub returns : goal.returns
returns c =
    let slice = c.deref.ensures.value in
    let found = rw slice at c.in-Some.ensures in
    let line = c.part-line.ensures ∙ ap (λ (l : List ℕ). take c.in-Some.count (drop c.self.inside.start l)) c.deref-2.ensures.value in
    let short = c.if-line-gt-LONGEST.false in
    let event = ap whole line ∙ sym (event_of-short _ (rw line at short)) in
    let holds = Holds-view _ _ _ c.self.view_is in
    ((refl, (λ _. tt), LeavesRest-some _ _ _ _ _ holds found.1), record { shows = first_event-some _ _ _ _ _ _ holds found.1 event; after_borrow = tt })
