use Rattle.std.proofs.Common.{◌≡◌, ◌∙◌, refl, sym, ap, arith}
use Rattle.std.proofs.lemmas.List.Elements.{All-filter}
use Rattle.pm_decide.specs.Live.{IsLive}
use Rattle.pm_affect.specs.Affected.{is_in}
use Rattle.pm_affect.specs.Judged.{in_scope, judged}
use Rattle.pm_affect.specs.Lists.{Lists, is_among, subjects}
use Rattle.pm_affect.specs.Puts.{cleared, put_each}
use Rattle.pm_affect.proofs.Members.{caps-live, kept-among}
use Rattle.pm_affect.proofs.Repaired.{caps-repaired, cleared-asked, cleared-caps_subjects, cleared-entries_subjects, entries-repaired}
use Rattle.pm_affect.proofs.Rows.{cleared-nothing, judged-nothing, judged-unkept, no-lists}
use Rattle.pm_affect.proofs.Walk.{judged-few, put-asked}
use Rattle.pm_affect.proofs.repair.update.Goals as goal

pub returns-then-is_nothing-clause-caps : goal.returns-then-is_nothing-clause-caps
returns-then-is_nothing-clause-caps g c =
    let below = (g.R.Reach.relation c.args.reach.now).below in
    let rights = (g.J.Judge.judgement c.args.judge.now).rights in
    ap (λ (L : Lists). L.caps) c.charge.ensures
    ∙ ap (λ (L : Lists). L.caps) (cleared-nothing c.args.region.now c.args.lists (sym c.if-is_nothing.ensures)
    ∙ ap (λ qs. put_each rights qs (cleared c.args.region.now c.args.lists))
    (sym (judged-nothing below c.args.region.now (in_scope c.args.lists) c.args.users.now c.args.elements.now (sym c.if-is_nothing.ensures))))
    ∙ caps-repaired below c.args.region.now rights c.args.elements.now c.args.users.now c.requires.elements_rise c.requires.users_rise c.args.lists c.kept.ensures c.requires.lists

pub returns-then-is_nothing-clause-entries : goal.returns-then-is_nothing-clause-entries
returns-then-is_nothing-clause-entries g c =
    let below = (g.R.Reach.relation c.args.reach.now).below in
    let rights = (g.J.Judge.judgement c.args.judge.now).rights in
    ap (λ (L : Lists). L.entries) c.charge.ensures
    ∙ ap (λ (L : Lists). L.entries) (cleared-nothing c.args.region.now c.args.lists (sym c.if-is_nothing.ensures)
    ∙ ap (λ qs. put_each rights qs (cleared c.args.region.now c.args.lists))
    (sym (judged-nothing below c.args.region.now (in_scope c.args.lists) c.args.users.now c.args.elements.now (sym c.if-is_nothing.ensures))))
    ∙ entries-repaired below c.args.region.now rights c.args.elements.now c.args.users.now c.requires.elements_rise c.requires.users_rise c.args.lists c.kept.ensures c.requires.lists

pub returns-then-is_nothing-clause-asked : goal.returns-then-is_nothing-clause-asked
returns-then-is_nothing-clause-asked g c =
    rw (judged-nothing (g.R.Reach.relation c.args.reach.now).below c.args.region.now (in_scope c.args.lists) c.args.users.now c.args.elements.now (sym c.if-is_nothing.ensures))
    (omega arith)

pub returns-then-is_nothing-clause-charged : goal.returns-then-is_nothing-clause-charged
returns-then-is_nothing-clause-charged g c =
    rw (judged-nothing (g.R.Reach.relation c.args.reach.now).below c.args.region.now (in_scope c.args.lists) c.args.users.now c.args.elements.now (sym c.if-is_nothing.ensures))
    (ap (λ (L : Lists). L.asked) c.charge.ensures)

pub returns-then-is_empty-clause-caps : goal.returns-then-is_empty-clause-caps
returns-then-is_empty-clause-caps g c =
    let none = no-lists c.args.lists (sym c.if-is_empty.ensures) in ap (λ (L : Lists). L.caps) c.charge-then-is_empty.ensures ∙ rw none.0 refl

pub returns-then-is_empty-clause-entries : goal.returns-then-is_empty-clause-entries
returns-then-is_empty-clause-entries g c =
    let none = no-lists c.args.lists (sym c.if-is_empty.ensures) in ap (λ (L : Lists). L.entries) c.charge-then-is_empty.ensures ∙ rw none.1 refl

pub returns-then-is_empty-clause-asked : goal.returns-then-is_empty-clause-asked
returns-then-is_empty-clause-asked g c =
    rw (judged-unkept (is_in (g.R.Reach.relation c.args.reach.now).below c.args.region.now) c.args.lists c.args.users.now c.args.elements.now (sym c.if-is_empty.ensures)) (omega arith)

pub returns-then-is_empty-clause-charged : goal.returns-then-is_empty-clause-charged
returns-then-is_empty-clause-charged g c =
    rw (judged-unkept (is_in (g.R.Reach.relation c.args.reach.now).below c.args.region.now) c.args.lists c.args.users.now c.args.elements.now (sym c.if-is_empty.ensures))
    (ap (λ (L : Lists). L.asked) c.charge-then-is_empty.ensures)

pub near-requires-clause-elements : goal.near-requires-clause-elements
near-requires-clause-elements g c =
    let same = c.in_ok-places.ensures ∙ ap (λ (L : Lists). subjects L.entries) c.in_ok-clear.ensures ∙ cleared-entries_subjects c.args.region.now c.args.lists
    ∙ kept-among _ _ _ c.args.elements.now c.args.users.now c.args.lists c.kept.ensures c.requires.elements_rise c.requires.lists in
    rw same
    (All-filter (is_among (subjects c.args.lists.entries)) (IsLive (g.R.Reach.relation c.args.reach.now)) c.args.elements.now c.requires.elements.search)

pub near_for-requires-clause-users : goal.near_for-requires-clause-users
near_for-requires-clause-users g c =
    let same = ap (λ (L : Lists). subjects L.caps) c.in_ok-clear.ensures ∙ cleared-caps_subjects c.args.region.now c.args.lists in
    rw (same, c.in_ok-near_places.ensures.same)
    (caps-live (IsLive (g.R.Reach.relation c.args.reach.now)) _ _ _ c.args.elements.now c.args.users.now c.args.lists c.requires.users.search c.requires.lists)

pub judge_users-requires-clause-places : goal.judge_users-requires-clause-places
judge_users-requires-clause-places g c =
    let now = ap (λ (L : Lists). subjects L.entries) c.in_ok-clear.ensures ∙ cleared-entries_subjects c.args.region.now c.args.lists in
    rw now
    (c.in_ok-places.ensures ∙ now ∙ kept-among _ _ _ c.args.elements.now c.args.users.now c.args.lists c.kept.ensures c.requires.elements_rise c.requires.lists)

pub judge_users-requires-clause-room : goal.judge_users-requires-clause-room
judge_users-requires-clause-room g c =
    let few = judged-few (is_in (g.R.Reach.relation c.near_for.new.reach).below c.args.region.now) (in_scope c.clear.new.self) c.args.users.now c.args.elements.now in
    omega (arith, few, c.requires.room)

pub returns-clause-caps : goal.returns-clause-caps
returns-clause-caps g c =
    let same = c.in_ok-near_elements.ensures.same ∙ c.in_ok-near_places.ensures.same in
    let put = rw (same, c.in_ok-clear.ensures, cleared-caps_subjects c.args.region.now c.args.lists, cleared-entries_subjects c.args.region.now c.args.lists) at c.in_ok-count.ensures.lists in
    ap (λ (L : Lists). L.caps) c.charge-2.ensures ∙ ap (λ (L : Lists). L.caps) put
    ∙ caps-repaired (g.R.Reach.relation c.args.reach.now).below c.args.region.now (g.J.Judge.judgement c.args.judge.now).rights c.args.elements.now c.args.users.now c.requires.elements_rise c.requires.users_rise
    c.args.lists c.kept.ensures c.requires.lists

pub returns-clause-entries : goal.returns-clause-entries
returns-clause-entries g c =
    let same = c.in_ok-near_elements.ensures.same ∙ c.in_ok-near_places.ensures.same in
    let put = rw (same, c.in_ok-clear.ensures, cleared-caps_subjects c.args.region.now c.args.lists, cleared-entries_subjects c.args.region.now c.args.lists) at c.in_ok-count.ensures.lists in
    ap (λ (L : Lists). L.entries) c.charge-2.ensures ∙ ap (λ (L : Lists). L.entries) put
    ∙ entries-repaired (g.R.Reach.relation c.args.reach.now).below c.args.region.now (g.J.Judge.judgement c.args.judge.now).rights c.args.elements.now c.args.users.now c.requires.elements_rise c.requires.users_rise
    c.args.lists c.kept.ensures c.requires.lists

pub returns-clause-asked : goal.returns-clause-asked
returns-clause-asked g c =
    let same = c.in_ok-near_elements.ensures.same ∙ c.in_ok-near_places.ensures.same in
    rw (same, c.in_ok-clear.ensures, cleared-caps_subjects c.args.region.now c.args.lists, cleared-entries_subjects c.args.region.now c.args.lists) at c.in_ok-count.ensures.asked

pub returns-clause-charged : goal.returns-clause-charged
returns-clause-charged g c =
    let same = c.in_ok-near_elements.ensures.same ∙ c.in_ok-near_places.ensures.same in
    let count = rw (same, c.in_ok-clear.ensures, cleared-caps_subjects c.args.region.now c.args.lists, cleared-entries_subjects c.args.region.now c.args.lists) at c.in_ok-count.ensures.count in
    let before : c.judge_users.new.lists.asked ≡ c.args.lists.asked =
    ap (λ (L : Lists). L.asked) c.in_ok-count.ensures.lists ∙ put-asked (g.J.Judge.judgement c.args.judge.now).rights (judged (is_in (g.R.Reach.relation c.near_for.new.reach).below c.args.region.now) (in_scope c.clear.new.self) c.args.users.now c.args.elements.now)
    c.clear.new.self ∙ ap (λ (L : Lists). L.asked) c.in_ok-clear.ensures
    ∙ cleared-asked c.args.region.now c.args.lists in
    ap (λ (L : Lists). L.asked) c.charge-2.ensures ∙ rw (before, count) refl
