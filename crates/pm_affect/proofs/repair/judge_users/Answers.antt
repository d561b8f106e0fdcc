use Rattle.std.proofs.Common.{◌≡◌, ◌+◌, ◌++◌, ◌∙◌, ◌≤◌, ◌<◌, [], ◌∷◌, length, sym, ap, subst, arith, drop}
use Rattle.pm_model.specs.Containment.{Relation}
use Rattle.pm_model.specs.Decision.{Judgement}
use Rattle.pm_decide.specs.Live.{IsLive}
use Rattle.pm_affect.specs.Affected.{is_in}
use Rattle.pm_affect.specs.Judged.{in_scope, judged}
use Rattle.pm_affect.specs.Live.{IsJudged}
use Rattle.pm_affect.specs.Lists.{Lists, subjects}
use Rattle.pm_affect.specs.Puts.{place}
use Rattle.pm_affect.proofs.Places.{places-later, first-later}
use Rattle.pm_affect.proofs.Walk.{all-at, count-more, judged-split, one-more, put-caps, put-entries, room-for}
use Rattle.pm_affect.proofs.repair.judge_users.Goals as goal

pub next_caps-i-requires : goal.next_caps-i-requires
next_caps-i-requires g c =
    rw c.loop-n.invariant.caps (first-later (λ u. c.loop-n.i ≤ place u (subjects c.args.lists.now.caps)) c.args.users.now c.loop-n.n c.at-user.result.now c.at-user.ensures c.loop-n.invariant.place)

pub judge_next-requires-clause-user : goal.judge_next-requires-clause-user
judge_next-requires-clause-user g c =
    subst (λ (r : Relation). IsLive r c.at-user.result.now) (sym c.loop-n.invariant.same)
    (all-at (IsLive (g.R.Reach.relation c.args.reach.now)) c.args.users.now c.loop-n.n c.at-user.result.now c.requires.users.search c.at-user.ensures)

pub judge_next-requires-clause-judged_user : goal.judge_next-requires-clause-judged_user
judge_next-requires-clause-judged_user g c =
    subst (λ (j : Judgement). IsJudged j c.at-user.result.now) (sym c.loop-n.invariant.judgement)
    (all-at (IsJudged (g.J.Judge.judgement c.args.judge.now)) c.args.users.now c.loop-n.n c.at-user.result.now c.requires.users.judge c.at-user.ensures)

pub judge_next-requires-clause-near : goal.judge_next-requires-clause-near
judge_next-requires-clause-near g c = rw (c.loop-n.invariant.caps, c.loop-n.invariant.same) (c.requires.near c.at-user.result.now)

pub judge_next-requires-clause-room : goal.judge_next-requires-clause-room
judge_next-requires-clause-room g c =
    let inside = is_in (g.R.Reach.relation c.args.reach.now).below c.args.region.now in
    let scope = in_scope c.args.lists.now in
    let es = c.args.elements.now.all.now in
    rw (c.loop-n.invariant.same, c.loop-n.invariant.caps, c.loop-n.invariant.entries)
    (room-for (judged inside scope (c.at-user.result.now ∷ []) es) (judged inside scope (drop (c.loop-n.n + 1) c.args.users.now) es)
    (judged inside scope (drop c.loop-n.n c.args.users.now) es) _ _
    (judged-split inside scope c.args.users.now es c.loop-n.n c.at-user.result.now c.at-user.ensures) c.loop-n.invariant.asked c.requires.room)

pub overflow_add-count : goal.overflow_add-count
overflow_add-count g c =
    let inside = is_in (g.R.Reach.relation c.args.reach.now).below c.args.region.now in
    let scope = in_scope c.args.lists.now in
    let es = c.args.elements.now.all.now in
    let piece = judged inside scope (c.at-user.result.now ∷ []) es in
    let n : c.in_ok-count.field-0 ≡ length piece =
    rw (c.loop-n.invariant.same, c.loop-n.invariant.caps, c.loop-n.invariant.entries) at c.in_ok-count.ensures.count in
    let room : c.loop-n.count + length piece < 18446744073709551616 =
    room-for piece (judged inside scope (drop (c.loop-n.n + 1) c.args.users.now) es)
    (judged inside scope (drop c.loop-n.n c.args.users.now) es) _ _
    (judged-split inside scope c.args.users.now es c.loop-n.n c.at-user.result.now c.at-user.ensures) c.loop-n.invariant.count (omega (arith, c.requires.room)) in
    omega (arith, n, room)

pub loop-n-preserved : goal.loop-n-preserved
loop-n-preserved g c =
    let inside = is_in (g.R.Reach.relation c.args.reach.now).below c.args.region.now in
    let scope = in_scope c.args.lists.now in
    let rights = (g.J.Judge.judgement c.args.judge.now).rights in
    let es = c.args.elements.now.all.now in
    let piece = judged inside scope (c.at-user.result.now ∷ []) es in
    let rest = judged inside scope (drop (c.loop-n.n + 1) c.args.users.now) es in
    let left = judged inside scope (drop c.loop-n.n c.args.users.now) es in
    let split : left ≡ piece ++ rest = judged-split inside scope c.args.users.now es c.loop-n.n c.at-user.result.now c.at-user.ensures in
    let put = rw (c.loop-n.invariant.judgement, c.loop-n.invariant.same, c.loop-n.invariant.caps, c.loop-n.invariant.entries) at c.in_ok-count.ensures.lists in
    let asked = rw (c.loop-n.invariant.same, c.loop-n.invariant.caps, c.loop-n.invariant.entries) at c.in_ok-count.ensures.asked in
    let n : c.in_ok-count.field-0 ≡ length piece =
    rw (c.loop-n.invariant.same, c.loop-n.invariant.caps, c.loop-n.invariant.entries) at c.in_ok-count.ensures.count in
    record {
      lists = one-more rights piece rest left c.loop-n.lists c.judge_next.new.lists _ split put c.loop-n.invariant.lists;
      caps = ap (λ (L : Lists). subjects L.caps) put ∙ put-caps rights piece c.loop-n.lists ∙ c.loop-n.invariant.caps;
      entries = ap (λ (L : Lists). subjects L.entries) put ∙ put-entries rights piece c.loop-n.lists ∙ c.loop-n.invariant.entries;
      count = count-more piece rest left c.loop-n.count _ _ split (ap (λ k. c.loop-n.count + k) n) c.loop-n.invariant.count;
      asked = count-more piece rest left _ _ _ split asked c.loop-n.invariant.asked;
      place = rw (c.next_caps-i.ensures, c.loop-n.invariant.caps)
          (places-later (subjects c.args.lists.now.caps) c.args.users.now c.loop-n.n c.at-user.result.now c.requires.users_rise c.at-user.ensures);
      passed = rw c.loop-n.invariant.same at c.judge_next.ensures.passed;
      judgement = c.judge_next.ensures.judgement ∙ c.loop-n.invariant.judgement;
      same = c.judge_next.ensures.same ∙ c.loop-n.invariant.same;
    }
