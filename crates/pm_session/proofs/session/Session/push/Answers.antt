use Rattle.std.proofs.Common.{◌≡◌, ◌≤◌, ℕ, List, None, length, arith, ap, ◌∙◌}
use Rattle.pm_model.specs.Lines.{shape, cut}
use Rattle.pm_session.specs.Streams.{Streams}
use Rattle.pm_session.proofs.FirstLine.{length-no_cut}
use Rattle.pm_session.proofs.session.Session.push.Goals as goal

-- little is moved to the front where no whole line waits
length-moved : (held waiting moved : List ℕ) → held ≡ waiting → shape held ≡ held → cut waiting ≡ None → moved ≡ held → length moved ≤ 8193
length-moved held waiting moved is kept none same =
    let few = length-no_cut held kept (ap cut is ∙ none) in
    let n = ap length same in
    omega arith

pub returns-clause-all : goal.returns-clause-all
returns-clause-all c = λ none short.
    let is = ap (λ (s : Streams). s.waiting) c.self.view_is in
    let few = length-moved _ _ _ is c.self.invariant.kept.shaped none c.remove_front.ensures.items in
    let count = c.push_bytes-pushed.ensures.count in
    omega arith

pub returns-clause-some : goal.returns-clause-some
returns-clause-some c = λ none more.
    let is = ap (λ (s : Streams). s.waiting) c.self.view_is in
    let few = length-moved _ _ _ is c.self.invariant.kept.shaped none c.remove_front.ensures.items in
    let count = c.push_bytes-pushed.ensures.count in
    omega arith
