-- Whether a version has gone on by an entry, told by its number.
use Rattle.std.proofs.Common.{◌≡◌, ◌+◌, ℕ, Bool, true, false, nat_lt, List, [], ◌∷◌, ◌++◌, length, refl, sym, ◌∙◌, ap, subst, arith, length-append}
use Rattle.std.specs.Prelude.{Option, None, Some, IsSome, unwrap_or}
use Rattle.std.proofs.lemmas.Bool.{le-ltb, lt-ltb}
use Rattle.std.proofs.lemmas.List.{append-nil}
use Rattle.pm_model.specs.State.{State}
use Rattle.pm_model.specs.Answer.{answer}
use Rattle.pm_model.specs.History.{Machine, IsReplayed, replay, state_of}
use Rattle.pm_model.specs.Recorded.{entries_of}
use Rattle.pm_model.specs.declared.requests.Entry.{Entry}
use Rattle.pm_model.specs.declared.replies.Reply.{Reply}
use Rattle.pm_machine.specs.Answered.{HasAnswered}
use Rattle.pm_house.specs.Restored.{GoesOn}

stayed : (M N : Machine) → state_of N ≡ state_of M → N.history ≡ M.history → N ≡ M
stayed M N same is =
    ap (λ (S : State). let K : Machine = record { graph = S.graph; history = N.history } in K) same
    ∙ ap (λ (l : List Entry). let K : Machine = record { graph = M.graph; history = l } in K) is

by_next : (M N : Machine) (e : Entry) (next : Option State) (t : Bool) → (answer (replay M.history) e.request).next ≡ next → state_of N ≡ unwrap_or next (state_of M)
    → N.history ≡ M.history ++ entries_of next e → t ≡ nat_lt (length M.history) (length N.history) → GoesOn M N e t
by_next M N e None t is state grown told =
    let same : N.history ≡ M.history = grown ∙ append-nil M.history in
    let size : length N.history ≡ length M.history = ap length same in
    let no : t ≡ false = told ∙ le-ltb (length M.history) (length N.history) (omega (arith, size)) in
    subst (GoesOn M N e) (sym no) ((λ some. let none : IsSome {T = State} None = subst IsSome is some in absurd (cc (none))), stayed M N state same)
by_next M N e (Some S) t is state grown told =
    let size : length N.history ≡ length M.history + 1 = ap length grown ∙ length-append M.history (e ∷ []) in
    let yes : t ≡ true = told ∙ lt-ltb (length M.history) (length N.history) (omega (arith, size)) in
    subst (GoesOn M N e) (sym yes) (subst IsSome (sym is) refl, grown)

pub has_gone_on : (M N : Machine) (e : Entry) (told : Reply) (before now : ℕ) → IsReplayed M → HasAnswered M N e told → before ≡ length M.history → now ≡ length N.history
    → GoesOn M N e (nat_lt before now)
has_gone_on M N e told before now replayed h from to =
    by_next M N e (answer (state_of M) e.request).next (nat_lt before now) (ap (λ (S : State). (answer S e.request).next) replayed.content) h.state h.history
    (ap (λ (n : ℕ). nat_lt n now) from ∙ ap (nat_lt (length M.history)) to)

-- where it has, it has this entry more, which the machine accepts
pub went : (M N : Machine) (e : Entry) (t : Bool) → t ≡ true → GoesOn M N e t → GoesOn M N e true
went M N e true is gone = gone
went M N e false is gone = absurd (cc (is))

pub went_not : (M N : Machine) (e : Entry) (t : Bool) → t ≡ false → GoesOn M N e t → GoesOn M N e false
went_not M N e false is gone = gone
went_not M N e true is gone = absurd (cc (is))
