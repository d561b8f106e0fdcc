-- A kept history is restored by a schedule.
use Rattle.std.proofs.Common.{inl, inr, ◌≡◌, ◌≢◌, ℕ, zero, suc, ◌≤◌, ◌<◌, ◌==◌, Bool, true, false, List, [], ◌∷◌, ◌++◌, length, take, map, Option, None, Some, IsSome, refl, ap, sym, ◌∙◌, subst, arith, append_assoc}
use Rattle.std.proofs.lemmas.List.{append-nil, take_all}
use Rattle.std.proofs.lemmas.Bool.{eq-eqb, eqb-true, cases_eq}
use Rattle.pm_model.specs.State.{State}
use Rattle.pm_model.specs.Answer.{answer}
use Rattle.pm_model.specs.History.{replay}
use Rattle.pm_model.specs.Recorded.{entries_of}
use Rattle.pm_model.specs.declared.requests.Entry.{Entry}
use Rattle.pm_world.specs.Worlds.{World, empty_world, Step, looks, put, next_of, log_after, after_step, IsSchedule, after_steps, IsOrderly}
use Rattle.pm_world.specs.Restored.{IsNext, AreNext, IsMade, accepts_of, looks_below, restoring, IsRestored}
use Rattle.pm_world.proofs.Prefixes.{prefix-length}
use Rattle.pm_world.proofs.Schedules.{every_schedule}

-- ---- steps one behind another

schedule-append : (w : World) (xs ys : List Step) → IsSchedule w xs → IsSchedule (after_steps w xs) ys → IsSchedule w (xs ++ ys)
schedule-append w [] ys one two = two
schedule-append w (x ∷ xs) ys one two = (one.0, schedule-append (after_step w x) xs ys one.1 two)

after-append : (w : World) (xs ys : List Step) → after_steps w (xs ++ ys) ≡ after_steps (after_steps w xs) ys
after-append w [] ys = refl
after-append w (x ∷ xs) ys = after-append (after_step w x) xs ys

-- ---- the entries

some-one : (o : Option State) (e : Entry) → IsSome o → entries_of o e ≡ e ∷ []
some-one None e some = absurd (cc (some))
some-one (Some S) e some = refl

-- the log gets the entry itself
log-next : (seats : ℕ) (before : List Entry) (e : Entry) → IsNext seats before e → log_after e.seat before e.request ≡ before ++ e ∷ []
log-next seats before e next =
    let same : next_of e.seat before e.request ≡ e = ap (λ (n : ℕ). let f : Entry = record { seat = e.seat; nth = n; request = e.request } in f) (sym next.number) in
    ap (λ (l : List Entry). before ++ l) (some-one (answer (replay before) e.request).next (next_of e.seat before e.request) next.accepted)
    ∙ ap (λ (f : Entry). before ++ f ∷ []) same

accepts-may : (w : World) (es : List Entry) → IsSchedule w (map accepts_of es)
accepts-may w [] = tt
accepts-may w (e ∷ es) = (tt, accepts-may (after_step w (accepts_of e)) es)

log-of : (seats : ℕ) (w : World) (before es : List Entry) → w.log ≡ before → AreNext seats before es → (after_steps w (map accepts_of es)).log ≡ before ++ es
log-of seats w before [] is all = is ∙ sym (append-nil before)
log-of seats w before (e ∷ es) is all =
    let step = accepts_of e in
    let log : (after_step w step).log ≡ before ++ e ∷ [] = ap (λ (l : List Entry). log_after e.seat l e.request) is ∙ log-next seats before e all.0 in
    log-of seats (after_step w step) (before ++ e ∷ []) es log all.1 ∙ append_assoc before (e ∷ []) es

-- ---- the looks

put-same : {A : Type 0} (f : ℕ → A) (s : ℕ) (x : A) → put f s x s ≡ x
put-same f s x = rw (eq-eqb s s refl) refl

put-other : {A : Type 0} (f : ℕ → A) (s : ℕ) (x : A) (t : ℕ) → t ≢ s → put f s x t ≡ f t
put-other f s x t not = of (t == s) refl where
  of : (b : Bool) → (t == s) ≡ b → put f s x t ≡ f t
  of true is = absurd (not (eqb-true t s is))
  of false is = rw is refl

-- where a world's fronts begin its log, each seat may look at all of it, and then has seen it
looked : (n : ℕ) (w : World) (history : List Entry) → w.log ≡ history → ((s : ℕ) → length (w.front s) ≤ length history)
    → IsSchedule w (looks_below n (length history)) × ((after_steps w (looks_below n (length history))).log ≡ history)
    × ((s : ℕ) → s < n → (after_steps w (looks_below n (length history))).front s ≡ history)
    × ((s : ℕ) → n ≤ s → (after_steps w (looks_below n (length history))).front s ≡ w.front s)
looked zero w history is less = (tt, is, λ s lt. absurd (omega (arith, lt)), λ s le. refl)
looked (suc n) w history is less =
    let step = looks n None (length history) in
    let v = after_step w step in
    let whole : take (length history) w.log ≡ history = ap (take (length history)) is ∙ take_all (length history) history (omega arith) in
    let here : v.front n ≡ history = put-same w.front n (take (length history) w.log) ∙ whole in
    let short : (s : ℕ) → length (v.front s) ≤ length history = λ s.
    elim (cases_eq s n) [
      | inl same ↦ omega (arith, ap (λ (t : ℕ). length (v.front t)) same, ap length here)
      | inr not ↦ omega (arith, ap length (put-other w.front n (take (length history) w.log) s not), less s)
    ] in
    let rest = looked n v history is short in (
      ((less n, omega (arith, ap length is)), rest.0),
      rest.1,
      λ s lt. elim (cases_eq s n) [
        | inl same ↦ ap (after_steps v (looks_below n (length history))).front same ∙ (rest.3 n (omega arith) ∙ here)
        | inr not ↦ rest.2 s (omega (arith, lt, not))
      ],
      λ s le. rest.3 s (omega (arith, le)) ∙ put-other w.front n (take (length history) w.log) s (λ same. absurd (omega (arith, le, same))),
    )

pub restored_by : (seats : ℕ) (history : List Entry) → IsMade seats history
    → IsSchedule empty_world (restoring seats history) × IsRestored seats history (after_steps empty_world (restoring seats history))
restored_by seats history made =
    let first = map accepts_of history in
    let then = looks_below seats (length history) in
    let w = after_steps empty_world first in
    let log : w.log ≡ history = log-of seats empty_world [] history refl made in
    let orderly : IsOrderly w = every_schedule first (accepts-may empty_world history) in
    let rest = looked seats w history log (λ s. omega (arith, prefix-length (w.front s) w.log (orderly.begins s), ap length log)) in
    let all = after-append empty_world first then in (
      schedule-append empty_world first then (accepts-may empty_world history) rest.0,
      subst (IsRestored seats history) (sym all) (record { log = rest.1; fronts = rest.2 }),
    )
