-- What a crash may leave of a file after one step more.
use Rattle.std.proofs.Common.{◌≡◌, ◌⊎◌, inl, inr, ⊎_elim, ℕ, ◌+◌, ◌-◌, ◌≤◌, ◌<◌, max, min, List, [], ◌∷◌, ◌++◌, length, take, drop, get_or, refl, sym, ◌∙◌, ap, subst, arith, append_assoc, length-append, length-take, length-drop}
use Rattle.std.proofs.lemmas.List.{take_all, take_at, drop_at, take_min, take_more}
use Rattle.pm_disk.specs.Disks.{Elapses, Follows, Holds, Torn, Cut}
use Rattle.pm_disk.specs.Steps.{Moment, IsStep, Leads, MayLeave, MovesTo, FailsTo}
use Rattle.pm_disk.specs.declared.held.Step.{Step}
use Rattle.pm_disk.specs.declared.held.Step.TheVariants as step
use Rattle.pm_disk.proofs.PastKept.{Since, elapses_same, elapses_to}

-- ---- a step that does nothing is one, and so is one that does all

pub torn_same : (at n : ℕ) (c : List ℕ) → Torn at n c c
torn_same at n c = record { before = refl; after = refl; no_shorter = omega arith; no_longer = omega arith }

pub cut_same : (n : ℕ) (c : List ℕ) → Cut n c c
cut_same n c = record { no_shorter = omega arith; front = take_all (length c) c (omega arith) }

pub step_same : (s : Step) (c : List ℕ) → IsStep s c c
step_same (step.Write at n) c = torn_same at n c
step_same (step.Cut n) c = cut_same n c

pub torn_of_holds : (at : ℕ) (old bytes new : List ℕ) → at ≤ length old → Holds old at bytes new → Torn at (length bytes) old new
torn_of_holds at old bytes new le holds =
    let n = length bytes in
    let front : length (take at old) ≡ at = omega (arith, length-take at old, le) in
    let is : new ≡ take at old ++ (bytes ++ drop (at + n) old) = holds ∙ append_assoc (take at old) bytes (drop (at + n) old) in
    let both : length (take at old ++ bytes) ≡ at + n = omega (arith, length-append (take at old) bytes, front) in
    let size : length new ≡ at + n + length (drop (at + n) old) =
    omega (arith, ap length is, length-append (take at old) (bytes ++ drop (at + n) old), length-append bytes (drop (at + n) old), front) in
    record {
      before = ap (take at) is ∙ take_at (take at old) (bytes ++ drop (at + n) old) at front;
      after = ap (drop (at + n)) holds ∙ drop_at (take at old ++ bytes) (drop (at + n) old) (at + n) both;
      no_shorter = omega (arith, size, length-drop (at + n) old);
      no_longer = omega (arith, size, length-drop (at + n) old);
    }

pub cut_of_take : (n : ℕ) (old : List ℕ) → Cut n old (take n old)
cut_of_take n old = record {
  no_shorter = omega (arith, length-take n old);
  front = ap (λ (m : ℕ). take m old) (length-take n old) ∙ take_min n old;
}

-- ---- one step more

pub leads_then : (steps : List Step) (s : Step) (a d c : List ℕ) → Leads steps a d → IsStep s d c → Leads (steps ++ s ∷ []) a c
leads_then [] s a d c is more = (c, subst (λ (b : List ℕ). IsStep s b c) is more, refl)
leads_then (t ∷ steps) s a d c leads more = (leads.0, leads.1, leads_then steps s leads.0 d c leads.2 more)

-- the step at a place, behind those before it
pub leads_next : (steps : List Step) (i : ℕ) (s : Step) (a d c : List ℕ) → i < length steps → Leads (take i steps) a d → IsStep (get_or steps i s) d c
    → Leads (take (i + 1) steps) a c
leads_next steps i s a d c within before more =
    subst (λ (l : List Step). Leads l a c) (sym (take_more steps i s within)) (leads_then (take i steps) (get_or steps i s) a d c before more)

pub leads_back : (steps : List Step) (s : Step) (a c : List ℕ) → Leads (steps ++ s ∷ []) a c → (d : List ℕ) × Leads steps a d × IsStep s d c
leads_back [] s a c leads = (a, refl, subst (λ (b : List ℕ). IsStep s a b) (sym leads.2) leads.1)
leads_back (t ∷ steps) s a c leads =
    let back = leads_back steps s leads.0 c leads.2 in
    (back.0, (leads.0, leads.1, back.1), back.2)

pub leads_same : (steps : List Step) (a : List ℕ) → Leads steps a a
leads_same [] a = refl
leads_same (s ∷ steps) a = (a, step_same s a, leads_same steps a)

-- a crash may leave what was synced
pub synced_left : (m : Moment) (c : List ℕ) → c ≡ m.synced → MayLeave m c
synced_left m c is = inr (subst (λ (b : List ℕ). Leads m.steps m.synced b) (sym is) (leads_same m.steps m.synced))

-- the images after a step are those before it, after that step
pub follows_step : (s : Step) (old new : Moment) → new.synced ≡ old.synced → new.steps ≡ old.steps ++ s ∷ [] → IsStep s old.content new.content
    → Follows (IsStep s) (MayLeave old) (MayLeave new)
follows_step s old new synced steps is c (inl here) = (old.content, inl refl, subst (λ (b : List ℕ). IsStep s old.content b) (sym here) is)
follows_step s old new synced steps is c (inr leads) =
    let all : Leads (old.steps ++ s ∷ []) old.synced c =
    subst (λ (a : List ℕ). Leads (old.steps ++ s ∷ []) a c) synced (subst (λ (l : List Step). Leads l new.synced c) steps leads) in
    let back = leads_back old.steps s old.synced c all in
    (back.0, inr back.1, back.2)

-- ---- a moment goes on

pub moves_elapses : (next old new : Moment) (past later : List Moment) → MovesTo next old past new later
    → Elapses (length past) (length later) (Since past old) (Since later new) (MayLeave new)
moves_elapses next old new past later (inl went) = elapses_to past later old new went.1
moves_elapses next old new past later (inr same) =
    subst (λ (l : List Moment). Elapses (length past) (length l) (Since past old) (Since l new) (MayLeave new)) (sym same.1)
    (subst (λ (m : Moment). Elapses (length past) (length past) (Since past old) (Since past m) (MayLeave m)) (sym same.0) (elapses_same past old))

pub moves_follows : (s : Step) (next old new : Moment) (past later : List Moment) → next.synced ≡ old.synced → next.steps ≡ old.steps ++ s ∷ []
    → IsStep s old.content next.content → MovesTo next old past new later → Follows (IsStep s) (MayLeave old) (MayLeave new)
moves_follows s next old new past later synced steps is (inl went) c left =
    follows_step s old next synced steps is c (subst (λ (m : Moment). MayLeave m c) went.0 left)
moves_follows s next old new past later synced steps is (inr same) c left =
    (c, subst (λ (m : Moment). MayLeave m c) same.0 left, step_same s c)

pub failed_follows : (s : Step) (old new : Moment) (past later : List Moment) → FailsTo s old past new later → Follows (IsStep s) (MayLeave old) (MayLeave new)
failed_follows s old new past later =
    moves_follows s (record { content = old.content; synced = old.synced; steps = old.steps ++ s ∷ [] }) old new past later refl refl (step_same s old.content)

-- after a sync a crash leaves the content alone
pub settled_each : (next old new : Moment) (past later : List Moment) → next.content ≡ old.content → next.synced ≡ old.content → next.steps ≡ []
    → MovesTo next old past new later → (c : List ℕ) → MayLeave new c → MayLeave old c
settled_each next old new past later content synced steps (inr same) c left = subst (λ (m : Moment). MayLeave m c) same.0 left
settled_each next old new past later content synced steps (inl went) c left =
    ⊎_elim (λ here. inl (here ∙ content))
    (λ leads. inl (subst (λ (l : List Step). Leads l next.synced c) steps leads ∙ synced))
    (subst (λ (m : Moment). MayLeave m c) went.0 left)
