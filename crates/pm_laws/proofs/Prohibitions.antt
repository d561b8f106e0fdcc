-- The prohibitions, where one comes or goes and where what they name does: one lemma for each change of the lists.
use Rattle.std.proofs.Common.{◌≡◌, ◌<◌, ◌==◌, ℕ, List, [], ◌∷◌, ◌++◌, zero, suc, length, IsSome, Bool, true, false, not, refl, sym, ◌∙◌, arith, length-append, filter, Contains, inl, inr, eq-eqb, remove}
use Rattle.std.specs.List.{list_any}
use Rattle.std.proofs.lemmas.Bool.{or_parts, eqb-true, not-true, not_from_false, false_from_ne_true}
use Rattle.std.proofs.lemmas.List.Edits.{length-remove}
use Rattle.std.proofs.lemmas.List.Elements.{Contains-push_cases}
use Rattle.pm_model.specs.Sessions.{Procs, process, process_at, processes_of, is_process, is_of_session, with_session, without_session, with_process, without_process}
use Rattle.pm_model.specs.Prohibitions.{is_called, is_process_in, without_processes, max_prohibitions}
use Rattle.pm_model.specs.Effect.{placed}
use Rattle.pm_model.specs.Resolve.{unused}
use Rattle.pm_model.specs.Formed.{IsLive, AreElements, AreOnceCalled, IsSubjectLive, IsProhibition, AreProhibitions}
use Rattle.pm_model.specs.declared.elements.Element.{Element}
use Rattle.pm_model.specs.declared.sessions.Process.{Process}
use Rattle.pm_model.specs.declared.prohibitions.Prohibition.{Prohibition}
use Rattle.pm_model.specs.declared.prohibitions.Subject.{Subject}
use Rattle.pm_model.specs.declared.prohibitions.Subject.TheVariants as subject
use Rattle.pm_laws.proofs.Items.{each-push, each-filter, each-to, each-at, each-from, filter-contains, filter-split, length-filter, contains-filter, contains-removed, none-at, none-from, any-map, find-is, find-live, find-push, find-filter}
use Rattle.pm_laws.proofs.Numbers.{live-placed}
use Rattle.pm_laws.proofs.Names.{other-swapped}
use Rattle.pm_laws.proofs.RightNames.{named-more}
use Rattle.pm_laws.proofs.Procs.{process-is}

-- ---- no two of one name

once_called-push : (ps : List Prohibition) (p : Prohibition) → AreOnceCalled ps → list_any (is_called p.name) ps ≡ false →
    AreOnceCalled (ps ++ p ∷ [])
once_called-push [] p h free = (refl, tt)
once_called-push (q ∷ ps) p h free = (others, once_called-push ps p h.1 apart.1) where
  apart : (is_called p.name q ≡ false) × (list_any (is_called p.name) ps ≡ false)
  apart = or_parts (is_called p.name q) (list_any (is_called p.name) ps) free

  others : list_any (is_called q.name) (ps ++ p ∷ []) ≡ false
  others = none-from (is_called q.name) (ps ++ p ∷ []) (λ r c. elim (Contains-push_cases ps p r c) [
    | inl old ↦ none-at (is_called q.name) ps r h.0 old
    | inr new ↦ rw (← new) (other-swapped p.name q.name apart.0)
  ])

once_called-filter : (test : Prohibition → Bool) (ps : List Prohibition) → AreOnceCalled ps → AreOnceCalled (filter test ps)
once_called-filter test [] h = tt
once_called-filter test (p ∷ ps) h = let rest = once_called-filter test ps h.1 in
    filter-split test AreOnceCalled p ps (λ is. (others, rest)) (λ is. rest) where
      others : list_any (is_called p.name) (filter test ps) ≡ false
      others = none-from (is_called p.name) (filter test ps)
          (λ q c. none-at (is_called p.name) ps q h.0 (filter-contains test ps q c).0)

once_called-removed : (ps : List Prohibition) (i : ℕ) → AreOnceCalled ps → AreOnceCalled (remove ps i)
once_called-removed [] zero h = tt
once_called-removed [] (suc i) h = tt
once_called-removed (p ∷ ps) zero h = h.1
once_called-removed (p ∷ ps) (suc i) h = (others, once_called-removed ps i h.1) where
  others : list_any (is_called p.name) (remove ps i) ≡ false
  others = none-from (is_called p.name) (remove ps i) (λ q c. none-at (is_called p.name) ps q h.0 (contains-removed ps i q c))

-- ---- one comes or goes

module _ (es : List Element) (P : Procs) (rights : List (List ℕ)) where
  -- one more
  pub prohibitions-pushed : (ps : List Prohibition) (p : Prohibition) → AreProhibitions es P rights ps → IsProhibition es P rights p →
      list_any (is_called p.name) ps ≡ false → length ps < max_prohibitions → AreProhibitions es P rights (ps ++ p ∷ [])
  prohibitions-pushed ps p h new free room = let l = length-append ps (p ∷ []) in record {
    once = once_called-push ps p h.once free;
    each = each-push (IsProhibition es P rights) ps p h.each new;
    few = omega (arith, l, room);
  }

  -- only those that pass a test
  pub prohibitions-kept : (test : Prohibition → Bool) (ps : List Prohibition) → AreProhibitions es P rights ps →
      AreProhibitions es P rights (filter test ps)
  prohibitions-kept test ps h = let l = length-filter test ps in record {
    once = once_called-filter test ps h.once;
    each = each-filter (IsProhibition es P rights) test ps h.each;
    few = omega (arith, l, h.few);
  }

  -- one less, at its place
  pub prohibitions-removed : (ps : List Prohibition) (i : ℕ) → AreProhibitions es P rights ps → i < length ps →
      AreProhibitions es P rights (remove ps i)
  prohibitions-removed ps i h below = let l = length-remove ps i below in record {
    once = once_called-removed ps i h.once;
    each = each-from (IsProhibition es P rights) (remove ps i)
        (λ p c. each-at (IsProhibition es P rights) ps p h.each (contains-removed ps i p c));
    few = omega (arith, l, h.few);
  }

  pub prohibitions-none : AreProhibitions es P rights []
  prohibitions-none = record { once = tt; each = tt; few = omega arith }

-- ---- what they name changes

-- what keeps each of them
pub prohibitions-to : (es fs : List Element) (P Q : Procs) (rights more : List (List ℕ)) (ps : List Prohibition) →
    ((p : Prohibition) → Contains ps p → IsProhibition es P rights p → IsProhibition fs Q more p) →
    AreProhibitions es P rights ps → AreProhibitions fs Q more ps
prohibitions-to es fs P Q rights more ps kept h = record {
  once = h.once;
  each = each-from (IsProhibition fs Q more) ps (λ p c. kept p c (each-at (IsProhibition es P rights) ps p h.each c));
  few = h.few;
}

-- an element more
pub prohibitions-placed : (es : List Element) (x : Element) (P : Procs) (rights : List (List ℕ)) (ps : List Prohibition) → AreElements es →
    x.number ≡ unused es → AreProhibitions es P rights ps → AreProhibitions (placed x es) P rights ps
prohibitions-placed es x P rights ps e u = prohibitions-to es (placed x es) P P rights rights ps (λ p c is. record {
  subject = of p.subject is.subject;
  inc = each-to (IsLive es) (IsLive (placed x es)) live p.inc is.inc;
  exc = each-to (IsLive es) (IsLive (placed x es)) live p.exc is.exc;
  named = is.named;
  ranged = is.ranged;
}) where
  live : (n : ℕ) → IsLive es n → IsLive (placed x es) n
  live n h = rw (live-placed x es n e.rising u h) h

  of : (s : Subject ℕ ℕ) → IsSubjectLive es P s → IsSubjectLive (placed x es) P s
  of (subject.User n) h = live n h
  of (subject.Ua n) h = live n h
  of (subject.Process n) h = h

-- a right more
pub prohibitions-rights : (es : List Element) (P : Procs) (rights : List (List ℕ)) (name : List ℕ) (ps : List Prohibition) →
    AreProhibitions es P rights ps → AreProhibitions es P (rights ++ name ∷ []) ps
prohibitions-rights es P rights name ps = prohibitions-to es es P P rights (rights ++ name ∷ []) ps (λ p c is. record {
  subject = is.subject;
  inc = is.inc;
  exc = is.exc;
  named = named-more rights name p.rights is.named;
  ranged = is.ranged;
})

-- other sessions and processes, where each subject stays
prohibitions-sessions : (es : List Element) (P Q : Procs) (rights : List (List ℕ)) (ps : List Prohibition) →
    ((p : Prohibition) → Contains ps p → IsSubjectLive es P p.subject → IsSubjectLive es Q p.subject) → AreProhibitions es P rights ps →
    AreProhibitions es Q rights ps
prohibitions-sessions es P Q rights ps kept = prohibitions-to es es P Q rights rights ps (λ p c is. record {
  subject = kept p c is.subject;
  inc = is.inc;
  exc = is.exc;
  named = is.named;
  ranged = is.ranged;
})

-- where each process stays
pub prohibitions-opened : (es : List Element) (P : Procs) (rights : List (List ℕ)) (u : ℕ) (ps : List Prohibition) →
    AreProhibitions es P rights ps → AreProhibitions es (with_session u P) rights ps
prohibitions-opened es P rights u ps = prohibitions-sessions es P (with_session u P) rights ps (λ p c. of p.subject) where
  of : (s : Subject ℕ ℕ) → IsSubjectLive es P s → IsSubjectLive es (with_session u P) s
  of (subject.User n) h = h
  of (subject.Ua n) h = h
  of (subject.Process n) h = h

pub prohibitions-started : (es : List Element) (P : Procs) (rights : List (List ℕ)) (n : ℕ) (ps : List Prohibition) →
    AreProhibitions es P rights ps → AreProhibitions es (with_process n P) rights ps
prohibitions-started es P rights n ps = prohibitions-sessions es P (with_process n P) rights ps (λ p c. of p.subject) where
  of : (s : Subject ℕ ℕ) → IsSubjectLive es P s → IsSubjectLive es (with_process n P) s
  of (subject.User m) h = h
  of (subject.Ua m) h = h
  of (subject.Process m) h =
      let f = find-is (is_process m) P.processes h in
      let new : Process = process P.next_process n in
      find-live (is_process m) (P.processes ++ new ∷ []) f.0 (find-push (is_process m) P.processes new f.0 f.1)

-- where only these processes go, and the prohibitions on them
pub prohibitions-left : (es : List Element) (P Q : Procs) (rights : List (List ℕ)) (ended : List ℕ) (ps : List Prohibition) →
    ((m : ℕ) → IsSome (process_at P m) → list_any (λ k. k == m) ended ≡ false → IsSome (process_at Q m)) →
    AreProhibitions es P rights ps → AreProhibitions es Q rights (without_processes ended ps)
prohibitions-left es P Q rights ended ps stays h =
    prohibitions-sessions es P Q rights (without_processes ended ps) kept
    (prohibitions-kept es P rights (λ (p : Prohibition). not (is_process_in ended p.subject)) ps h) where
      of : (s : Subject ℕ ℕ) → is_process_in ended s ≡ false → IsSubjectLive es P s → IsSubjectLive es Q s
      of (subject.User m) other live = live
      of (subject.Ua m) other live = live
      of (subject.Process m) other live = stays m live other

      kept : (p : Prohibition) → Contains (without_processes ended ps) p → IsSubjectLive es P p.subject → IsSubjectLive es Q p.subject
      kept p c =
          of p.subject (not-true (is_process_in ended p.subject)
          (filter-contains (λ (p : Prohibition). not (is_process_in ended p.subject)) ps p c).1)

-- ---- processes that stay

pub process-kept : (P : Procs) (n m : ℕ) → IsSome (process_at P m) → list_any (λ k. k == m) (n ∷ []) ≡ false →
    IsSome (process_at (without_process n P) m)
process-kept P n m live other =
    let f = find-is (is_process m) P.processes live in
    let at : f.0.number ≡ m = (process-is P m f.0 f.1).1 in
    let apart = (or_parts (n == m) false other).0 in
    let kept : not (is_process n f.0) ≡ true = not_from_false (f.0.number == n)
    (false_from_ne_true (f.0.number == n) (λ is.
    let same : n ≡ m = sym (eqb-true f.0.number n is) ∙ at in
    let yes = eq-eqb n m same in cc)) in
    find-live (is_process m) (filter (λ p. not (is_process n p)) P.processes) f.0
    (find-filter (is_process m) (λ p. not (is_process n p)) P.processes f.0 f.1 kept)

-- the process is among those of the session where it is of the session
pub processes-of : (P : Procs) (n : ℕ) (p : Process) → Contains P.processes p → is_of_session n p ≡ true →
    list_any (λ k. k == p.number) (processes_of P n) ≡ true
processes-of P n p c is = any-map (λ k. k == p.number) (λ (q : Process). q.number) (filter (is_of_session n) P.processes) p
    (contains-filter (is_of_session n) P.processes p c is) (eq-eqb p.number p.number refl)

pub process-left : (P : Procs) (n m : ℕ) → IsSome (process_at P m) → list_any (λ k. k == m) (processes_of P n) ≡ false →
    IsSome (process_at (without_session n P) m)
process-left P n m live other =
    let f = find-is (is_process m) P.processes live in
    let at = process-is P m f.0 f.1 in
    let kept : not (is_of_session n f.0) ≡ true = not_from_false (is_of_session n f.0)
    (false_from_ne_true (is_of_session n f.0) (λ is.
    let yes : list_any (λ k. k == m) (processes_of P n) ≡ true = rw at.1 at (processes-of P n f.0 at.0 is) in cc)) in
    find-live (is_process m) (filter (λ p. not (is_of_session n p)) P.processes) f.0
    (find-filter (is_process m) (λ p. not (is_of_session n p)) P.processes f.0 f.1 kept)
