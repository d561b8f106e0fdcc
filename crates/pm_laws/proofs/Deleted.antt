-- The graph where an element goes that no assignment leads to and nothing else names: one lemma for each list.
use Rattle.std.proofs.Common.{◌≡◌, ◌≤◌, ◌<◌, ◌+◌, ◌==◌, ◌||◌, ℕ, List, [], ◌∷◌, Option, Some, None, IfSome, Bool, true, false, not, refl, arith, filter, Contains}
use Rattle.std.specs.List.{list_any}
use Rattle.std.proofs.lemmas.Bool.{eqb-false, ne_eqb, or_parts, not-true, not_from_false}
use Rattle.pm_model.specs.State.{element_at, is_numbered, is_named, opening_elements}
use Rattle.pm_model.specs.Containment.{Leads, IsContained}
use Rattle.pm_model.specs.Sessions.{Procs, is_session_of}
use Rattle.pm_model.specs.Prohibitions.{is_subject, names_element}
use Rattle.pm_model.specs.Obligations.{concerns, is_given}
use Rattle.pm_model.specs.KeptReviews as keeping
use Rattle.pm_model.specs.KeptReviews.{KeptReview, reviews}
use Rattle.pm_model.specs.Effect.{is_actor_kind, both, may_watch, may_assign, may_associate, is_from, is_to, has_child, has_end}
use Rattle.pm_model.specs.Formed.{Each, AreRising, HaveOwnNames, AreElements, IsLive, IsUser, JoinsKinds, IsInClass, AreAssigned, JoinsAttributes, AreAssociations, AreProcs, IsSubjectLive, AreProhibitions, AreObligations, AreKept, Stands, StandsAssigned, HasOpening}
use Rattle.pm_model.specs.declared.elements.Kind.{Kind}
use Rattle.pm_model.specs.declared.elements.Element.{Element}
use Rattle.pm_model.specs.declared.rights.Association.{Association}
use Rattle.pm_model.specs.declared.sessions.Session.{Session}
use Rattle.pm_model.specs.declared.prohibitions.Prohibition.{Prohibition}
use Rattle.pm_model.specs.declared.obligations.Obligation.{Obligation}
use Rattle.pm_model.specs.declared.prohibitions.Subject.{Subject}
use Rattle.pm_model.specs.declared.prohibitions.Subject.TheVariants as subject
use Rattle.pm_model.proofs.ContainmentLaws.{contained-from_path, path-from_contained}
use Rattle.pm_laws.proofs.Items.{each-at, each-from, filter-contains, filter-split, contains-filter, length-filter, find-filter, none-at, none-from}
use Rattle.pm_laws.proofs.Numbers.{found-at, live-found}
use Rattle.pm_laws.proofs.Ends.{both-live, kind-lives, user-lives}
use Rattle.pm_laws.proofs.Pairs.{assigned-is, assigned-at, once-filter}
use Rattle.pm_laws.proofs.Shape.{IsWithin, HasClass, acyclic-within, class-found, class-from}
use Rattle.pm_laws.proofs.Prohibitions.{prohibitions-to}
use Rattle.pm_laws.proofs.Obligations.{obligations-to}
use Rattle.pm_laws.proofs.KeptReviews.{kept-to, may_keep-stays}

-- ---- some elements of a list

module _ (test : Element → Bool) where
  rising-lower : (m n : ℕ) (es : List Element) → n ≤ m → AreRising m es → AreRising n es
  rising-lower m n [] less h = tt
  rising-lower m n (e ∷ es) less h = (omega (arith, less, h.0), h.1)

  pub rising-filter : (n : ℕ) (es : List Element) → AreRising n es → AreRising n (filter test es)
  rising-filter n [] h = tt
  rising-filter n (e ∷ es) h = let rest = rising-filter (e.number + 1) es h.1 in
      filter-split test (AreRising n) e es (λ is. (h.0, rest))
      (λ is. rising-lower (e.number + 1) n (filter test es) (omega (arith, h.0)) rest)

  names-filter : (es : List Element) → HaveOwnNames es → HaveOwnNames (filter test es)
  names-filter [] h = tt
  names-filter (e ∷ es) h = let rest = names-filter es h.1 in
      filter-split test HaveOwnNames e es (λ is. (others, rest)) (λ is. rest) where
        others : list_any (is_named e.name) (filter test es) ≡ false
        others = none-from (is_named e.name) (filter test es)
            (λ a c. none-at (is_named e.name) es a h.0 (filter-contains test es a c).0)

-- ---- the lists without the element

module _ (id : ℕ) where
  abbrev pub left : List Element → List Element
  left es = filter (λ e. not (is_numbered id e)) es

  abbrev pub left_pairs : List (ℕ × ℕ) → List (ℕ × ℕ)
  left_pairs pairs = filter (λ pair. not (is_from id pair)) pairs

  -- another number than that of the element
  apart : (n : ℕ) → (n == id) ≡ false → n ≡ id → ⊥
  apart n other same = eqb-false n id other same

  kept : (n : ℕ) → (n ≡ id → ⊥) → not (n == id) ≡ true
  kept n other = not_from_false (n == id) (ne_eqb n id other)

  from-apart : (n : ℕ) → not (n == id) ≡ true → n ≡ id → ⊥
  from-apart n k = apart n (not-true (n == id) k)

  pub elements-left : (es : List Element) → AreElements es → AreElements (left es)
  elements-left es h = let l = length-filter (λ e. not (is_numbered id e)) es in record {
    rising = rising-filter (λ e. not (is_numbered id e)) 0 es h.rising;
    named = names-filter (λ e. not (is_numbered id e)) es h.named;
    few = omega (arith, l, h.few);
  }

  -- what has another number is found as before
  stands-left : (es : List Element) (n : ℕ) (e : Element) → (n ≡ id → ⊥) → element_at es n ≡ Some e → element_at (left es) n ≡ Some e
  stands-left es n e other h =
      let number : e.number ≡ n = (found-at es n e h).1 in
      let stays : not (is_numbered id e) ≡ true = rw number (kept n other) in
      find-filter (is_numbered n) (λ e. not (is_numbered id e)) es e h stays

  found-left : (es : List Element) (n : ℕ) → (n ≡ id → ⊥) → IsLive es n → element_at (left es) n ≡ element_at es n
  found-left es n other live = let p = live-found es n live in rw (p.1) (stands-left es n p.0 other p.1)

  live-left : (es : List Element) (n : ℕ) → (n ≡ id → ⊥) → IsLive es n → IsLive (left es) n
  live-left es n other live = rw (found-left es n other live) live

  user-left : (es : List Element) (n : ℕ) → (n ≡ id → ⊥) → IsUser es n → IsUser (left es) n
  user-left es n other user = rw (found-left es n other (user-lives es n user)) user

  each-left : (es : List Element) (ns : List ℕ) → list_any (λ n. n == id) ns ≡ false → Each (IsLive es) ns → Each (IsLive (left es)) ns
  each-left es ns none h =
      each-from (IsLive (left es)) ns (λ n c. live-left es n (apart n (none-at (λ n. n == id) ns n none c)) (each-at (IsLive es) ns n h c))

  both-left : (fits : Kind → Kind → Bool) (es : List Element) (m n : ℕ) → (m ≡ id → ⊥) → (n ≡ id → ⊥) →
      both fits (element_at es m) (element_at es n) ≡ true → both fits (element_at (left es) m) (element_at (left es) n) ≡ true
  both-left fits es m n first second k =
      let live = both-live fits (element_at es m) (element_at es n) k in
      rw (found-left es m first live.0, found-left es n second live.1) k

  -- ---- assignments

  pub pairs-within : (pairs : List (ℕ × ℕ)) → IsWithin (left_pairs pairs) pairs
  pairs-within pairs x y c = (filter-contains (λ pair. not (is_from id pair)) pairs (x, y) c).0

  pair-left : (pairs : List (ℕ × ℕ)) (x y : ℕ) → (x ≡ id → ⊥) → Contains pairs (x, y) → Contains (left_pairs pairs) (x, y)
  pair-left pairs x y other c = contains-filter (λ pair. not (is_from id pair)) pairs (x, y) c (kept x other)

  -- no assignment leads to the element
  to-apart : (pairs : List (ℕ × ℕ)) (x y : ℕ) → has_child pairs id ≡ false → Contains pairs (x, y) → y ≡ id → ⊥
  to-apart pairs x y none c = apart y (none-at (is_to id) pairs (x, y) none c)

  -- so none does that starts elsewhere
  pub leads-left : (pairs : List (ℕ × ℕ)) → has_child pairs id ≡ false → (x : ℕ) (path : List ℕ) (y : ℕ) → (x ≡ id → ⊥) →
      Leads pairs x path y → Leads (left_pairs pairs) x path y × (y ≡ id → ⊥)
  leads-left pairs none x [] y other l = (l, λ same. other (rw l same))
  leads-left pairs none x (z ∷ rest) y other l =
      let p = leads-left pairs none z rest y (to-apart pairs x z none l.0) l.1 in ((pair-left pairs x z other l.0, p.0), p.1)

  class-left : (es : List Element) (pairs : List (ℕ × ℕ)) (n : ℕ) → has_child pairs id ≡ false → (n ≡ id → ⊥) →
      HasClass es pairs n → HasClass (left es) (left_pairs pairs) n
  class-left es pairs n none other h =
      let path : IsContained pairs n h.0.number = path-from_contained pairs n h.0.number h.3 in
      let p = leads-left pairs none n path.0 h.0.number other path.1 in (
        h.0,
        contains-filter (λ e. not (is_numbered id e)) es h.0 h.1 (kept h.0.number p.1),
        h.2,
        contained-from_path (left_pairs pairs) n path.0 h.0.number p.0,
      )

  pub assigned-left : (es : List Element) (pairs : List (ℕ × ℕ)) → has_child pairs id ≡ false → AreAssigned es pairs →
      AreAssigned (left es) (left_pairs pairs)
  assigned-left es pairs none h = let l = length-filter (λ pair. not (is_from id pair)) pairs in record {
    kinds = each-from (JoinsKinds (left es)) (left_pairs pairs) (λ p c.
        let q = filter-contains (λ pair. not (is_from id pair)) pairs p c in
        both-left may_assign es p.0 p.1 (from-apart p.0 q.1) (apart p.1 (none-at (is_to id) pairs p none q.0))
        (each-at (JoinsKinds es) pairs p h.kinds q.0));
    once = once-filter (λ pair. not (is_from id pair)) pairs h.once;
    acyclic = acyclic-within (left_pairs pairs) pairs (pairs-within pairs) h.acyclic;
    classes = each-from (IsInClass (left es) (left_pairs pairs)) (left es) (λ e c.
        let q = filter-contains (λ e. not (is_numbered id e)) es e c in
        class-from (left es) (left_pairs pairs) e (class-left es pairs e.number none (from-apart e.number q.1)
        (class-found es pairs e (each-at (IsInClass es pairs) es e h.classes q.0))));
    few = omega (arith, l, h.few);
  }

  -- ---- what doesn't name the element

  pub associations-left : (es : List Element) (rights : List (List ℕ)) (associations : List Association) →
      list_any (has_end id) associations ≡ false → AreAssociations es rights associations → AreAssociations (left es) rights associations
  associations-left es rights associations none h = record {
    kinds = each-from (JoinsAttributes (left es)) associations (λ a c.
        let ends = or_parts (a.ua == id) (a.at == id) (none-at (has_end id) associations a none c) in
        both-left may_associate es a.ua a.at (apart a.ua ends.0) (apart a.at ends.1)
        (each-at (JoinsAttributes es) associations a h.kinds c));
    once = h.once;
    ordered = h.ordered;
    named = h.named;
    few = h.few;
  }

  pub procs-left : (es : List Element) (P : Procs) → list_any (is_session_of id) P.sessions ≡ false → AreProcs es P → AreProcs (left es) P
  procs-left es P none h = record {
    numbered = h.numbered;
    users = each-from (λ (s : Session). IsUser (left es) s.user) P.sessions (λ s c.
        user-left es s.user (apart s.user (none-at (is_session_of id) P.sessions s none c))
        (each-at (λ (s : Session). IsUser es s.user) P.sessions s h.users c));
    in_sessions = h.in_sessions;
    opening_session = h.opening_session;
    opening_process = h.opening_process;
    few_sessions = h.few_sessions;
    few_processes = h.few_processes;
  }

  subject-left : (es : List Element) (P : Procs) (s : Subject ℕ ℕ) → is_subject id s ≡ false → IsSubjectLive es P s →
      IsSubjectLive (left es) P s
  subject-left es P (subject.User n) other h = live-left es n (apart n other) h
  subject-left es P (subject.Ua n) other h = live-left es n (apart n other) h
  subject-left es P (subject.Process n) other h = h

  pub prohibitions-unnamed : (es : List Element) (P : Procs) (rights : List (List ℕ)) (ps : List Prohibition) →
      list_any (names_element id) ps ≡ false → AreProhibitions es P rights ps → AreProhibitions (left es) P rights ps
  prohibitions-unnamed es P rights ps none =
      prohibitions-to es (left es) P P rights rights ps (λ p c is.
      let other = none-at (names_element id) ps p none c in
      let both = or_parts (is_subject id p.subject || list_any (λ n. n == id) p.inc) (list_any (λ n. n == id) p.exc) other in
      let first = or_parts (is_subject id p.subject) (list_any (λ n. n == id) p.inc) both.0 in record {
        subject = subject-left es P p.subject first.0 is.subject;
        inc = each-left es p.inc first.1 is.inc;
        exc = each-left es p.exc both.1 is.exc;
        named = is.named;
        ranged = is.ranged;
      })

  watched-left : (es : List Element) (user : Option ℕ) → is_given id user ≡ false → may_watch es user ≡ true → may_watch (left es) user ≡ true
  watched-left es None other h = refl
  watched-left es (Some n) other h = rw (found-left es n (apart n other) (kind-lives is_actor_kind es n h)) h

  given-left : (es : List Element) (target : Option ℕ) → is_given id target ≡ false → IfSome target (IsLive es) →
      IfSome target (IsLive (left es))
  given-left es None other h = tt
  given-left es (Some n) other h = live-left es n (apart n other) h

  pub obligations-unnamed : (es : List Element) (os : List Obligation) → list_any (concerns id) os ≡ false → AreObligations es os →
      AreObligations (left es) os
  obligations-unnamed es os none =
      obligations-to es (left es) os (λ o c is.
      let other = none-at (concerns id) os o none c in
      let both = or_parts (o.author == id || is_given id o.pattern.user) (is_given id o.pattern.target) other in
      let first = or_parts (o.author == id) (is_given id o.pattern.user) both.0 in record {
        author = user-left es o.author (apart o.author first.0) is.author;
        user = watched-left es o.pattern.user first.1 is.user;
        target = given-left es o.pattern.target both.1 is.target;
      })

  pub kept-unnamed : (es : List Element) (ks : List KeptReview) → list_any (reviews id) ks ≡ false → AreKept es ks → AreKept (left es) ks
  kept-unnamed es ks none =
      kept-to es (left es) ks (λ k c is.
      let other : keeping.subject k.of ≡ id → ⊥ = apart (keeping.subject k.of) (none-at (reviews id) ks k none c) in record {
        live = live-left es (keeping.subject k.of) other is.live;
        kinds = may_keep-stays es (left es) k.of (found-left es (keeping.subject k.of) other is.live) is.kinds;
      })

  -- ---- the opening's

  pub opening-left : (es : List Element) (pairs : List (ℕ × ℕ)) → 3 ≤ id → HasOpening es pairs → HasOpening (left es) (left_pairs pairs)
  opening-left es pairs later h = record {
    elements = each-from (Stands (left es)) opening_elements
        (λ e c. stands-left es e.number e (others e c) (each-at (Stands es) opening_elements e h.elements c));
    assigned = (pair 1 0 h.assigned.0 (λ same. omega (arith, same, later)), (pair 2 1 h.assigned.1.0 (λ same. omega (arith, same, later)), tt));
  } where
    below : Each (λ (e : Element). e.number < 3) opening_elements
    below = (omega arith, (omega arith, (omega arith, tt)))

    others : (e : Element) → Contains opening_elements e → e.number ≡ id → ⊥
    others e c same = let less = each-at (λ (e : Element). e.number < 3) opening_elements e below c in omega (arith, same, less, later)

    pair : (x y : ℕ) → StandsAssigned pairs (x, y) → (x ≡ id → ⊥) → StandsAssigned (left_pairs pairs) (x, y)
    pair x y stands other = assigned-at (left_pairs pairs) x y (pair-left pairs x y other (assigned-is pairs x y stands))
