-- The document of a well formed graph is sound.
use Rattle.std.proofs.Common.{◌≡◌, ◌≤◌, ◌<◌, ◌+◌, ◌&&◌, ℕ, zero, suc, Bool, true, false, not, List, [], ◌∷◌, ◌++◌, length, filter, map, Some, Contains, inl, inr, refl, sym, ◌∙◌, ap, subst, arith, bytes_eq, codes, ne_eqb}
use Rattle.std.specs.List.{list_any}
use Rattle.std.proofs.lemmas.Bool.{not-false, or_left, or_right, and_parts, cases_Bool, ltb-false, ltb-true, not-true, false_from_ne_true}
use Rattle.std.proofs.lemmas.Slice.Eq.{bytes_eq-Decides}
use Rattle.std.proofs.lemmas.List.Elements.{Contains-append_cases, Contains-append_right, Contains-append_left}
use Rattle.pm_model.specs.State.{Graph, element, is_numbered, is_named, element_at, name_numbered, name_or_none, is_class, is_class_kind, opening_assigned}
use Rattle.pm_model.specs.Containment.{Leads, contained}
use Rattle.pm_model.specs.Effect as effects
use Rattle.pm_model.specs.Effect.{may_assign, is_builtin, is_builtin_element, is_pair, max_elements, max_assignments}
use Rattle.pm_model.specs.Formed.{Each, IsLive, IsInClass, JoinsKinds, StandsAssigned, HaveOwnNames, StandOnce, IsWellFormed}
use Rattle.pm_model.specs.declared.elements.Element.{Element}
use Rattle.pm_model.specs.declared.elements.Kind.TheVariants.{User, Ua, Pc}
use Rattle.pm_model.proofs.ContainmentLaws.{path-from_contained}
use Rattle.pm_laws.proofs.Ends.{joins-live}
use Rattle.pm_laws.proofs.Names.{one-name}
use Rattle.pm_laws.proofs.Numbers.{stands-at, found-at, live-found}
use Rattle.pm_laws.proofs.Pairs.{assigned-is, pair-itself}
use Rattle.pm_laws.proofs.Items.{contains-first, contains-rest, contains-cases, contains-none, contains-filter, filter-contains, none-from, none-at, any-from, any-found, each-at, each-from, filter-split}
use Rattle.pm_policy.specs.Policy.{assignment, is_assigned, is_called, is_same, called, opening_docs, standing}
use Rattle.pm_policy.specs.PolicyOf.{doc_of, policy_elements, policy_assignments}
use Rattle.pm_policy.specs.Sound.{AreOnceCalled, AreOnceAssigned, HasContainer, LeadsOn, opening_pairs, FitAssigned}
use Rattle.pm_policy.specs.Sound as sound
use Rattle.pm_policy.specs.declared.policy.DocElement.{DocElement}
use Rattle.pm_policy.specs.declared.policy.DocAssignment.{DocAssignment}
use Rattle.pm_policy.proofs.Ordered.{contains-map, map-contains, called-once, same-name, filter-fewer}
use Rattle.pm_policy.proofs.Sorted.{length-parted}

module _ (G : Graph) (f : IsWellFormed G) where
  abbrev pub shown : (ℕ × ℕ) → DocAssignment
  shown r = assignment (name_numbered G.elements r.0) (name_numbered G.elements r.1)

  abbrev pub names : ℕ → List ℕ
  names n = name_numbered G.elements n

  pub live-ends : (r : ℕ × ℕ) → Contains G.assigned r → IsLive G.elements r.0 × IsLive G.elements r.1
  live-ends r c = joins-live G.elements r.0 r.1 (each-at (JoinsKinds G.elements) G.assigned r f.assigned.kinds c)

  pub name-apart : (x y : ℕ) → IsLive G.elements x → IsLive G.elements y → name_numbered G.elements x ≡ name_numbered G.elements y → x ≡ y
  name-apart x y lx ly same =
      let d = live-found G.elements x lx in
      let e = live-found G.elements y ly in
      let dc = found-at G.elements x d.0 d.1 in
      let ec = found-at G.elements y e.0 e.1 in
      let names : d.0.name ≡ e.0.name = ap name_or_none (sym d.1) ∙ same ∙ ap name_or_none e.1 in
      let one : d.0 ≡ e.0 = one-name G.elements d.0 e.0 f.elements.named dc.0 ec.0 names in
      sym dc.1 ∙ ap (λ (e : Element). e.number) one ∙ ec.1

  -- ---- no cycle

  abbrev known : List DocAssignment
  known = opening_pairs ++ policy_assignments G

  opening-at : (x y : ℕ) → Contains opening_assigned (x, y) → Contains G.assigned (x, y)
  opening-at x y c = assigned-is G.assigned x y (each-at (StandsAssigned G.assigned) opening_assigned (x, y) f.opening.assigned c)

  known-shown : (q : DocAssignment) → Contains known q → (r : ℕ × ℕ) × Contains G.assigned r × (shown r ≡ q)
  known-shown q c = elim (Contains-append_cases opening_pairs (policy_assignments G) q c) [
    | inl old ↦ elim (contains-cases (assignment (codes "pm_admins") (codes "pm")) q (assignment (codes "root") (codes "pm_admins") ∷ []) old) [
      | inl first ↦ ((1, 0), opening-at 1 0 (contains-first (1, 0) ((2, 1) ∷ [])), admins ∙ first)
      | inr more ↦ elim (contains-cases (assignment (codes "root") (codes "pm_admins")) q [] more) [
        | inl second ↦ ((2, 1), opening-at 2 1 (contains-rest (1, 0) (2, 1) ((2, 1) ∷ []) (contains-first (2, 1) [])), of_root ∙ second)
        | inr none ↦ contains-none q none
      ]
    ]
    | inr new ↦
        let m = map-contains shown (filter (λ (p : ℕ × ℕ). not (is_builtin p.0 p.1)) G.assigned) q new in
        (m.0, (filter-contains (λ (p : ℕ × ℕ). not (is_builtin p.0 p.1)) G.assigned m.0 m.1).0, m.2)
  ] where
    admins : shown (1, 0) ≡ assignment (codes "pm_admins") (codes "pm")
    admins = rw (f.opening.elements.0, f.opening.elements.1.0) refl

    of_root : shown (2, 1) ≡ assignment (codes "root") (codes "pm_admins")
    of_root = rw (f.opening.elements.1.0, f.opening.elements.1.1.0) refl

  numbers-path : (a : List ℕ) (path : List (List ℕ)) (b : List ℕ) → LeadsOn known a path b → (x : ℕ) → IsLive G.elements x → names x ≡ a →
      (numbers : List ℕ) × (y : ℕ) × Leads G.assigned x numbers y × IsLive G.elements y × (names y ≡ b)
  numbers-path a [] b h x live is = ([], x, refl, live, is ∙ h)
  numbers-path a (z ∷ path) b h x live is =
      let r = known-shown (assignment a z) h.0 in
      let l = live-ends r.0 r.1 in
      let from : names r.0.0 ≡ a = ap (λ (p : DocAssignment). p.from) r.2 in
      let to : names r.0.1 ≡ z = ap (λ (p : DocAssignment). p.to) r.2 in
      let same : r.0.0 ≡ x = name-apart r.0.0 x l.0 live (from ∙ sym is) in
      let rest = numbers-path z path b h.1 r.0.1 l.1 to in
      (r.0.1 ∷ rest.0, rest.1, (subst (λ n. Contains G.assigned (n, r.0.1)) same r.1, rest.2), rest.3, rest.4)

  pub drawn-acyclic : sound.IsAcyclic known
  drawn-acyclic a z path round =
      let r = known-shown (assignment a z) round.0 in
      let l = live-ends r.0 r.1 in
      let from : names r.0.0 ≡ a = ap (λ (p : DocAssignment). p.from) r.2 in
      let to : names r.0.1 ≡ z = ap (λ (p : DocAssignment). p.to) r.2 in
      let rest = numbers-path z path a round.1 r.0.1 l.1 to in
      let back : rest.1 ≡ r.0.0 = name-apart rest.1 r.0.0 rest.3 l.0 (rest.4 ∙ sym from) in
      f.assigned.acyclic r.0.0 r.0.1 rest.0 (r.1, subst (λ n. Leads G.assigned r.0.1 rest.0 n) back rest.2)

  -- ---- each element has a container

  abbrev is_own : Element → Bool
  is_own e = not (is_builtin_element e.number)

  own-far : (e : Element) → is_own e ≡ true → 3 ≤ e.number
  own-far e h = ltb-false e.number 3 (not-true (is_builtin_element e.number) h)

  not-builtin : (x y : ℕ) → 3 ≤ x → is_builtin x y ≡ false
  not-builtin x y far = rw (ne_eqb x 1 (λ is. omega (arith, is, far)), ne_eqb x 2 (λ is. omega (arith, is, far))) refl

  in-class : (e : Element) → Contains G.elements e → is_own e ≡ true → HasContainer (policy_assignments G) (doc_of e)
  in-class e c own =
      let p = any-found (λ c. is_class c && contained G.assigned e.number c.number) G.elements (each-at (IsInClass G.elements G.assigned) G.elements e f.assigned.classes c) in
      let b = and_parts (is_class p.0) (contained G.assigned e.number p.0.number) p.2 in
      let path = path-from_contained G.assigned e.number p.0.number b.1 in
      of path.0 p.0 path.1 p.1 b.0 where
        of : (path : List ℕ) (k : Element) → Leads G.assigned e.number path k.number → Contains G.elements k → is_class k ≡ true →
            HasContainer (policy_assignments G) (doc_of e)
        of [] k leads kc class =
            let at = stands-at 0 G.elements e f.elements.rising c in
            let kt = stands-at 0 G.elements k f.elements.rising kc in
            let found : Some e ≡ Some k = sym at ∙ ap (λ n. element_at G.elements n) leads ∙ kt in
            let same : e ≡ k = cc in
            or_left (is_class_kind e.kind) (list_any (is_assigned e.name) (policy_assignments G)) (subst (λ (x : Element). is_class x ≡ true) (sym same) class)
        of (z ∷ path) k leads kc class =
            let at = stands-at 0 G.elements e f.elements.rising c in
            let name : name_numbered G.elements e.number ≡ e.name = ap name_or_none at in
            let there = contains-map (λ (r : ℕ × ℕ). assignment (name_numbered G.elements r.0) (name_numbered G.elements r.1))
            (filter (λ (p : ℕ × ℕ). not (is_builtin p.0 p.1)) G.assigned) (e.number, z)
            (contains-filter (λ (p : ℕ × ℕ). not (is_builtin p.0 p.1)) G.assigned (e.number, z) leads.0 (rw (not-builtin e.number z (own-far e own)) refl)) in
            or_right (is_class_kind e.kind) (list_any (is_assigned e.name) (policy_assignments G))
            (any-from (is_assigned e.name) (policy_assignments G) (shown (e.number, z)) there ((bytes_eq-Decides e.name (names e.number)).1 (sym name)))

  pub drawn-contained : Each (HasContainer (policy_assignments G)) (policy_elements G)
  drawn-contained = each-from (HasContainer (policy_assignments G)) (policy_elements G) (λ d c.
      let m = map-contains doc_of (filter is_own G.elements) d c in
      let q = filter-contains is_own G.elements m.0 m.1 in
      subst (λ x. HasContainer (policy_assignments G) x) m.2 (in-class m.0 q.0 q.1))

  -- ---- names

  own-names : (es : List Element) → HaveOwnNames es → AreOnceCalled (map doc_of (filter is_own es))
  own-names [] h = tt
  own-names (e ∷ es) h = filter-split is_own (λ kept. AreOnceCalled (map doc_of kept)) e es
      (λ is. (
        none-from (is_called e.name) (map doc_of (filter is_own es)) (λ d c.
            let m = map-contains doc_of (filter is_own es) d c in
            let q = filter-contains is_own es m.0 m.1 in
            subst (λ x. is_called e.name x ≡ false) m.2 (none-at (is_named e.name) es m.0 h.0 q.0)),
        own-names es h.1,
      ))
      (λ is. own-names es h.1)

  -- none of the others has the name of an element of the opening
  other-name : (o : Element) → element_at G.elements o.number ≡ Some o → o.number < 3 → list_any (is_called o.name) (policy_elements G) ≡ false
  other-name o at near = none-from (is_called o.name) (policy_elements G) (λ d c.
      let m = map-contains doc_of (filter is_own G.elements) d c in
      let q = filter-contains is_own G.elements m.0 m.1 in
      false_from_ne_true (is_called o.name d) (λ is.
      let named : o.name ≡ m.0.name = same-name o.name d.name is ∙ ap (λ (x : DocElement). x.name) (sym m.2) in
      let oc = (found-at G.elements o.number o at).0 in
      let same : o ≡ m.0 = one-name G.elements o m.0 f.elements.named oc q.0 named in
      let far = own-far m.0 q.1 in
      let number : o.number ≡ m.0.number = ap (λ (x : Element). x.number) same in omega (arith, far, number, near)))

  pub drawn-once : AreOnceCalled (standing (policy_elements G))
  drawn-once =
      let s = f.opening.elements in (
        other-name _ s.0 (omega arith),
        (other-name _ s.1.0 (omega arith), (other-name _ s.1.1.0 (omega arith), own-names G.elements f.elements.named)),
      )

  -- ---- kinds

  opening-is : (n : ℕ) (e : Element) → element_at G.elements n ≡ Some e → n < 3 → Contains opening_docs (doc_of e)
  opening-is zero e at near =
      let found : Some (element 0 Pc (codes "pm")) ≡ Some e = sym f.opening.elements.0 ∙ at in
      let same : element 0 Pc (codes "pm") ≡ e = cc in
      subst (λ x. Contains opening_docs (doc_of x)) same (0, omega arith, refl)
  opening-is (suc zero) e at near =
      let found : Some (element 1 Ua (codes "pm_admins")) ≡ Some e = sym f.opening.elements.1.0 ∙ at in
      let same : element 1 Ua (codes "pm_admins") ≡ e = cc in
      subst (λ x. Contains opening_docs (doc_of x)) same (1, omega arith, refl)
  opening-is (suc (suc zero)) e at near =
      let found : Some (element 2 User (codes "root")) ≡ Some e = sym f.opening.elements.1.1.0 ∙ at in
      let same : element 2 User (codes "root") ≡ e = cc in
      subst (λ x. Contains opening_docs (doc_of x)) same (2, omega arith, refl)
  opening-is (suc (suc (suc n))) e at near = absurd (omega (arith, near))

  pub drawn-called : (n : ℕ) (e : Element) → element_at G.elements n ≡ Some e → called (standing (policy_elements G)) (names n) ≡ Some (doc_of e)
  drawn-called n e at =
      let c = found-at G.elements n e at in
      let there : Contains (standing (policy_elements G)) (doc_of e) = elim (cases_Bool (is_own e)) [
        | inl own ↦ Contains-append_right opening_docs (policy_elements G) (doc_of e) (contains-map doc_of (filter is_own G.elements) e (contains-filter is_own G.elements e c.0 own))
        | inr builtin ↦ Contains-append_left opening_docs (policy_elements G) (doc_of e) (opening-is n e at (let near = ltb-true e.number 3 (not-false (is_builtin_element e.number) builtin) in let is = c.1 in omega (arith, near, is)))
      ] in
      let name : names n ≡ e.name = ap name_or_none at in
      subst (λ m. called (standing (policy_elements G)) m ≡ Some (doc_of e)) (sym name) (called-once (standing (policy_elements G)) (doc_of e) drawn-once there)

  pub drawn-kinds : Each (FitAssigned (standing (policy_elements G))) (policy_assignments G)
  drawn-kinds = each-from (FitAssigned (standing (policy_elements G))) (policy_assignments G) (λ p c.
      let m = map-contains shown (filter (λ (p : ℕ × ℕ). not (is_builtin p.0 p.1)) G.assigned) p c in
      let q = (filter-contains (λ (p : ℕ × ℕ). not (is_builtin p.0 p.1)) G.assigned m.0 m.1).0 in
      let l = live-ends m.0 q in
      let a = live-found G.elements m.0.0 l.0 in
      let b = live-found G.elements m.0.1 l.1 in
      let fit : effects.both may_assign (element_at G.elements m.0.0) (element_at G.elements m.0.1) ≡ true = each-at (JoinsKinds G.elements) G.assigned m.0 f.assigned.kinds q in
      let kinds : may_assign a.0.kind b.0.kind ≡ true = rw (a.1, b.1) at fit in
      subst (λ x. FitAssigned (standing (policy_elements G)) x) m.2
      (rw (drawn-called m.0.0 a.0 a.1, drawn-called m.0.1 b.0 b.1) kinds))

  -- ---- no assignment twice

  shown-apart : (p r : ℕ × ℕ) → Contains G.assigned p → Contains G.assigned r → is_same (shown p) (shown r) ≡ true → p ≡ r
  shown-apart p r pc rc is =
      let b = and_parts (bytes_eq (names p.0) (names r.0)) (bytes_eq (names p.1) (names r.1)) is in
      let pl = live-ends p pc in
      let rl = live-ends r rc in
      let from : p.0 ≡ r.0 = name-apart p.0 r.0 pl.0 rl.0 (same-name (names p.0) (names r.0) b.0) in
      let to : p.1 ≡ r.1 = name-apart p.1 r.1 pl.1 rl.1 (same-name (names p.1) (names r.1) b.1) in
      rw (from, to) refl

  pub pairs-once : (ps : List (ℕ × ℕ)) → ((p : ℕ × ℕ) → Contains ps p → Contains G.assigned p) → StandOnce ps →
      AreOnceAssigned (map shown (filter (λ (p : ℕ × ℕ). not (is_builtin p.0 p.1)) ps))
  pairs-once [] sub h = tt
  pairs-once (p ∷ ps) sub h = let rest = pairs-once ps (λ r c. sub r (contains-rest p r ps c)) h.1 in
      filter-split (λ (p : ℕ × ℕ). not (is_builtin p.0 p.1)) (λ kept. AreOnceAssigned (map shown kept)) p ps
      (λ is. (
        none-from (is_same (shown p)) (map shown (filter (λ (p : ℕ × ℕ). not (is_builtin p.0 p.1)) ps)) (λ q c.
            let m = map-contains shown (filter (λ (p : ℕ × ℕ). not (is_builtin p.0 p.1)) ps) q c in
            let d = (filter-contains (λ (p : ℕ × ℕ). not (is_builtin p.0 p.1)) ps m.0 m.1).0 in
            false_from_ne_true (is_same (shown p) q) (λ is.
            let same : p ≡ m.0 = shown-apart p m.0 (sub p (contains-first p ps)) (sub m.0 (contains-rest p m.0 ps d)) (subst (λ x. is_same (shown p) x ≡ true) (sym m.2) is) in
            let no : is_pair p.0 p.1 m.0 ≡ false = none-at (is_pair p.0 p.1) ps m.0 h.0 d in
            let yes : is_pair p.0 p.1 m.0 ≡ true = subst (λ x. is_pair p.0 p.1 x ≡ true) same (pair-itself p.0 p.1) in cc)),
        rest,
      ))
      (λ is. rest)

  -- none of the others is the opening's
  apart-builtin : (r : ℕ × ℕ) (o : DocAssignment) → Contains G.assigned r → is_builtin r.0 r.1 ≡ true → shown r ≡ o → list_any (is_same o) (policy_assignments G) ≡ false
  apart-builtin r o rc builtin shows = none-from (is_same o) (policy_assignments G) (λ q c.
      let m = map-contains shown (filter (λ (p : ℕ × ℕ). not (is_builtin p.0 p.1)) G.assigned) q c in
      let d = filter-contains (λ (p : ℕ × ℕ). not (is_builtin p.0 p.1)) G.assigned m.0 m.1 in
      false_from_ne_true (is_same o q) (λ is.
      let same : r ≡ m.0 = shown-apart r m.0 rc d.0 (subst (λ x. is_same x (shown m.0) ≡ true) (sym shows) (subst (λ x. is_same o x ≡ true) (sym m.2) is)) in
      let no : is_builtin m.0.0 m.0.1 ≡ false = not-true (is_builtin m.0.0 m.0.1) d.1 in
      let yes : is_builtin m.0.0 m.0.1 ≡ true = subst (λ (x : ℕ × ℕ). is_builtin x.0 x.1 ≡ true) same builtin in cc))

  pub drawn-assigned-once : AreOnceAssigned known
  drawn-assigned-once =
      let one = opening-at 1 0 (contains-first (1, 0) ((2, 1) ∷ [])) in
      let two = opening-at 2 1 (contains-rest (1, 0) (2, 1) ((2, 1) ∷ []) (contains-first (2, 1) [])) in (
        apart-builtin (1, 0) (assignment (codes "pm_admins") (codes "pm")) one refl (rw (f.opening.elements.0, f.opening.elements.1.0) refl),
        (
          apart-builtin (2, 1) (assignment (codes "root") (codes "pm_admins")) two refl (rw (f.opening.elements.1.0, f.opening.elements.1.1.0) refl),
          pairs-once G.assigned (λ p c. c) f.assigned.once,
        ),
      )

  -- ---- counts

  pub length-map : {X Y : Type 0} (g : X → Y) (xs : List X) → length (map g xs) ≡ length xs
  length-map g [] = refl
  length-map g (x ∷ xs) = let rest = length-map g xs in omega (arith, rest)

  abbrev other-numbered : (n : ℕ) → Element → Bool
  other-numbered n e = not (is_numbered n e)

  pub drawn-few : length (policy_elements G) + 3 ≤ max_elements
  drawn-few =
      let s = f.opening.elements in
      let builtin = filter (λ e. not (is_own e)) G.elements in
      let c0 = contains-filter (λ e. not (is_own e)) G.elements (element 0 Pc (codes "pm")) (found-at G.elements 0 (element 0 Pc (codes "pm")) s.0).0 refl in
      let c1 = contains-filter (λ e. not (is_own e)) G.elements (element 1 Ua (codes "pm_admins")) (found-at G.elements 1 (element 1 Ua (codes "pm_admins")) s.1.0).0 refl in
      let c2 = contains-filter (λ e. not (is_own e)) G.elements (element 2 User (codes "root")) (found-at G.elements 2 (element 2 User (codes "root")) s.1.1.0).0 refl in
      let one = filter-fewer (other-numbered 0) builtin (element 0 Pc (codes "pm")) c0 refl in
      let b1 = contains-filter (other-numbered 0) builtin (element 1 Ua (codes "pm_admins")) c1 refl in
      let b2 = contains-filter (other-numbered 0) builtin (element 2 User (codes "root")) c2 refl in
      let two = filter-fewer (other-numbered 1) (filter (other-numbered 0) builtin) (element 1 Ua (codes "pm_admins")) b1 refl in
      let d2 = contains-filter (other-numbered 1) (filter (other-numbered 0) builtin) (element 2 User (codes "root")) b2 refl in
      let three = filter-fewer (other-numbered 2) (filter (other-numbered 1) (filter (other-numbered 0) builtin)) (element 2 User (codes "root")) d2 refl in
      let parted = length-parted is_own G.elements in
      let mapped = length-map doc_of (filter is_own G.elements) in
      let few = f.elements.few in
      omega (arith, one, two, three, parted, mapped, few)

  pub drawn-few-assigned : length (policy_assignments G) + 2 ≤ max_assignments
  drawn-few-assigned =
      let builtin = filter (λ (p : ℕ × ℕ). not (not (is_builtin p.0 p.1))) G.assigned in
      let c1 = contains-filter (λ (p : ℕ × ℕ). not (not (is_builtin p.0 p.1))) G.assigned (1, 0) (opening-at 1 0 (contains-first (1, 0) ((2, 1) ∷ []))) refl in
      let c2 = contains-filter (λ (p : ℕ × ℕ). not (not (is_builtin p.0 p.1))) G.assigned (2, 1) (opening-at 2 1 (contains-rest (1, 0) (2, 1) ((2, 1) ∷ []) (contains-first (2, 1) []))) refl in
      let one = filter-fewer (λ (p : ℕ × ℕ). not (is_pair 1 0 p)) builtin (1, 0) c1 refl in
      let b2 = contains-filter (λ (p : ℕ × ℕ). not (is_pair 1 0 p)) builtin (2, 1) c2 refl in
      let two = filter-fewer (λ (p : ℕ × ℕ). not (is_pair 2 1 p)) (filter (λ (p : ℕ × ℕ). not (is_pair 1 0 p)) builtin) (2, 1) b2 refl in
      let parted = length-parted (λ (p : ℕ × ℕ). not (is_builtin p.0 p.1)) G.assigned in
      let mapped = length-map shown (filter (λ (p : ℕ × ℕ). not (is_builtin p.0 p.1)) G.assigned) in
      let few = f.assigned.few in
      omega (arith, one, two, parted, mapped, few)

  pub drawn-sound : sound.AreSound (policy_elements G) (policy_assignments G)
  drawn-sound = record {
    once = drawn-once;
    assigned_once = drawn-assigned-once;
    kinds = drawn-kinds;
    acyclic = drawn-acyclic;
    contained = drawn-contained;
    few = drawn-few;
    few_assigned = drawn-few-assigned;
  }
