-- What is gathered for all live elements of a graph is all that its policy has.
use Rattle.std.proofs.Common.{◌≡◌, ◌==◌, ◌+◌, ℕ, true, false, List, [], ◌∷◌, map, filter, Contains, inl, inr, Some, refl, sym, ◌∙◌, ap, subst, arith, ne_eqb, eq-eqb}
use Rattle.std.proofs.lemmas.Bool.{and_from, and_parts, cases_Bool, eqb-false, eqb-true, false_from_ne_true}
use Rattle.pm_laws.proofs.Ends.{both-live}
use Rattle.pm_laws.proofs.Items.{contains-first, contains-rest, contains-filter, each-at, each-from, filter-contains, none-at, none-from}
use Rattle.pm_laws.proofs.Numbers.{found-at, live-found, rising-at, stands-at}
use Rattle.pm_model.specs.Effect.{is_from, is_pair, joins, may_associate}
use Rattle.pm_model.specs.Formed.{AreRising, Each, IsLive, IsWellFormed, JoinOnce, JoinsAttributes, StandOnce}
use Rattle.pm_model.specs.Reviews.{numbers_in}
use Rattle.pm_model.specs.State.{Graph, element_at}
use Rattle.pm_model.specs.declared.elements.Element.{Element}
use Rattle.pm_model.specs.declared.rights.Association.{Association}
use Rattle.pm_policy.specs.Order.{leads_before, sorted}
use Rattle.pm_policy.specs.PolicyOf.{doc_of, policy_assignments, policy_associations, policy_elements}
use Rattle.pm_policy.specs.Requests.{joins_before}
use Rattle.pm_policy.specs.Sound.{AreOnce, AreOnceAssigned, has_ends}
use Rattle.pm_policy.specs.declared.policy.DocAssignment.{DocAssignment}
use Rattle.pm_policy.specs.declared.policy.DocAssociation.{DocAssociation}
use Rattle.pm_policy.proofs.Drawn.{live-ends, name-apart}
use Rattle.pm_policy.proofs.Drawn as drawn
use Rattle.pm_policy.proofs.Ordered.{contains-map, map-contains, same-name}
use Rattle.pm_drawing.specs.Gathered.{AreLive, JoinsLive, association_named, doc_numbered, gathered, is_of_attribute, is_own, is_own_pair, pair_named}
use Rattle.pm_drawing.proofs.Gathering.{gathered-has, gathered-once, has-gathered}
use Rattle.pm_drawing.proofs.Ordering.{assignments-same, associations-same}

-- no two have one number
numbers-once : (n : ℕ) (es : List Element) → AreRising n es → AreOnce (λ (a b : ℕ). a == b) (numbers_in es)
numbers-once n [] h = tt
numbers-once n (e ∷ es) h = (
  none-from (λ b. e.number == b) (numbers_in es) (λ b c.
      let m = map-contains (λ (x : Element). x.number) es b c in
      let later = rising-at (e.number + 1) es m.0 h.1 m.1 in
      let is = m.2 in ne_eqb e.number b (λ same. omega (arith, later, is, same))),
  numbers-once (e.number + 1) es h.1,
)

elements-from : (es ds : List Element) → ((e : Element) → Contains ds e → element_at es e.number ≡ Some e) →
    map (doc_numbered es) (filter is_own (numbers_in ds)) ≡ map doc_of (filter (λ (e : Element). is_own e.number) ds)
elements-from es [] stands = refl
elements-from es (e ∷ ds) stands =
    let rest = elements-from es ds (λ d c. stands d (contains-rest e d ds c)) in
    elim (cases_Bool (is_own e.number)) [
      | inl own ↦ rw (own, stands e (contains-first e ds)) (ap (λ l. doc_of e ∷ l) rest)
      | inr other ↦ rw other rest
    ]

module _ (G : Graph) (f : IsWellFormed G) where
  abbrev live : List ℕ
  live = numbers_in G.elements

  pub elements-whole : (es : List Element) (ns : List ℕ) → es ≡ G.elements → ns ≡ live → map (doc_numbered es) (filter is_own ns) ≡ policy_elements G
  elements-whole es ns same all =
      rw (same, all) (elements-from G.elements G.elements (λ e c. stands-at 0 G.elements e f.elements.rising c))

  listed : (n : ℕ) → IsLive G.elements n → Contains live n
  listed n h =
      let e = live-found G.elements n h in
      let at = found-at G.elements n e.0 e.1 in
      subst (λ m. Contains live m) at.1 (contains-map (λ (x : Element). x.number) G.elements e.0 at.0)

  -- ---- assignments

  abbrev pub pairs : List (ℕ × ℕ)
  pairs = gathered is_from live G.assigned

  pub pairs-live : Each (AreLive G.elements) pairs
  pairs-live = each-from (AreLive G.elements) pairs (λ p c. live-ends G f p (has-gathered is_from live G.assigned p c))

  once-of : (ps : List (ℕ × ℕ)) → StandOnce ps → AreOnce (λ (p : ℕ × ℕ). is_pair p.0 p.1) ps
  once-of [] h = tt
  once-of (p ∷ ps) h = (h.0, once-of ps h.1)

  of-once : (ps : List (ℕ × ℕ)) → AreOnce (λ (p : ℕ × ℕ). is_pair p.0 p.1) ps → StandOnce ps
  of-once [] h = tt
  of-once (p ∷ ps) h = (h.0, of-once ps h.1)

  pairs-apart : (m n : ℕ) (p q : ℕ × ℕ) → (m == n) ≡ false → is_from m p ≡ true → is_from n q ≡ true → is_pair p.0 p.1 q ≡ false
  pairs-apart m n p q other mine yours = false_from_ne_true (is_pair p.0 p.1 q) (λ is.
      let same = eqb-true q.0 p.0 (and_parts (q.0 == p.0) (q.1 == p.1) is).0 in
      eqb-false m n other (sym (eqb-true p.0 m mine) ∙ sym same ∙ eqb-true q.0 n yours))

  abbrev pub pairs-shown : List DocAssignment
  pairs-shown = map (pair_named G.elements) (filter is_own_pair pairs)

  pub pairs-once : AreOnceAssigned pairs-shown
  pairs-once =
      drawn.pairs-once G f pairs (λ p c. has-gathered is_from live G.assigned p c)
      (of-once pairs (gathered-once is_from (λ (p : ℕ × ℕ). is_pair p.0 p.1) live G.assigned (numbers-once 0 G.elements f.elements.rising) pairs-apart
      (once-of G.assigned f.assigned.once)))

  pairs-to : (d : DocAssignment) → Contains pairs-shown d → Contains (policy_assignments G) d
  pairs-to d c =
      let m = map-contains (pair_named G.elements) (filter is_own_pair pairs) d c in
      let p = filter-contains is_own_pair pairs m.0 m.1 in
      subst (λ x. Contains (policy_assignments G) x) m.2
      (contains-map (pair_named G.elements) (filter is_own_pair G.assigned) m.0
      (contains-filter is_own_pair G.assigned m.0 (has-gathered is_from live G.assigned m.0 p.0) p.1))

  pairs-from : (d : DocAssignment) → Contains (policy_assignments G) d → Contains pairs-shown d
  pairs-from d c =
      let m = map-contains (pair_named G.elements) (filter is_own_pair G.assigned) d c in
      let p = filter-contains is_own_pair G.assigned m.0 m.1 in
      subst (λ x. Contains pairs-shown x) m.2
      (contains-map (pair_named G.elements) (filter is_own_pair pairs) m.0
      (contains-filter is_own_pair pairs m.0
      (gathered-has is_from live G.assigned m.0.0 m.0 (listed m.0.0 (live-ends G f m.0 p.0).0) p.0 (eq-eqb m.0.0 m.0.0 refl)) p.1))

  pub pairs-sorted : sorted leads_before pairs-shown ≡ sorted leads_before (policy_assignments G)
  pairs-sorted =
      assignments-same pairs-shown (policy_assignments G) pairs-once (drawn.pairs-once G f G.assigned (λ p c. c) f.assigned.once) pairs-to pairs-from

  -- ---- associations

  abbrev pub grants-whole : List Association
  grants-whole = gathered is_of_attribute live G.associations

  abbrev named : Association → DocAssociation
  named a = association_named G.elements G.rights a

  ends-live : (a : Association) → Contains G.associations a → JoinsLive G.elements a
  ends-live a c = both-live may_associate (element_at G.elements a.ua) (element_at G.elements a.at) (each-at (JoinsAttributes G.elements) G.associations a f.associations.kinds c)

  pub grants-live : Each (JoinsLive G.elements) grants-whole
  grants-live = each-from (JoinsLive G.elements) grants-whole (λ a c. ends-live a (has-gathered is_of_attribute live G.associations a c))

  joined-of : (xs : List Association) → JoinOnce xs → AreOnce (λ (a : Association). joins a.ua a.at) xs
  joined-of [] h = tt
  joined-of (a ∷ xs) h = (h.0, joined-of xs h.1)

  joins-apart : (m n : ℕ) (a b : Association) → (m == n) ≡ false → is_of_attribute m a ≡ true → is_of_attribute n b ≡ true → joins a.ua a.at b ≡ false
  joins-apart m n a b other mine yours = false_from_ne_true (joins a.ua a.at b) (λ is.
      let same = eqb-true b.ua a.ua (and_parts (b.ua == a.ua) (b.at == a.at) is).0 in
      eqb-false m n other (sym (eqb-true a.ua m mine) ∙ sym same ∙ eqb-true b.ua n yours))

  named-apart : (a b : Association) → Contains G.associations a → Contains G.associations b → joins a.ua a.at b ≡ false → has_ends (named a) (named b) ≡ false
  named-apart a b ac bc other = false_from_ne_true (has_ends (named a) (named b)) (λ is.
      let e = and_parts _ _ is in
      let ua : a.ua ≡ b.ua = name-apart G f a.ua b.ua (ends-live a ac).0 (ends-live b bc).0 (same-name _ _ e.0) in
      let at : a.at ≡ b.at = name-apart G f a.at b.at (ends-live a ac).1 (ends-live b bc).1 (same-name _ _ e.1) in
      let yes : joins a.ua a.at b ≡ true = and_from _ _ (eq-eqb b.ua a.ua (sym ua)) (eq-eqb b.at a.at (sym at)) in cc)

  named-once : (xs : List Association) → ((a : Association) → Contains xs a → Contains G.associations a) → AreOnce (λ (a : Association). joins a.ua a.at) xs →
      AreOnce has_ends (map named xs)
  named-once [] sub h = tt
  named-once (a ∷ xs) sub h = (
    none-from (has_ends (named a)) (map named xs) (λ d c.
        let m = map-contains named xs d c in
        subst (λ x. has_ends (named a) x ≡ false) m.2
        (named-apart a m.0 (sub a (contains-first a xs)) (sub m.0 (contains-rest a m.0 xs m.1)) (none-at (joins a.ua a.at) xs m.0 h.0 m.1))),
    named-once xs (λ b c. sub b (contains-rest a b xs c)) h.1,
  )

  pub grants-once : AreOnce has_ends (map named grants-whole)
  grants-once =
      named-once grants-whole (λ a c. has-gathered is_of_attribute live G.associations a c)
      (gathered-once is_of_attribute (λ (a : Association). joins a.ua a.at) live G.associations (numbers-once 0 G.elements f.elements.rising) joins-apart
      (joined-of G.associations f.associations.once))

  grants-to : (d : DocAssociation) → Contains (map named grants-whole) d → Contains (policy_associations G) d
  grants-to d c =
      let m = map-contains named grants-whole d c in
      subst (λ x. Contains (policy_associations G) x) m.2
      (contains-map named G.associations m.0 (has-gathered is_of_attribute live G.associations m.0 m.1))

  grants-from : (d : DocAssociation) → Contains (policy_associations G) d → Contains (map named grants-whole) d
  grants-from d c =
      let m = map-contains named G.associations d c in
      subst (λ x. Contains (map named grants-whole) x) m.2
      (contains-map named grants-whole m.0
      (gathered-has is_of_attribute live G.associations m.0.ua m.0 (listed m.0.ua (ends-live m.0 m.1).0) m.1 (eq-eqb m.0.ua m.0.ua refl)))

  pub grants-sorted : sorted joins_before (map named grants-whole) ≡ sorted joins_before (policy_associations G)
  grants-sorted =
      associations-same (map named grants-whole) (policy_associations G) grants-once
      (named-once G.associations (λ a c. c) (joined-of G.associations f.associations.once)) grants-to grants-from
