-- The policy of the graph that a history leads to is sound, one rule after another.
use Rattle.std.proofs.Common.{◌≡◌, ◌≤◌, ◌+◌, ℕ, Bool, true, false, not, List, [], ◌∷◌, ◌++◌, length, map, filter, drop, bytes_eq, Contains, inl, inr, Some, sym, ◌∙◌, ap, subst, arith, eq-eqb}
use Rattle.std.specs.List.{list_any, list_all}
use Rattle.std.proofs.lemmas.Bool.{and_parts, and_from, false_from_ne_true, not-true, or_cases, or_left, or_right}
use Rattle.std.proofs.lemmas.List.{take-append-drop, length-drop}
use Rattle.std.proofs.lemmas.List.Elements.{Contains-append_cases, Contains-append_left, Contains-append_right}
use Rattle.pm_model.specs.State.{Graph, element_at, is_class_kind, name_numbered}
use Rattle.pm_model.specs.Effect as effects
use Rattle.pm_model.specs.Effect.{has_subject_kind, is_place, is_place_kind, is_ua_kind, is_user_kind, joins, may_associate, may_prohibit}
use Rattle.pm_model.specs.Formed.{Each, IsLive, IsWellFormed, JoinOnce, JoinsAttributes, NameOnce}
use Rattle.pm_model.specs.Formed as formed
use Rattle.pm_model.specs.History.{IsLegal, replay}
use Rattle.pm_model.specs.Prohibitions as prohibited
use Rattle.pm_model.specs.RightSet.{opening_rights}
use Rattle.pm_model.specs.declared.elements.Element.{Element}
use Rattle.pm_model.specs.declared.elements.Kind.{Kind}
use Rattle.pm_model.specs.declared.prohibitions.Prohibition.{Prohibition}
use Rattle.pm_model.specs.declared.prohibitions.Subject.{Subject}
use Rattle.pm_model.specs.declared.prohibitions.Subject.TheVariants as subject
use Rattle.pm_model.specs.declared.requests.Entry.{Entry}
use Rattle.pm_model.specs.declared.rights.Association.{Association}
use Rattle.pm_laws.proofs.Ends.{both-live, kind-lives}
use Rattle.pm_laws.proofs.Items.{any-from, any-found, contains-first, contains-rest, each-at, each-from, filter-contains, filter-split, length-filter, none-at, none-from}
use Rattle.pm_laws.proofs.Numbers.{live-found}
use Rattle.pm_laws.proofs.Replayed.{legal_history}
use Rattle.pm_laws.proofs.RightNames.{opening-few}
use Rattle.pm_policy.specs.Drawn.{policy_in_order}
use Rattle.pm_policy.specs.Order.{leads_before, sorted, stands_before}
use Rattle.pm_policy.specs.Policy.{called, is_assigned, is_called, is_same, opening_docs, standing}
use Rattle.pm_policy.specs.PolicyOf.{association, doc_of, is_bit_in, is_on_process, policy_assignments, policy_associations, policy_elements, policy_prohibition, policy_prohibitions, policy_rights, rights_named, subject_named}
use Rattle.pm_model.specs.RightSet.{bit_named}
use Rattle.pm_policy.specs.Requests.{joins_before}
use Rattle.pm_policy.specs.Sound.{AreOnce, AreOnceCalled, AreRightsOf, AreSound, FitAssigned, FitsSubject, HasContainer, IsAssociation, IsPlace, IsProhibition, IsSound, LeadsOn, has_ends, has_kind, opening_pairs}
use Rattle.pm_policy.specs.declared.policy.DocAssignment.{DocAssignment}
use Rattle.pm_policy.specs.declared.policy.DocAssociation.{DocAssociation}
use Rattle.pm_policy.specs.declared.policy.DocElement.{DocElement}
use Rattle.pm_policy.specs.declared.policy.DocProhibition.{DocProhibition}
use Rattle.pm_policy.specs.declared.policy.Policy.{Policy}
use Rattle.pm_policy.proofs.Drawn.{drawn-called, drawn-once, drawn-sound, length-map, name-apart}
use Rattle.pm_policy.proofs.Law.{ends-swapped}
use Rattle.pm_policy.proofs.Ordered.{map-contains, name-itself, same-name}
use Rattle.pm_policy.proofs.Sorted.{has-sorted, length-sorted, once-sorted, sorted-has}
use Rattle.pm_policy.proofs.Standing.{append-within, called-same, fit-same}
use Rattle.pm_policy_laws.proofs.Fit.{IsFit}
use Rattle.pm_policy_laws.proofs.Reached.{reached-fit}

-- ---- in another order

-- none of the items that stand in another order is alike
none-sorted : {X : Type 0} (before : X → X → Bool) (test : X → Bool) (xs : List X) → list_any test xs ≡ false → list_any test (sorted before xs) ≡ false
none-sorted before test xs none = none-from test (sorted before xs) (λ x c. none-at test xs x none (has-sorted before xs x c))

called-swapped : (d e : DocElement) → is_called d.name e ≡ false → is_called e.name d ≡ false
called-swapped d e h = false_from_ne_true (is_called e.name d) (λ is.
    let yes : is_called d.name e ≡ true = rw (same-name e.name d.name is) (name-itself d.name) in cc)

same-swapped : (p q : DocAssignment) → is_same p q ≡ false → is_same q p ≡ false
same-swapped p q h = false_from_ne_true (is_same q p) (λ is.
    let b = and_parts (bytes_eq q.from p.from) (bytes_eq q.to p.to) is in
    let yes : is_same p q ≡ true = rw (same-name q.from p.from b.0, same-name q.to p.to b.1)
    (and_from (bytes_eq p.from p.from) (bytes_eq p.to p.to) (name-itself p.from) (name-itself p.to)) in cc)

leads-within : (pairs more : List DocAssignment) → ((p : DocAssignment) → Contains pairs p → Contains more p) →
    (x : List ℕ) (path : List (List ℕ)) (y : List ℕ) → LeadsOn pairs x path y → LeadsOn more x path y
leads-within pairs more sub x [] y h = h
leads-within pairs more sub x (z ∷ path) y h = (sub _ h.0, leads-within pairs more sub z path y h.1)

-- the pairs behind those of the opening
pairs-back : (pairs : List DocAssignment) (p : DocAssignment) → Contains (opening_pairs ++ sorted leads_before pairs) p → Contains (opening_pairs ++ pairs) p
pairs-back pairs p c = elim (Contains-append_cases opening_pairs (sorted leads_before pairs) p c) [
  | inl old ↦ Contains-append_left opening_pairs pairs p old
  | inr new ↦ Contains-append_right opening_pairs pairs p (has-sorted leads_before pairs p new)
]

once-standing : (es : List DocElement) → AreOnceCalled (standing es) → AreOnceCalled (standing (sorted stands_before es))
once-standing es h = (
  none-sorted stands_before _ es h.0,
  (
    none-sorted stands_before _ es h.1.0,
    (none-sorted stands_before _ es h.1.1.0, once-sorted stands_before (λ (d : DocElement). is_called d.name) called-swapped es h.1.1.1),
  ),
)

sound-sorted : (es : List DocElement) (pairs : List DocAssignment) → AreSound es pairs → AreSound (sorted stands_before es) (sorted leads_before pairs)
sound-sorted es pairs s =
    let l = length-sorted stands_before es in
    let k = length-sorted leads_before pairs in
    let few = s.few in
    let few_assigned = s.few_assigned in record {
      once = once-standing es s.once;
      assigned_once = (
        none-sorted leads_before _ pairs s.assigned_once.0,
        (none-sorted leads_before _ pairs s.assigned_once.1.0, once-sorted leads_before is_same same-swapped pairs s.assigned_once.1.1),
      );
      kinds = each-from (FitAssigned (standing (sorted stands_before es))) (sorted leads_before pairs) (λ p c.
          fit-same (standing es) (standing (sorted stands_before es)) p
          (append-within opening_docs es (sorted stands_before es) (sorted-has stands_before es)) (once-standing es s.once)
          (each-at (FitAssigned (standing es)) pairs p s.kinds (has-sorted leads_before pairs p c)));
      acyclic = λ x z rest h. s.acyclic x z rest (leads-within (opening_pairs ++ sorted leads_before pairs) (opening_pairs ++ pairs) (pairs-back pairs) x (z ∷ rest) x h);
      contained = each-from (HasContainer (sorted leads_before pairs)) (sorted stands_before es) (λ e c.
          container e (each-at (HasContainer pairs) es e s.contained (has-sorted stands_before es e c)));
      few = omega (arith, l, few);
      few_assigned = omega (arith, k, few_assigned);
    } where
      container : (e : DocElement) → HasContainer pairs e → HasContainer (sorted leads_before pairs) e
      container e h = elim (or_cases (is_class_kind e.kind) (list_any (is_assigned e.name) pairs) h) [
        | inl class ↦ or_left (is_class_kind e.kind) (list_any (is_assigned e.name) (sorted leads_before pairs)) class
        | inr some ↦
            let p = any-found (is_assigned e.name) pairs some in
            or_right (is_class_kind e.kind) (list_any (is_assigned e.name) (sorted leads_before pairs))
            (any-from (is_assigned e.name) (sorted leads_before pairs) p.0 (sorted-has leads_before pairs p.0 p.1) p.2)
      ]

-- ---- rights

module _ (G : Graph) (f : IsWellFormed G) (k : IsFit G) where
  abbrev D : Policy
  D = policy_in_order G

  all-rights : opening_rights ++ policy_rights G ≡ G.rights
  all-rights = ap (λ l. l ++ drop 17 G.rights) (sym f.rights.opening) ∙ take-append-drop 17 G.rights

  few-rights : length (policy_rights G) + 17 ≤ 64
  few-rights =
      let l = length-drop 17 G.rights in
      let some = opening-few G.rights f.rights.opening in
      let few = f.rights.few in omega (arith, l, some, few)

  -- the names of a set of rights are names of rights
  rights-of : (set : ℕ) → AreRightsOf D (rights_named G.rights set)
  rights-of set = each-from (λ name. list_any (bytes_eq name) (opening_rights ++ policy_rights G) ≡ true) (rights_named G.rights set) (λ name c.
      let there = (filter-contains (λ name. is_bit_in set (bit_named G.rights name)) G.rights name c).0 in
      rw all-rights (any-from (bytes_eq name) G.rights name there (name-itself name)))

  -- ---- elements by name

  abbrev all : List DocElement
  all = standing D.elements

  once-all : AreOnceCalled all
  once-all = once-standing (policy_elements G) (drawn-once G f)

  called-all : (n : ℕ) (e : Element) → element_at G.elements n ≡ Some e → called all (name_numbered G.elements n) ≡ Some (doc_of e)
  called-all n e at =
      called-same (standing (policy_elements G)) all (name_numbered G.elements n) (doc_of e)
      (append-within opening_docs (policy_elements G) D.elements (sorted-has stands_before (policy_elements G))) once-all (drawn-called G f n e at)

  kind-all : (fits : Kind → Bool) (n : ℕ) → effects.has_kind fits (element_at G.elements n) ≡ true → has_kind fits (called all (name_numbered G.elements n)) ≡ true
  kind-all fits n h =
      let e = live-found G.elements n (kind-lives fits G.elements n h) in
      let fit : fits e.0.kind ≡ true = rw (e.1) at h in
      rw (called-all n e.0 e.1) fit

  -- ---- associations

  abbrev shown : Association → DocAssociation
  shown a = association (name_numbered G.elements a.ua) (rights_named G.rights a.rights) (name_numbered G.elements a.at)

  ends-of : (a : Association) → Contains G.associations a → IsLive G.elements a.ua × IsLive G.elements a.at
  ends-of a c = both-live may_associate (element_at G.elements a.ua) (element_at G.elements a.at) (each-at (JoinsAttributes G.elements) G.associations a f.associations.kinds c)

  shown-apart : (a b : Association) → Contains G.associations a → Contains G.associations b → joins a.ua a.at b ≡ false → has_ends (shown a) (shown b) ≡ false
  shown-apart a b ac bc other = false_from_ne_true (has_ends (shown a) (shown b)) (λ is.
      let e = and_parts _ _ is in
      let ua : a.ua ≡ b.ua = name-apart G f a.ua b.ua (ends-of a ac).0 (ends-of b bc).0 (same-name _ _ e.0) in
      let at : a.at ≡ b.at = name-apart G f a.at b.at (ends-of a ac).1 (ends-of b bc).1 (same-name _ _ e.1) in
      let yes : joins a.ua a.at b ≡ true = and_from _ _ (eq-eqb b.ua a.ua (sym ua)) (eq-eqb b.at a.at (sym at)) in cc)

  associations-once : (xs : List Association) → ((a : Association) → Contains xs a → Contains G.associations a) → JoinOnce xs → AreOnce has_ends (map shown xs)
  associations-once [] sub h = tt
  associations-once (a ∷ xs) sub h = (
    none-from (has_ends (shown a)) (map shown xs) (λ d c.
        let m = map-contains shown xs d c in
        subst (λ x. has_ends (shown a) x ≡ false) m.2
        (shown-apart a m.0 (sub a (contains-first a xs)) (sub m.0 (contains-rest a m.0 xs m.1)) (none-at (joins a.ua a.at) xs m.0 h.0 m.1))),
    associations-once xs (λ b c. sub b (contains-rest a b xs c)) h.1,
  )

  association-is : (d : DocAssociation) → Contains D.associations d → IsAssociation D d
  association-is d c =
      let m = map-contains shown G.associations d (has-sorted joins_before (policy_associations G) d c) in
      let a = m.0 in
      let ua = live-found G.elements a.ua (ends-of a m.1).0 in
      let at = live-found G.elements a.at (ends-of a m.1).1 in
      let kinds = each-at (JoinsAttributes G.elements) G.associations a f.associations.kinds m.1 in
      let fit : may_associate ua.0.kind at.0.kind ≡ true = rw (ua.1, at.1) at kinds in
      subst (λ x. IsAssociation D x) m.2 (record {
        kinds = rw (called-all a.ua ua.0 ua.1, called-all a.at at.0 at.1) fit;
        rights = rights-of a.rights;
      })

  -- ---- prohibitions

  abbrev own : Prohibition → Bool
  own p = not (is_on_process p.subject)

  subject-fits : (s : Subject ℕ ℕ) → is_on_process s ≡ false → has_subject_kind G.elements s ≡ true → FitsSubject all (subject_named G s)
  subject-fits (subject.User n) not_on h = kind-all is_user_kind n h
  subject-fits (subject.Ua n) not_on h = kind-all is_ua_kind n h
  subject-fits (subject.Process n) not_on h = absurd (cc)

  places-fit : (ns : List ℕ) → list_all (is_place G.elements) ns ≡ true → Each (IsPlace all) (map (name_numbered G.elements) ns)
  places-fit [] h = tt
  places-fit (n ∷ ns) h =
      let p = and_parts (is_place G.elements n) (list_all (is_place G.elements) ns) h in (kind-all is_place_kind n p.0, places-fit ns p.1)

  prohibition-is : (p : Prohibition) → Contains G.prohibitions p → is_on_process p.subject ≡ false → IsProhibition D (policy_prohibition G p)
  prohibition-is p c not_on =
      let outer = and_parts _ _ (each-at (λ p. may_prohibit G.elements p ≡ true) G.prohibitions p k.kinds c) in
      let inner = and_parts _ _ outer.0 in
      let named = each-at (formed.IsProhibition G.elements G.procs G.rights) G.prohibitions p f.prohibitions.each c in record {
        subject = subject-fits p.subject not_on inner.0;
        rights = rights-of p.rights;
        inc = places-fit p.inc inner.1;
        exc = places-fit p.exc outer.1;
        ranged = rw (length-map G f (name_numbered G.elements) p.inc, length-map G f (name_numbered G.elements) p.exc) named.ranged;
      }

  prohibitions-once : (ps : List Prohibition) → formed.AreOnceCalled ps →
      AreOnce (λ (p q : DocProhibition). bytes_eq p.name q.name) (map (policy_prohibition G) (filter own ps))
  prohibitions-once [] h = tt
  prohibitions-once (p ∷ ps) h =
      filter-split own (λ kept. AreOnce (λ (p q : DocProhibition). bytes_eq p.name q.name) (map (policy_prohibition G) kept)) p ps
      (λ is. (
        none-from (λ (q : DocProhibition). bytes_eq p.name q.name) (map (policy_prohibition G) (filter own ps)) (λ d c.
            let m = map-contains (policy_prohibition G) (filter own ps) d c in
            subst (λ (q : DocProhibition). bytes_eq p.name q.name ≡ false) m.2
            (none-at (prohibited.is_called p.name) ps m.0 h.0 (filter-contains own ps m.0 m.1).0)),
        prohibitions-once ps h.1,
      ))
      (λ is. prohibitions-once ps h.1)

  prohibitions-are : Each (IsProhibition D) (policy_prohibitions G)
  prohibitions-are = each-from (IsProhibition D) (policy_prohibitions G) (λ d c.
      let m = map-contains (policy_prohibition G) (filter own G.prohibitions) d c in
      let p = filter-contains own G.prohibitions m.0 m.1 in
      subst (λ x. IsProhibition D x) m.2 (prohibition-is m.0 p.0 (not-true (is_on_process m.0.subject) p.1)))

  few-prohibitions : length (policy_prohibitions G) ≤ 4096
  few-prohibitions =
      let l = length-map G f (policy_prohibition G) (filter own G.prohibitions) in
      let less = length-filter own G.prohibitions in
      let few = f.prohibitions.few in omega (arith, l, less, few)

  few-associations : length D.associations ≤ 65536
  few-associations =
      let l = length-sorted joins_before (policy_associations G) in
      let m = length-map G f shown G.associations in
      let few = f.associations.few in omega (arith, l, m, few)

  pub sound : IsSound D
  sound = record {
    elements = sound-sorted (policy_elements G) (policy_assignments G) (drawn-sound G f);
    rights_once = rw all-rights f.rights.once;
    no_words = k.words;
    few_rights = few-rights;
    associated_once = once-sorted joins_before has_ends ends-swapped (policy_associations G) (associations-once G.associations (λ a c. c) f.associations.once);
    associations = each-from (IsAssociation D) D.associations association-is;
    few_associations = few-associations;
    prohibited_once = prohibitions-once G.prohibitions f.prohibitions.once;
    prohibitions = prohibitions-are;
    few_prohibitions = few-prohibitions;
  }

pub policy_is_sound : (H : List Entry) → IsLegal H → IsSound (policy_in_order (replay H).graph)
policy_is_sound H legal = sound (replay H).graph (legal_history H legal).formed (reached-fit H)
