-- A sound document's requests are accepted one after another, and lead to its policy.
use Rattle.std.proofs.Common.{◌≡◌, ◌≤◌, ◌+◌, ℕ, true, false, not, List, [], ◌∷◌, ◌++◌, length, filter, map, drop, Contains, inl, inr, refl, sym, ◌∙◌, ap, subst, arith, length-append, append_assoc, bytes_eq}
use Rattle.std.proofs.lemmas.Slice.Eq.{bytes_eq-Decides}
use Rattle.std.proofs.lemmas.Bool.{and_parts, and_from, false_from_ne_true}
use Rattle.pm_model.specs.State.{State, Graph, opening, opening_assigned, name_numbered}
use Rattle.pm_model.specs.Effect.{may_associate, is_place_kind, is_user_kind, is_ua_kind}
use Rattle.pm_model.specs.Answer.{longest_history}
use Rattle.pm_model.specs.History.{IsLegal, IsReplayed, replay, opening_machine}
use Rattle.pm_model.specs.RightSet.{opening_rights}
use Rattle.pm_model.specs.Formed.{Each}
use Rattle.pm_model.specs.declared.prohibitions.Prohibition.{Prohibition}
use Rattle.pm_model.specs.declared.prohibitions.Subject.{Subject}
use Rattle.pm_model.specs.declared.prohibitions.Subject.TheVariants as subject
use Rattle.pm_model.specs.declared.rights.Association.{Association}
use Rattle.pm_model.specs.declared.requests.Command.TheVariants as command
use Rattle.pm_model.specs.declared.requests.Entry.{Entry}
use Rattle.pm_laws.proofs.Items.{contains-first, contains-rest, each-at, contains-none, length-filter}
use Rattle.pm_policy.specs.Policy.{is_called, called, opening_docs, standing}
use Rattle.pm_policy.specs.declared.policy.Policy.{Policy}
use Rattle.pm_policy.specs.Order.{sorted, is_made, leads_before, stands_before}
use Rattle.pm_policy.specs.Requests.{is_first, create, assign, associate, prohibit, joins_before, commands, requests, others, by_name}
use Rattle.pm_policy.specs.PolicyOf.{HasPolicy, AreLike, AreLikeInOrder, IsLikeAssociation, IsLikeProhibition, policy_associations, policy_prohibition, is_on_process, association, rights_named, subject_named}
use Rattle.pm_policy.specs.Sound.{IsSound, IsAssociation, IsProhibition, AreOnce, FitsSubject, IsPlace, both, has_ends, has_kind}
use Rattle.pm_policy.specs.declared.policy.DocElement.{DocElement}
use Rattle.pm_policy.specs.declared.policy.DocAssociation.{DocAssociation}
use Rattle.pm_policy.specs.declared.policy.DocProhibition.{DocProhibition}
use Rattle.pm_policy.proofs.Steps.{Steps, steps-append, steps-accepted}
use Rattle.pm_policy.proofs.Places.{counted, place, called-made}
use Rattle.pm_policy.proofs.Created.{shaped, quiet}
use Rattle.pm_policy.proofs.Ordered.{same-name, contains-map, map-contains}
use Rattle.pm_policy.proofs.Fitting.{both-called}
use Rattle.pm_policy.proofs.Sorted.{sorted-has, has-sorted, length-sorted, once-sorted}
use Rattle.pm_policy.proofs.Standing.{append-within, ordered-few, called-same}
use Rattle.pm_policy.proofs.Elements.{all, os, os-has, once-all, all_assigned, elements-made, elements-same, assignments-same, name-of}
use Rattle.pm_policy.proofs.Rules.{defines, associates, associate_all, associated, associated-cases, associated-new, prohibits, prohibited_by, subject_placed, set_of, names-same, IsFit, IsFitProhibition, kind-called}

pub length-map : {X Y : Type 0} (f : X → Y) (xs : List X) → length (map f xs) ≡ length xs
length-map f [] = refl
length-map f (x ∷ xs) = let rest = length-map f xs in omega (arith, rest)

length-five : {X : Type 0} (xs bs cs ds es : List X) → length (xs ++ bs ++ cs ++ ds ++ es) ≡ length xs + (length bs + (length cs + (length ds + length es)))
length-five xs bs cs ds es =
    let a = length-append xs bs in
    let b = length-append (xs ++ bs) cs in
    let c = length-append (xs ++ bs ++ cs) ds in
    let d = length-append (xs ++ bs ++ cs ++ ds) es in omega (arith, a, b, c, d)

pub ends-swapped : (a b : DocAssociation) → has_ends a b ≡ false → has_ends b a ≡ false
ends-swapped a b h = false_from_ne_true (has_ends b a) (λ is.
    let e = and_parts (bytes_eq b.ua a.ua) (bytes_eq b.at a.at) is in
    let ua : bytes_eq a.ua b.ua ≡ true = (bytes_eq-Decides a.ua b.ua).1 (sym (same-name b.ua a.ua e.0)) in
    let at : bytes_eq a.at b.at ≡ true = (bytes_eq-Decides a.at b.at).1 (sym (same-name b.at a.at e.1)) in
    let yes : has_ends a b ≡ true = and_from (bytes_eq a.ua b.ua) (bytes_eq a.at b.at) ua at in cc)

opening-shaped : opening.graph ≡ shaped opening_rights [] [] opening_docs opening_assigned
opening-shaped = refl

pub drop-opening : (rights : List (List ℕ)) → drop 17 (opening_rights ++ rights) ≡ rights
unfolding opening_rights
drop-opening rights = refl

opening-length : length opening_rights ≡ 17
unfolding opening_rights
opening-length = refl

module _ (D : Policy) (sound : IsSound D) where
  abbrev rights : List (List ℕ)
  rights = opening_rights ++ D.rights

  abbrev whole : List DocElement
  whole = all D.elements D.assignments sound.elements

  abbrev assigned : List (ℕ × ℕ)
  assigned = all_assigned D.elements D.assignments sound.elements rights [] []

  abbrev joined_docs : List DocAssociation
  joined_docs = sorted joins_before D.associations

  abbrev associations : List Association
  associations = associate_all whole rights assigned [] joined_docs

  abbrev prohibitions : List Prohibition
  prohibitions = map (prohibited_by whole rights assigned) D.prohibitions

  once-whole : AreOnce (λ (d : DocElement). is_called d.name) whole
  once-whole = once-all D.elements D.assignments sound.elements

  within : (e : DocElement) → Contains (standing D.elements) e → Contains whole e
  within = append-within opening_docs D.elements (os D.elements D.assignments sound.elements) (os-has D.elements D.assignments sound.elements)

  both-same : (fits : _) (a b : List ℕ) → both fits (called (standing D.elements) a) (called (standing D.elements) b) ≡ true → both fits (called whole a) (called whole b) ≡ true
  both-same fits a b h =
      let p = both-called fits (called (standing D.elements) a) (called (standing D.elements) b) h in
      rw (called-same (standing D.elements) whole a p.0 within once-whole p.2, called-same (standing D.elements) whole b p.1 within once-whole p.3) p.4

  kind-same : (fits : _) (name : List ℕ) → has_kind fits (called (standing D.elements) name) ≡ true → has_kind fits (called whole name) ≡ true
  kind-same fits name h =
      let p = kind-called (standing D.elements) rights assigned fits name h in
      rw (called-same (standing D.elements) whole name p.0 within once-whole p.1) p.2

  fit : (a : DocAssociation) → Contains joined_docs a → IsFit whole rights assigned a
  fit a c =
      let f = each-at (IsAssociation D) D.associations a sound.associations (has-sorted joins_before D.associations a c) in
      record { kinds = both-same may_associate a.ua a.at f.kinds; named = f.rights }

  places-same : (names : List (List ℕ)) → Each (IsPlace (standing D.elements)) names → Each (IsPlace whole) names
  places-same [] h = tt
  places-same (n ∷ ns) h = (kind-same is_place_kind n h.0, places-same ns h.1)

  subject-same : (s : Subject (List ℕ) ℕ) → FitsSubject (standing D.elements) s → FitsSubject whole s
  subject-same (subject.User name) h = kind-same is_user_kind name h
  subject-same (subject.Ua name) h = kind-same is_ua_kind name h
  subject-same (subject.Process n) h = h

  fit-prohibition : (p : DocProhibition) → Contains D.prohibitions p → IsFitProhibition whole rights assigned p
  fit-prohibition p c =
      let f = each-at (IsProhibition D) D.prohibitions p sound.prohibitions c in
      record { subject = subject-same p.subject f.subject; named = f.rights; inc = places-same p.inc f.inc; exc = places-same p.exc f.exc; ranged = f.ranged }

  abbrev made : Graph
  made = shaped rights associations prohibitions whole assigned

  steps : Steps opening.graph (commands D) made
  steps =
      steps-append opening.graph (shaped rights associations [] whole assigned) made _ (map prohibit D.prohibitions)
      (steps-append opening.graph (shaped rights [] [] whole assigned) (shaped rights associations [] whole assigned) _ (map associate joined_docs)
      (subst (λ cs. Steps opening.graph cs (shaped rights [] [] whole assigned))
      (sym (append_assoc (map command.DefineRight D.rights) (map (create (by_name D)) (os D.elements D.assignments sound.elements)) (map assign (others D.elements (by_name D)))))
      (steps-append opening.graph (shaped rights [] [] opening_docs opening_assigned) (shaped rights [] [] whole assigned) (map command.DefineRight D.rights) _
      (let l = opening-length in let f = sound.few_rights in
      defines opening_rights D.rights opening_docs opening_assigned sound.rights_once sound.no_words (omega (arith, l, f)))
      (elements-made D.elements D.assignments sound.elements rights [] [])))
      (associates whole rights assigned [] joined_docs (once-sorted joins_before has_ends ends-swapped D.associations sound.associated_once) fit
      (λ a c b there. contains-none b there)
      (let l = length-sorted joins_before D.associations in let f = sound.few_associations in omega (arith, l, f))))
      (prohibits whole rights assigned associations [] D.prohibitions sound.prohibited_once fit-prohibition (λ d c. refl)
      (let f = sound.few_prohibitions in omega (arith, f)))

  -- ---- the policy

  numbered : (name : List ℕ) → is_made whole name ≡ true → name_numbered (counted 0 whole) (place whole name) ≡ name
  numbered = name-of D.elements D.assignments sound.elements rights [] []

  numbered-kind : (fits : _) (name : List ℕ) → has_kind fits (called whole name) ≡ true → name_numbered (counted 0 whole) (place whole name) ≡ name
  numbered-kind fits name h = let d = kind-called whole rights assigned fits name h in numbered name (called-made whole name d.0 d.1)

  like : (a : DocAssociation) → Contains joined_docs a →
      IsLikeAssociation (association (name_numbered (counted 0 whole) (place whole a.ua)) (rights_named rights (set_of rights a.rights)) (name_numbered (counted 0 whole) (place whole a.at))) a
  like a c =
      let f = fit a c in
      let b = both-called may_associate (called whole a.ua) (called whole a.at) f.kinds in
      (numbered a.ua (called-made whole a.ua b.0 b.2), names-same rights a.rights f.named, numbered a.at (called-made whole a.at b.1 b.3))

  associations-like : AreLike IsLikeAssociation (policy_associations made) D.associations
  associations-like = (to, from) where
    to : (x : DocAssociation) → Contains (policy_associations made) x → (y : DocAssociation) × Contains D.associations y × IsLikeAssociation x y
    to x c =
        let m = map-contains (λ (a : Association). association (name_numbered (counted 0 whole) a.ua) (rights_named rights a.rights) (name_numbered (counted 0 whole) a.at)) associations x c in
        elim (associated-cases whole rights assigned [] joined_docs m.0 m.1) [
          | inl none ↦ contains-none m.0 none
          | inr some ↦ (
            some.0,
            has-sorted joins_before D.associations some.0 some.1,
            subst (λ z. IsLikeAssociation z some.0) (ap (λ (a : Association). association (name_numbered (counted 0 whole) a.ua) (rights_named rights a.rights) (name_numbered (counted 0 whole) a.at)) some.2 ∙ m.2)
                (like some.0 some.1),
          )
        ]

    from : (y : DocAssociation) → Contains D.associations y → (x : DocAssociation) × Contains (policy_associations made) x × IsLikeAssociation x y
    from y c =
        let mine = sorted-has joins_before D.associations y c in (
          association (name_numbered (counted 0 whole) (place whole y.ua)) (rights_named rights (set_of rights y.rights)) (name_numbered (counted 0 whole) (place whole y.at)),
          contains-map (λ (a : Association). association (name_numbered (counted 0 whole) a.ua) (rights_named rights a.rights) (name_numbered (counted 0 whole) a.at)) associations
              (associated whole rights assigned y) (associated-new whole rights assigned [] joined_docs y mine),
          like y mine,
        )

  places-back : (names : List (List ℕ)) → Each (IsPlace whole) names → map (name_numbered (counted 0 whole)) (map (place whole) names) ≡ names
  places-back [] h = refl
  places-back (n ∷ ns) h = rw (numbered-kind is_place_kind n h.0, places-back ns h.1) refl

  subject-back : (s : Subject (List ℕ) ℕ) → FitsSubject whole s → (is_on_process (subject_placed whole rights assigned s) ≡ false) × (subject_named made (subject_placed whole rights assigned s) ≡ s)
  subject-back (subject.User name) h = (refl, ap (λ n. subject.User n) (numbered-kind is_user_kind name h))
  subject-back (subject.Ua name) h = (refl, ap (λ n. subject.Ua n) (numbered-kind is_ua_kind name h))
  subject-back (subject.Process n) h = absurd h

  prohibitions-like : (ds : List DocProhibition) → ((d : DocProhibition) → Contains ds d → IsFitProhibition whole rights assigned d) →
      AreLikeInOrder IsLikeProhibition (map (policy_prohibition made) (filter (λ (p : Prohibition). not (is_on_process p.subject)) (map (prohibited_by whole rights assigned) ds))) ds
  prohibitions-like [] fits = tt
  prohibitions-like (d ∷ ds) fits =
      let f = fits d (contains-first d ds) in
      let s = subject-back d.subject f.subject in
      rw s.0 (
        (refl, s.1, names-same rights d.rights f.named, places-back d.inc f.inc, places-back d.exc f.exc, refl),
        prohibitions-like ds (λ e c. fits e (contains-rest d e ds c)),
      )

  pub policy : HasPolicy D made
  policy = record {
    rights = drop-opening D.rights;
    elements = elements-same D.elements D.assignments sound.elements rights associations prohibitions;
    assignments = assignments-same D.elements D.assignments sound.elements rights associations prohibitions;
    associations = associations-like;
    prohibitions = prohibitions-like D.prohibitions fit-prohibition;
  }

  -- ---- all are accepted

  few : length (commands D) ≤ longest_history
  few =
      let total : length (commands D) ≡ length (map command.DefineRight D.rights) + (length (map (create (by_name D)) (os D.elements D.assignments sound.elements))
      + (length (map assign (others D.elements (by_name D))) + (length (map associate joined_docs) + length (map prohibit D.prohibitions)))) = length-five _ _ _ _ _ in
      let a : length (map command.DefineRight D.rights) + 17 ≤ 64 = rw (length-map command.DefineRight D.rights) sound.few_rights in
      let b : length (map (create (by_name D)) (os D.elements D.assignments sound.elements)) ≤ length D.elements =
      rw (length-map (create (by_name D)) (os D.elements D.assignments sound.elements)) (ordered-few (by_name D) (length D.elements) opening_docs (sorted stands_before D.elements)) in
      let c : length (map assign (others D.elements (by_name D))) ≤ length (by_name D) =
      rw (length-map assign (others D.elements (by_name D))) (length-filter (λ p. not (is_first D.elements (by_name D) p)) (by_name D)) in
      let c1 : length (by_name D) ≡ length D.assignments = length-sorted leads_before D.assignments in
      let d : length (map associate joined_docs) ≡ length D.associations = length-map associate joined_docs ∙ length-sorted joins_before D.associations in
      let e : length (map prohibit D.prohibitions) ≡ length D.prohibitions = length-map prohibit D.prohibitions in
      let s1 = sound.elements.few in
      let s2 = sound.elements.few_assigned in
      let s3 = sound.few_associations in
      let s4 = sound.few_prohibitions in
      omega (arith, total, a, b, c, c1, d, e, s1, s2, s3, s4)

  pub replayed : (H : List Entry) → map (λ (e : Entry). e.request) H ≡ requests D → IsReplayed (record { graph = made; history = H })
  replayed H same =
      let f = few in
      steps-accepted opening_machine made (commands D) H (record { legal = tt; content = refl }) (quiet opening_rights [] [] opening_docs opening_assigned) steps same (omega (arith, f))

  pub document_accepted : (H : List Entry) → map (λ (e : Entry). e.request) H ≡ requests D → IsLegal H × HasPolicy D (replay H).graph
  document_accepted H same =
      let r = replayed H same in
      (r.legal, subst (λ (G : Graph). HasPolicy D G) (ap (λ (S : State). S.graph) (sym r.content)) policy)
