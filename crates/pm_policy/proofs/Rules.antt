-- Rights, associations and prohibitions are made one after another.
use Rattle.std.proofs.Common.{◌≡◌, ◌≤◌, ◌+◌, ◌||◌, ◌&&◌, ◌==◌, ◌↔◌, ℕ, Bool, true, false, List, [], ◌∷◌, ◌++◌, length, map, Option, Some, None, Ok, Contains, ◌⊎◌, inl, inr, refl, sym, ◌∙◌, ap, subst, arith, bytes_eq, length-append, append_assoc, eq-eqb, ne_eqb, unwrap_or, nat_lt, ◌^◌, if◌then◌else◌}
use Rattle.std.specs.List.{list_any, list_all, position_from}
use Rattle.std.proofs.lemmas.List.{append-nil}
use Rattle.std.proofs.lemmas.Bool.{cases_eq, or_left, or_right, or_cases, and_parts, and_from, lt-leb, false_from_ne_true, eqb-true}
use Rattle.std.proofs.lemmas.Slice.Eq.{bytes_eq-Decides}
use Rattle.std.proofs.lemmas.List.Elements.{Contains-append_right, Contains-push_cases}
use Rattle.pm_model.specs.State.{Graph, element_at, number_named}
use Rattle.pm_model.specs.declared.elements.Kind.{Kind}
use Rattle.pm_model.proofs.Bits.{bit_or_has}
use Rattle.std.proofs.lemmas.Nat.Bits.{bit_at-zero, bit_at-pow_same, bit_at-pow_other}
use Rattle.pm_policy.proofs.Ordered.{same-name}
use Rattle.pm_policy.proofs.Sorted.{inserted-has, has-inserted, length-inserted}
use Rattle.pm_policy.specs.Order.{inserted}
use Rattle.pm_model.specs.Effect as effects
use Rattle.pm_model.specs.Effect.{may_associate, joins, joined, max_associations, is_place_kind, is_place, has_subject_kind, is_user_kind, is_ua_kind}
use Rattle.pm_model.specs.Prohibitions.{max_prohibitions}
use Rattle.pm_model.specs.Prohibitions as prohibited
use Rattle.pm_model.specs.Resolve.{look_up_all, look_up_rights, look_up_subject, prohibition}
use Rattle.pm_model.specs.RightSet.{command_words, max_rights, bit_named, with_right, has_right}
use Rattle.pm_model.specs.Formed.{Each, NameOnce}
use Rattle.pm_model.specs.declared.prohibitions.Prohibition.{Prohibition}
use Rattle.pm_model.specs.declared.prohibitions.Subject.{Subject}
use Rattle.pm_model.specs.declared.prohibitions.Subject.TheVariants as subject
use Rattle.pm_model.specs.declared.rights.Association.{Association}
use Rattle.pm_model.specs.declared.requests.Change.TheVariants as change
use Rattle.pm_model.specs.declared.requests.Command.TheVariants as command
use Rattle.pm_laws.proofs.Names.{other-swapped}
use Rattle.pm_laws.proofs.Items.{contains-first, contains-rest, contains-cases, contains-none, none-at, none-from, any-found, each-at, filter-contains, contains-filter}
use Rattle.pm_policy.specs.Policy.{called}
use Rattle.pm_policy.specs.Requests.{associate, prohibit}
use Rattle.pm_policy.specs.PolicyOf.{AreSame, is_bit_in, rights_named}
use Rattle.pm_policy.specs.Sound.{AreOnce, both, has_kind, has_ends, FitsSubject, IsPlace}
use Rattle.pm_policy.specs.declared.policy.DocElement.{DocElement}
use Rattle.pm_policy.specs.declared.policy.DocAssociation.{DocAssociation}
use Rattle.pm_policy.specs.declared.policy.DocProhibition.{DocProhibition}
use Rattle.pm_policy.proofs.Steps.{Steps}
use Rattle.pm_policy.proofs.Places.{counted, place, number-made, element-made, called-made, place-apart}
use Rattle.pm_policy.proofs.Created.{shaped, quiet, effect-made}
use Rattle.pm_policy.proofs.Fitting.{both-called}

-- ---- rights

name-free : (rights names : List (List ℕ)) (name : List ℕ) → NameOnce (rights ++ names) → Contains names name → list_any (bytes_eq name) rights ≡ false
name-free [] names name once c = refl
name-free (r ∷ rights) names name once c =
    rw (other-swapped r name (none-at (bytes_eq r) (rights ++ names) name once.0 (Contains-append_right rights names name c))) (name-free rights names name once.1 c)

pub defines : (rights names : List (List ℕ)) (made : List DocElement) (assigned : List (ℕ × ℕ)) → NameOnce (rights ++ names) →
    Each (λ name. list_any (bytes_eq name) command_words ≡ false) names → length rights + length names ≤ max_rights →
    Steps (shaped rights [] [] made assigned) (map command.DefineRight names) (shaped (rights ++ names) [] [] made assigned)
defines rights [] made assigned once words few = rw (append-nil rights) refl
defines rights (name ∷ names) made assigned once words few = (
  shaped (rights ++ name ∷ []) [] [] made assigned,
  record {
    change = change.DefineRight name;
    resolved = refl;
    made = effect-made (shaped rights [] [] made assigned) (change.DefineRight name)
        (rw (name-free rights (name ∷ names) name once (contains-first name names), words.0) refl, (lt-leb max_rights (length rights) (omega (arith, few)), tt));
    obliging = refl;
    quiet = quiet (rights ++ name ∷ []) [] [] made assigned;
  },
  (let l = length-append rights (name ∷ []) in
      subst (λ (r : List (List ℕ)). Steps (shaped (rights ++ name ∷ []) [] [] made assigned) (map command.DefineRight names) (shaped r [] [] made assigned))
      (append_assoc rights (name ∷ []) names)
      (defines (rights ++ name ∷ []) names made assigned (subst NameOnce (sym (append_assoc rights (name ∷ []) names)) once) words.1 (omega (arith, l, few)))),
)

-- ---- sets of rights

position-some : {X : Type 0} (test : X → Bool) (n : ℕ) (xs : List X) → list_any test xs ≡ true → (i : ℕ) × (position_from test n xs ≡ Some i)
position-some test n [] h = absurd (cc)
position-some test n (x ∷ xs) h = of (test x) refl (position-some test (n + 1) xs) where
  of : (b : Bool) → test x ≡ b → (list_any test xs ≡ true → (i : ℕ) × (position_from test (n + 1) xs ≡ Some i)) → (i : ℕ) × (position_from test n (x ∷ xs) ≡ Some i)
  of true is rest = (n, rw is refl)
  of false is rest = let p = rest (rw is at h) in (p.0, rw is p.1)

-- the set of the rights of these names
abbrev pub set_of : List (List ℕ) → List (List ℕ) → ℕ
set_of rights [] = 0
set_of rights (n ∷ ns) = with_right (unwrap_or (bit_named rights n) 0) (set_of rights ns)

abbrev pub AreNamed : List (List ℕ) → List (List ℕ) → Type 0
AreNamed rights names = Each (λ name. list_any (bytes_eq name) rights ≡ true) names

pub rights-found : (G : Graph) (names : List (List ℕ)) → AreNamed G.rights names → look_up_rights G names ≡ Ok (set_of G.rights names)
rights-found G [] h = refl
rights-found G (n ∷ ns) h =
    let p = position-some (bytes_eq n) 0 G.rights h.0 in
    rw (p.1, rights-found G ns h.1) refl

position-least : {X : Type 0} (test : X → Bool) (n i : ℕ) (xs : List X) → position_from test n xs ≡ Some i → n ≤ i
position-least test n i [] h = absurd (cc)
position-least test n i (x ∷ xs) h = of (test x) refl (position-least test (n + 1) i xs) where
  of : (b : Bool) → test x ≡ b → (position_from test (n + 1) xs ≡ Some i → n + 1 ≤ i) → n ≤ i
  of true is rest = let found : Some n ≡ Some i = rw is at h in let same : n ≡ i = cc in omega (arith, same)
  of false is rest = let more = rest (rw is at h) in omega (arith, more)

-- names of one bit are one
position-same : (a b : List ℕ) (n i : ℕ) (xs : List (List ℕ)) → position_from (bytes_eq a) n xs ≡ Some i → position_from (bytes_eq b) n xs ≡ Some i → a ≡ b
position-same a b n i [] h k = absurd (cc)
position-same a b n i (x ∷ xs) h k = of (bytes_eq a x) (bytes_eq b x) refl refl (position-same a b (n + 1) i xs) where
  of : (p q : Bool) → bytes_eq a x ≡ p → bytes_eq b x ≡ q →
      (position_from (bytes_eq a) (n + 1) xs ≡ Some i → position_from (bytes_eq b) (n + 1) xs ≡ Some i → a ≡ b) → a ≡ b
  of true true ai bi rest = same-name a x ai ∙ sym (same-name b x bi)
  of true false ai bi rest =
      let found : Some n ≡ Some i = rw ai at h in
      let same : n ≡ i = cc in
      let more = position-least (bytes_eq b) (n + 1) i xs (rw bi at k) in absurd (omega (arith, same, more))
  of false true ai bi rest =
      let found : Some n ≡ Some i = rw bi at k in
      let same : n ≡ i = cc in
      let more = position-least (bytes_eq a) (n + 1) i xs (rw ai at h) in absurd (omega (arith, same, more))
  of false false ai bi rest = rest (rw ai at h) (rw bi at k)

power-has : (m i : ℕ) → has_right (2 ^ m) i ≡ (m == i)
power-has m i = elim (cases_eq i m) [
  | inl e ↦ rw (e, bit_at-pow_same m, eq-eqb m m refl) refl
  | inr d ↦ rw (bit_at-pow_other m i d, ne_eqb m i (λ e. d (sym e))) refl
]

with-has : (m s i : ℕ) → has_right (with_right m s) i ≡ ((m == i) || has_right s i)
with-has m s i = bit_or_has (2 ^ m) s i ∙ ap (λ b. b || has_right s i) (power-has m i)

-- a right is in the set where its name is in the list
set-has : (rights names : List (List ℕ)) → AreNamed rights names → (name : List ℕ) (i : ℕ) → bit_named rights name ≡ Some i →
    (has_right (set_of rights names) i ≡ true) ↔ Contains names name
set-has rights [] h name i is = (λ yes. absurd (let no : has_right 0 i ≡ false = rw (bit_at-zero i) refl in cc), λ c. contains-none name c)
set-has rights (n ∷ ns) h name i is =
    let p = position-some (bytes_eq n) 0 rights h.0 in
    let rest = set-has rights ns h.1 name i is in
    let has : has_right (set_of rights (n ∷ ns)) i ≡ ((p.0 == i) || has_right (set_of rights ns) i) =
    ap (λ (o : Option ℕ). has_right (with_right (unwrap_or o 0) (set_of rights ns)) i) p.1 ∙ with-has p.0 (set_of rights ns) i in (
      λ yes. elim (or_cases (p.0 == i) (has_right (set_of rights ns) i) (sym has ∙ yes)) [
        | inl first ↦
            let at : position_from (bytes_eq n) 0 rights ≡ Some i = p.1 ∙ ap (λ k. Some k) (eqb-true p.0 i first) in
            let same : n ≡ name = position-same n name 0 i rights at is in subst (λ x. Contains (n ∷ ns) x) same (contains-first n ns)
        | inr below ↦ contains-rest n name ns (rest.0 below)
      ],
      λ c. has ∙ elim (contains-cases n name ns c) [
        | inl same ↦
            let at : Some p.0 ≡ Some i = sym p.1 ∙ ap (λ x. position_from (bytes_eq x) 0 rights) same ∙ is in
            let one : p.0 ≡ i = cc in or_left (p.0 == i) (has_right (set_of rights ns) i) (eq-eqb p.0 i one)
        | inr below ↦ or_right (p.0 == i) (has_right (set_of rights ns) i) (rest.1 below)
      ],
    )

bit-in : (set : ℕ) (o : Option ℕ) → is_bit_in set o ≡ true → (i : ℕ) × (o ≡ Some i) × (has_right set i ≡ true)
bit-in set (Some i) h = (i, refl, h)
bit-in set None h = absurd (cc)

-- the names of the set are those of the list
pub names-same : (rights names : List (List ℕ)) → AreNamed rights names → AreSame (rights_named rights (set_of rights names)) names
names-same rights names h name = (to, from) where
  to : Contains (rights_named rights (set_of rights names)) name → Contains names name
  to c =
      let f = filter-contains (λ name. is_bit_in (set_of rights names) (bit_named rights name)) rights name c in
      let b = bit-in (set_of rights names) (bit_named rights name) f.1 in
      (set-has rights names h name b.0 b.1).0 b.2

  from : Contains names name → Contains (rights_named rights (set_of rights names)) name
  from c =
      let known : list_any (bytes_eq name) rights ≡ true = each-at (λ name. list_any (bytes_eq name) rights ≡ true) names name h c in
      let p = position-some (bytes_eq name) 0 rights known in
      let q = any-found (bytes_eq name) rights known in
      let there : Contains rights name = subst (λ x. Contains rights x) (sym (same-name name q.0 q.2)) q.1 in
      contains-filter (λ name. is_bit_in (set_of rights names) (bit_named rights name)) rights name there
      (rw p.1 ((set-has rights names h name p.0 p.1).1 c))

-- ---- associations

module _ (all : List DocElement) (rights : List (List ℕ)) (assigned : List (ℕ × ℕ)) where
  abbrev pub associated : DocAssociation → Association
  associated a = record { ua = place all a.ua; rights = set_of rights a.rights; at = place all a.at }

  abbrev pub associate_all : List Association → List DocAssociation → List Association
  associate_all bs [] = bs
  associate_all bs (a ∷ ds) = associate_all (joined (associated a) bs) ds

  ends_before : Association → Association → Bool
  ends_before a b = nat_lt a.ua b.ua

  joined-inserted : (a : Association) (bs : List Association) → joined a bs ≡ inserted (λ (a b : Association). nat_lt a.ua b.ua) a bs
  joined-inserted a [] = refl
  joined-inserted a (b ∷ bs) = ap (λ l. if nat_lt a.ua b.ua then a ∷ b ∷ bs else b ∷ l) (joined-inserted a bs)

  joined-has : (a : Association) (bs : List Association) (x : Association) → Contains (a ∷ bs) x → Contains (joined a bs) x
  joined-has a bs x c = subst (λ l. Contains l x) (sym (joined-inserted a bs)) (inserted-has (λ (a b : Association). nat_lt a.ua b.ua) a bs x c)

  has-joined : (a : Association) (bs : List Association) (x : Association) → Contains (joined a bs) x → (a ≡ x) ⊎ Contains bs x
  has-joined a bs x c = has-inserted (λ (a b : Association). nat_lt a.ua b.ua) a bs x (subst (λ l. Contains l x) (joined-inserted a bs) c)

  length-joined : (a : Association) (bs : List Association) → length (joined a bs) ≡ length bs + 1
  length-joined a bs = ap length (joined-inserted a bs) ∙ length-inserted (λ (a b : Association). nat_lt a.ua b.ua) a bs

  pub record IsFit (a : DocAssociation) : Type 0 where
    pub kinds : both may_associate (called all a.ua) (called all a.at) ≡ true
    pub named : AreNamed rights a.rights

  -- none has the ends of this one
  abbrev IsFree : List Association → DocAssociation → Type 0
  IsFree bs a = (b : Association) → Contains bs b → b.ua ≡ place all a.ua → b.at ≡ place all a.at → ⊥

  pub associates : (bs : List Association) (ds : List DocAssociation) → AreOnce has_ends ds → ((a : DocAssociation) → Contains ds a → IsFit a) →
      ((a : DocAssociation) → Contains ds a → IsFree bs a) → length bs + length ds ≤ max_associations →
      Steps (shaped rights bs [] all assigned) (map associate ds) (shaped rights (associate_all bs ds) [] all assigned)
  associates bs [] once fit free few = refl
  associates bs (a ∷ ds) once fit free few = (
    shaped rights (joined (associated a) bs) [] all assigned,
    (let f = fit a (contains-first a ds) in
        let b = both-called may_associate (called all a.ua) (called all a.at) f.kinds in
        let u = element-made 0 all a.ua b.0 b.2 in
        let t = element-made 0 all a.at b.1 b.3 in
        let x = number-made 0 all a.ua (called-made all a.ua b.0 b.2) in
        let y = number-made 0 all a.at (called-made all a.at b.1 b.3) in
        record {
          change = change.Associate (place all a.ua) (set_of rights a.rights) (place all a.at);
          resolved = rw (x, rights-found (shaped rights bs [] all assigned) a.rights f.named, y) refl;
          made = effect-made (shaped rights bs [] all assigned) (change.Associate (place all a.ua) (set_of rights a.rights) (place all a.at)) (
            rw (u, t, b.4) refl,
            (
              false_from_ne_true (list_any (joins (place all a.ua) (place all a.at)) bs) (λ is.
                  let p = any-found (joins (place all a.ua) (place all a.at)) bs is in
                  let e = and_parts (p.0.ua == place all a.ua) (p.0.at == place all a.at) p.2 in
                  free a (contains-first a ds) p.0 p.1 (eqb-true p.0.ua (place all a.ua) e.0) (eqb-true p.0.at (place all a.at) e.1)),
              (lt-leb max_associations (length bs) (omega (arith, few)), tt),
            ),
          );
          obliging = refl;
          quiet = quiet rights (joined (associated a) bs) [] all assigned;
        }),
    associates (joined (associated a) bs) ds once.1 (λ c there. fit c (contains-rest a c ds there))
        (λ c there b in_bs su st. elim (has-joined (associated a) bs b in_bs) [
          | inl new ↦
              let fa = both-called may_associate (called all a.ua) (called all a.at) (fit a (contains-first a ds)).kinds in
              let fc = both-called may_associate (called all c.ua) (called all c.at) (fit c (contains-rest a c ds there)).kinds in
              let ua : a.ua ≡ c.ua = place-apart all a.ua c.ua (called-made all a.ua fa.0 fa.2) (called-made all c.ua fc.0 fc.2) (ap (λ (b : Association). b.ua) new ∙ su) in
              let at : a.at ≡ c.at = place-apart all a.at c.at (called-made all a.at fa.1 fa.3) (called-made all c.at fc.1 fc.3) (ap (λ (b : Association). b.at) new ∙ st) in
              let yes : has_ends a c ≡ true = and_from (bytes_eq a.ua c.ua) (bytes_eq a.at c.at) ((bytes_eq-Decides a.ua c.ua).1 ua) ((bytes_eq-Decides a.at c.at).1 at) in
              let no = none-at (has_ends a) ds c once.0 there in absurd (cc)
          | inr old ↦ free c (contains-rest a c ds there) b old su st
        ])
        (let l = length-joined (associated a) bs in omega (arith, l, few)),
  )

  pub associated-cases : (bs : List Association) (ds : List DocAssociation) (x : Association) → Contains (associate_all bs ds) x →
      Contains bs x ⊎ ((a : DocAssociation) × Contains ds a × (associated a ≡ x))
  associated-cases bs [] x c = inl c
  associated-cases bs (a ∷ ds) x c = elim (associated-cases (joined (associated a) bs) ds x c) [
    | inl before ↦ elim (has-joined (associated a) bs x before) [ inl new ↦ inr (a, contains-first a ds, new) | inr old ↦ inl old ]
    | inr later ↦ inr (later.0, contains-rest a later.0 ds later.1, later.2)
  ]

  associated-old : (bs : List Association) (ds : List DocAssociation) (x : Association) → Contains bs x → Contains (associate_all bs ds) x
  associated-old bs [] x c = c
  associated-old bs (a ∷ ds) x c = associated-old (joined (associated a) bs) ds x (joined-has (associated a) bs x (contains-rest (associated a) x bs c))

  pub associated-new : (bs : List Association) (ds : List DocAssociation) (a : DocAssociation) → Contains ds a → Contains (associate_all bs ds) (associated a)
  associated-new bs [] a c = contains-none a c
  associated-new bs (d ∷ ds) a c = elim (contains-cases d a ds c) [
    | inl same ↦ associated-old (joined (associated d) bs) ds (associated a)
        (subst (λ x. Contains (joined (associated d) bs) (associated x)) same (joined-has (associated d) bs (associated d) (contains-first (associated d) bs)))
    | inr below ↦ associated-new (joined (associated d) bs) ds a below
  ]

  -- ---- prohibitions

  abbrev pub subject_placed : Subject (List ℕ) ℕ → Subject ℕ ℕ
  subject_placed (subject.User name) = subject.User (place all name)
  subject_placed (subject.Ua name) = subject.Ua (place all name)
  subject_placed (subject.Process n) = subject.Process n

  abbrev pub prohibited_by : DocProhibition → Prohibition
  prohibited_by p = prohibition p.name (subject_placed p.subject) (set_of rights p.rights) (map (place all) p.inc) (map (place all) p.exc) p.mode

  pub record IsFitProhibition (p : DocProhibition) : Type 0 where
    pub subject : FitsSubject all p.subject
    pub named : AreNamed rights p.rights
    pub inc : Each (IsPlace all) p.inc
    pub exc : Each (IsPlace all) p.exc
    pub ranged : (length p.inc == 0 && length p.exc == 0) ≡ false

  pub kind-called : (fits : Kind → Bool) (name : List ℕ) → has_kind fits (called all name) ≡ true → (d : DocElement) × (called all name ≡ Some d) × (fits d.kind ≡ true)
  kind-called fits name h = of (called all name) refl h where
    of : (o : Option DocElement) → called all name ≡ o → has_kind fits o ≡ true → (d : DocElement) × (called all name ≡ Some d) × (fits d.kind ≡ true)
    of (Some d) is h = (d, is, h)
    of None is h = absurd (cc)

  pub kind-placed : (fits : Kind → Bool) (name : List ℕ) → has_kind fits (called all name) ≡ true →
      effects.has_kind fits (element_at (counted 0 all) (place all name)) ≡ true
  kind-placed fits name h = let d = kind-called fits name h in rw (element-made 0 all name d.0 d.1) d.2

  kind-number : (fits : Kind → Bool) (name : List ℕ) → has_kind fits (called all name) ≡ true → number_named (counted 0 all) name ≡ Some (place all name)
  kind-number fits name h = let d = kind-called fits name h in number-made 0 all name (called-made all name d.0 d.1)

  all-found : (G : Graph) → G.elements ≡ counted 0 all → (names : List (List ℕ)) → Each (IsPlace all) names → look_up_all G names ≡ Ok (map (place all) names)
  all-found G is [] h = refl
  all-found G is (n ∷ ns) h =
      let one : number_named G.elements n ≡ Some (place all n) = ap (λ es. number_named es n) is ∙ kind-number is_place_kind n h.0 in
      rw (one, all-found G is ns h.1) refl

  places-fit : (names : List (List ℕ)) → Each (IsPlace all) names → list_all (is_place (counted 0 all)) (map (place all) names) ≡ true
  places-fit [] h = refl
  places-fit (n ∷ ns) h = rw (kind-placed is_place_kind n h.0) (places-fit ns h.1)

  subject-found : (G : Graph) → G.elements ≡ counted 0 all → (s : Subject (List ℕ) ℕ) → FitsSubject all s →
      (look_up_subject G s ≡ Ok (subject_placed s)) × (has_subject_kind (counted 0 all) (subject_placed s) ≡ true)
  subject-found G is (subject.User name) h =
      let one : number_named G.elements name ≡ Some (place all name) = ap (λ es. number_named es name) is ∙ kind-number is_user_kind name h in
      (rw one refl, kind-placed is_user_kind name h)
  subject-found G is (subject.Ua name) h =
      let one : number_named G.elements name ≡ Some (place all name) = ap (λ es. number_named es name) is ∙ kind-number is_ua_kind name h in
      (rw one refl, kind-placed is_ua_kind name h)
  subject-found G is (subject.Process n) h = absurd h

  length-map : {X Y : Type 0} (f : X → Y) (xs : List X) → length (map f xs) ≡ length xs
  length-map f [] = refl
  length-map f (x ∷ xs) = let rest = length-map f xs in omega (arith, rest)

  pub prohibits : (bs : List Association) (ps : List Prohibition) (ds : List DocProhibition) → AreOnce (λ (p q : DocProhibition). bytes_eq p.name q.name) ds →
      ((d : DocProhibition) → Contains ds d → IsFitProhibition d) → ((d : DocProhibition) → Contains ds d → list_any (prohibited.is_called d.name) ps ≡ false) →
      length ps + length ds ≤ max_prohibitions →
      Steps (shaped rights bs ps all assigned) (map prohibit ds) (shaped rights bs (ps ++ map prohibited_by ds) all assigned)
  prohibits bs ps [] once fit free few = rw (append-nil ps) refl
  prohibits bs ps (d ∷ ds) once fit free few = (
    shaped rights bs (ps ++ prohibited_by d ∷ []) all assigned,
    (let G = shaped rights bs ps all assigned in
        let f = fit d (contains-first d ds) in
        let s = subject-found G refl d.subject f.subject in
        record {
          change = change.Prohibit (prohibited_by d);
          resolved = rw (s.0, rights-found G d.rights f.named, all-found G refl d.inc f.inc, all-found G refl d.exc f.exc) refl;
          made = effect-made G (change.Prohibit (prohibited_by d)) (
            rw (s.1, places-fit d.inc f.inc, places-fit d.exc f.exc) refl,
            (
              free d (contains-first d ds),
              (
                rw (length-map (place all) d.inc, length-map (place all) d.exc) f.ranged,
                (lt-leb max_prohibitions (length ps) (omega (arith, few)), tt),
              ),
            ),
          );
          obliging = refl;
          quiet = quiet rights bs (ps ++ prohibited_by d ∷ []) all assigned;
        }),
    subst (λ l. Steps (shaped rights bs (ps ++ prohibited_by d ∷ []) all assigned) (map prohibit ds) (shaped rights bs l all assigned))
        (append_assoc ps (prohibited_by d ∷ []) (map prohibited_by ds))
        (prohibits bs (ps ++ prohibited_by d ∷ []) ds once.1 (λ e c. fit e (contains-rest d e ds c))
        (λ e c. none-from (prohibited.is_called e.name) (ps ++ prohibited_by d ∷ []) (λ p there. elim (Contains-push_cases ps (prohibited_by d) p there) [
          | inl old ↦ none-at (prohibited.is_called e.name) ps p (free e (contains-rest d e ds c)) old
          | inr new ↦ subst (λ (q : Prohibition). prohibited.is_called e.name q ≡ false) new
              (other-swapped d.name e.name (none-at (λ (q : DocProhibition). bytes_eq d.name q.name) ds e once.0 c))
        ]))
        (let l = length-append ps (prohibited_by d ∷ []) in omega (arith, l, few))),
  )
