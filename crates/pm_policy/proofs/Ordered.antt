-- The order of an acyclic document's elements has each of them, and each behind its containers.
use Rattle.std.proofs.Common.{zero, suc, ◌≡◌, ◌≤◌, ◌<◌, ◌||◌, ℕ, Bool, true, false, not, List, [], ◌∷◌, ◌++◌, length, filter, find, Option, Some, None, Contains, ◌⊎◌, inl, inr, refl, sym, ◌∙◌, subst, arith, bytes_eq, map}
use Rattle.std.specs.List.{list_any, list_all}
use Rattle.std.proofs.lemmas.Bool.{and_parts, not-true, cond_both, cases_Bool, and_cases, or_left, or_right}
use Rattle.std.proofs.lemmas.Slice.Eq.{bytes_eq-Decides}
use Rattle.pm_model.specs.Formed.{Each}
use Rattle.pm_laws.proofs.Items.{contains-first, contains-rest, contains-cases, contains-none, filter-contains, contains-filter, filter-split, find-found, find-some, any-from, any-found, none-from, none-at, length-filter}
use Rattle.pm_policy.specs.Policy.{is_called, is_assigned, assignment, called}
use Rattle.pm_laws.proofs.Names.{other-swapped}
use Rattle.pm_policy.specs.Order.{is_made, is_ready, without, ordered, then_after}
use Rattle.pm_policy.specs.Sound.{LeadsOn, IsAcyclic, AreOnceCalled}
use Rattle.pm_policy.specs.declared.policy.DocElement.{DocElement}
use Rattle.pm_policy.specs.declared.policy.DocAssignment.{DocAssignment}

-- what a list keeps is fewer where something goes
pub filter-fewer : {X : Type 0} (test : X → Bool) (xs : List X) (x : X) → Contains xs x → test x ≡ false → length (filter test xs) < length xs
filter-fewer test [] x c goes = contains-none x c
filter-fewer test (y ∷ ys) x c goes = filter-split test (λ kept. length kept < length (y ∷ ys)) y ys
    (λ is. elim (contains-cases y x ys c) [
      | inl same ↦ absurd (let stays : test x ≡ true = rw same at is in cc)
      | inr below ↦ let rest = filter-fewer test ys x below goes in omega (arith, rest)
    ])
    (λ gone. let few = length-filter test ys in omega (arith, few))

-- ---- where no element is ready there is a cycle

-- by one assignment or more
abbrev pub IsAbove : List DocAssignment → List ℕ → List ℕ → Type 0
IsAbove pairs x y = (z : List ℕ) × (rest : List (List ℕ)) × LeadsOn pairs x (z ∷ rest) y

pub leads-append : (pairs : List DocAssignment) (x : List ℕ) (path : List (List ℕ)) (y : List ℕ) (more : List (List ℕ)) (z : List ℕ) →
    LeadsOn pairs x path y → LeadsOn pairs y more z → LeadsOn pairs x (path ++ more) z
leads-append pairs x [] y more z h k = rw h k
leads-append pairs x (w ∷ path) y more z h k = (h.0, leads-append pairs w path y more z h.1 k)

above-trans : (pairs : List DocAssignment) (x y z : List ℕ) → IsAbove pairs x y → IsAbove pairs y z → IsAbove pairs x z
above-trans pairs x y z h k = (h.0, h.1 ++ k.0 ∷ k.1, leads-append pairs x (h.0 ∷ h.1) y (k.0 ∷ k.1) z h.2 k.2)

-- each name of the list leads to one of the list
abbrev pub LeadsWithin : List DocAssignment → List (List ℕ) → List (List ℕ) → Type 0
LeadsWithin pairs names within = Each (λ x. (y : List ℕ) × Contains within y × IsAbove pairs x y) names

-- a name fewer
within-less : (pairs : List DocAssignment) (x : List ℕ) (names all : List (List ℕ)) → IsAcyclic pairs →
    ((y : List ℕ) × Contains (x ∷ all) y × IsAbove pairs x y) → LeadsWithin pairs names (x ∷ all) → LeadsWithin pairs names all
within-less pairs x [] all acyclic up h = tt
within-less pairs x (n ∷ names) all acyclic up h = (
  elim (contains-cases x h.0.0 all h.0.1) [
    | inl same ↦ elim (contains-cases x up.0 all up.1) [
      | inl loop ↦ absurd (let around : IsAbove pairs x x = subst (λ y. IsAbove pairs x y) (sym loop) up.2 in acyclic x around.0 around.1 around.2)
      | inr there ↦ (up.0, there, above-trans pairs n x up.0 (subst (λ y. IsAbove pairs n y) (sym same) h.0.2) up.2)
    ]
    | inr there ↦ (h.0.0, there, h.0.2)
  ],
  within-less pairs x names all acyclic up h.1,
)

pub none-within : (pairs : List DocAssignment) (names : List (List ℕ)) → IsAcyclic pairs → LeadsWithin pairs names names → names ≡ []
none-within pairs [] acyclic h = refl
none-within pairs (x ∷ names) acyclic h =
    let rest : names ≡ [] = none-within pairs names acyclic (within-less pairs x names names acyclic h.0 h.1) in
    absurd (elim (contains-cases x h.0.0 names h.0.1) [
      | inl loop ↦ let around : IsAbove pairs x x = subst (λ y. IsAbove pairs x y) (sym loop) h.0.2 in acyclic x around.0 around.1 around.2
      | inr there ↦ let none : Contains [] h.0.0 = rw rest at there in contains-none h.0.0 none
    ])

-- ---- lists

pub all-fails : {X : Type 0} (test : X → Bool) (xs : List X) → list_all test xs ≡ false → (x : X) × Contains xs x × (test x ≡ false)
all-fails test [] h = absurd (cc)
all-fails test (x ∷ xs) h = elim (and_cases (test x) (list_all test xs) h) [
  | inl here ↦ (x, contains-first x xs, here)
  | inr later ↦ let p = all-fails test xs later in (p.0, contains-rest x p.0 xs p.1, p.2)
]

pub all-at : {X : Type 0} (test : X → Bool) (xs : List X) (x : X) → list_all test xs ≡ true → Contains xs x → test x ≡ true
all-at test [] x h c = contains-none x c
all-at test (y ∷ ys) x h c = let p = and_parts (test y) (list_all test ys) h in elim (contains-cases y x ys c) [
  | inl same ↦ rw (← same) p.0
  | inr below ↦ all-at test ys x p.1 below
]

pub find-none : {X : Type 0} (test : X → Bool) (xs : List X) → find test xs ≡ None → list_any test xs ≡ false
find-none test [] = λ h. refl
find-none test (x ∷ xs) = cond_both (test x) (Some x) (find test xs) (λ o. o ≡ None → (test x || list_any test xs) ≡ false)
    (λ is h. absurd (cc)) (λ other h. rw other (find-none test xs h))

pub contains-map : {X Y : Type 0} (f : X → Y) (xs : List X) (x : X) → Contains xs x → Contains (map f xs) (f x)
contains-map f [] x c = contains-none x c
contains-map f (y ∷ ys) x c = elim (contains-cases y x ys c) [
  | inl same ↦ subst (λ z. Contains (f y ∷ map f ys) (f z)) same (contains-first (f y) (map f ys))
  | inr below ↦ contains-rest (f y) (f x) (map f ys) (contains-map f ys x below)
]

pub map-contains : {X Y : Type 0} (f : X → Y) (xs : List X) (y : Y) → Contains (map f xs) y → (x : X) × Contains xs x × (f x ≡ y)
map-contains f [] y c = contains-none y c
map-contains f (x ∷ xs) y c = elim (contains-cases (f x) y (map f xs) c) [
  | inl same ↦ (x, contains-first x xs, same)
  | inr below ↦ let p = map-contains f xs y below in (p.0, contains-rest x p.0 xs p.1, p.2)
]

-- ---- names

pub same-name : (a b : List ℕ) → bytes_eq a b ≡ true → a ≡ b
same-name a b h = (bytes_eq-Decides a b).0 h

pub name-itself : (a : List ℕ) → bytes_eq a a ≡ true
name-itself a = (bytes_eq-Decides a a).1 refl

-- no two elements have one name
pub one-called : (es : List DocElement) (a b : DocElement) → AreOnceCalled es → Contains es a → Contains es b → a.name ≡ b.name → a ≡ b
one-called [] a b h c d same = contains-none a c
one-called (e ∷ es) a b h c d same = elim (contains-cases e a es c) [
  | inl first ↦ elim (contains-cases e b es d) [
    | inl also ↦ cc
    | inr later ↦ absurd (clash b later (rw first same))
  ]
  | inr below ↦ elim (contains-cases e b es d) [
    | inl first ↦ absurd (clash a below (rw first (sym same)))
    | inr later ↦ one-called es a b h.1 below later same
  ]
] where
  clash : (y : DocElement) → Contains es y → e.name ≡ y.name → ⊥
  clash y c same =
      let none = none-at (is_called e.name) es y h.0 c in
      let yes = (bytes_eq-Decides e.name y.name).1 same in cc

pub called-once : (es : List DocElement) (c : DocElement) → AreOnceCalled es → Contains es c → called es c.name ≡ Some c
called-once es c once there =
    let p = find-some (is_called c.name) es c there (name-itself c.name) in
    let q = find-found (is_called c.name) es p.0 p.1 in
    let same : p.0 ≡ c = one-called es p.0 c once q.0 there (sym (same-name c.name p.0.name q.1)) in
    rw same at p.1

or_further : (b x y z : Bool) → x ≡ (y || z) → (b || x) ≡ ((b || y) || z)
or_further true x y z h = refl
or_further false x y z h = h

pub made-push : (made : List DocElement) (e : DocElement) (name : List ℕ) → is_made (made ++ e ∷ []) name ≡ (is_made made name || is_called name e)
made-push [] e name = or_none (is_called name e) where
  or_none : (b : Bool) → (b || false) ≡ b
  or_none true = refl
  or_none false = refl
made-push (d ∷ made) e name = or_further (is_called name d) _ _ _ (made-push made e name)

-- ---- the order

module _ (pairs : List DocAssignment) where
  -- what is made or not, and each container of what isn't is one of them
  pub record AreLeft (made rest : List DocElement) : Type 0 where
    pub once : AreOnceCalled rest
    pub closed : (e : DocElement) (p : DocAssignment) → Contains rest e → Contains pairs p → p.from ≡ e.name →
        (is_made made p.to ≡ true) ⊎ (is_made rest p.to ≡ true)

  -- none is ready
  stuck : (made rest : List DocElement) → IsAcyclic pairs → AreLeft made rest → find (is_ready pairs made) rest ≡ None → map (λ (e : DocElement). e.name) rest ≡ []
  stuck made rest acyclic left none = none-within pairs (names rest) acyclic (within rest (λ e c. c)) where
    names : List DocElement → List (List ℕ)
    names es = map (λ (e : DocElement). e.name) es

    on : (e : DocElement) → Contains rest e → (y : List ℕ) × Contains (names rest) y × IsAbove pairs e.name y
    on e c =
        let unready : is_ready pairs made e ≡ false = none-at (is_ready pairs made) rest e (find-none (is_ready pairs made) rest none) c in
        let p = all-fails (λ (p : DocAssignment). is_made made p.to) (filter (is_assigned e.name) pairs) unready in
        let q = filter-contains (is_assigned e.name) pairs p.0 p.1 in
        let from : e.name ≡ p.0.from = same-name e.name p.0.from q.1 in
        elim (left.closed e p.0 c q.0 (sym from)) [
          | inl done ↦ absurd (let not_made = p.2 in cc)
          | inr there ↦
              let d = any-found (is_called p.0.to) rest there in
              let named : p.0.to ≡ d.0.name = same-name p.0.to d.0.name d.2 in (
                p.0.to,
                subst (λ n. Contains (names rest) n) (sym named) (contains-map (λ (e : DocElement). e.name) rest d.0 d.1),
                (p.0.to, [], (subst (λ n. Contains pairs (assignment n p.0.to)) (sym from) q.0, refl)),
              )
        ]

    within : (es : List DocElement) → ((e : DocElement) → Contains es e → Contains rest e) → LeadsWithin pairs (names es) (names rest)
    within [] sub = tt
    within (e ∷ es) sub = (on e (sub e (contains-first e es)), within es (λ d c. sub d (contains-rest e d es c)))

  once-filter : (test : DocElement → Bool) (es : List DocElement) → AreOnceCalled es → AreOnceCalled (filter test es)
  once-filter test [] h = tt
  once-filter test (e ∷ es) h = filter-split test AreOnceCalled e es
      (λ is. (none-from (is_called e.name) (filter test es) (λ d c. none-at (is_called e.name) es d h.0 (filter-contains test es d c).0), once-filter test es h.1))
      (λ is. once-filter test es h.1)

  -- one fewer
  left-less : (made rest : List DocElement) (e : DocElement) → AreLeft made rest → AreLeft (made ++ e ∷ []) (without e rest)
  left-less made rest e left = record {
    once = once-filter (λ d. not (is_called e.name d)) rest left.once;
    closed = λ d p c cp from. elim (left.closed d p (filter-contains (λ d. not (is_called e.name d)) rest d c).0 cp from) [
      | inl done ↦ inl (made-push made e p.to ∙ or_left (is_made made p.to) (is_called p.to e) done)
      | inr there ↦
          let q = any-found (is_called p.to) rest there in
          elim (cases_Bool (is_called e.name q.0)) [
            | inl it ↦
                let same : p.to ≡ e.name = same-name p.to q.0.name q.2 ∙ sym (same-name e.name q.0.name it) in
                inl (made-push made e p.to ∙ or_right (is_made made p.to) (is_called p.to e) ((bytes_eq-Decides p.to e.name).1 same))
            | inr other ↦ inr (any-from (is_called p.to) (without e rest) q.0
                (contains-filter (λ d. not (is_called e.name d)) rest q.0 q.1 (rw other refl)) q.2)
          ]
    ];
  }

  -- each has its turn
  pub ordered-whole : (n : ℕ) (made rest : List DocElement) → IsAcyclic pairs → AreLeft made rest → length rest ≤ n →
      (d : DocElement) → Contains rest d → Contains (ordered pairs n made rest) d
  ordered-whole zero made [] acyclic left few d c = contains-none d c
  ordered-whole zero made (e ∷ rest) acyclic left few d c = absurd (omega (arith, few))
  ordered-whole (suc n) made rest acyclic left few d c = of (find (is_ready pairs made) rest) refl (λ e. ordered-whole n (made ++ e ∷ []) (without e rest)) where
    of : (o : Option DocElement) → find (is_ready pairs made) rest ≡ o →
        ((e : DocElement) → IsAcyclic pairs → AreLeft (made ++ e ∷ []) (without e rest) → length (without e rest) ≤ n → (x : DocElement) → Contains (without e rest) x →
        Contains (ordered pairs n (made ++ e ∷ []) (without e rest)) x) →
        Contains (then_after o (λ e. ordered pairs n (made ++ e ∷ []) (without e rest))) d
    of None is further =
        let none = stuck made rest acyclic left is in
        let there = contains-map (λ (e : DocElement). e.name) rest d c in
        contains-none d.name (rw none at there)
    of (Some e) is further =
        let p = find-found (is_ready pairs made) rest e is in
        elim (cases_Bool (is_called e.name d)) [
          | inl it ↦
              let same : e ≡ d = one-called rest e d left.once p.0 c (same-name e.name d.name it) in
              subst (λ x. Contains (e ∷ ordered pairs n (made ++ e ∷ []) (without e rest)) x) same (contains-first e (ordered pairs n (made ++ e ∷ []) (without e rest)))
          | inr other ↦
              let fewer = filter-fewer (λ d. not (is_called e.name d)) rest e p.0 (rw (name-itself e.name) refl) in
              contains-rest e d (ordered pairs n (made ++ e ∷ []) (without e rest))
              (further e acyclic (left-less made rest e left) (omega (arith, fewer, few)) d
              (contains-filter (λ d. not (is_called e.name d)) rest d c (rw other refl)))
        ]

  -- and nothing else
  pub ordered-within : (n : ℕ) (made rest : List DocElement) (d : DocElement) → Contains (ordered pairs n made rest) d → Contains rest d
  ordered-within zero made rest d c = contains-none d c
  ordered-within (suc n) made rest d c = of (find (is_ready pairs made) rest) refl (λ e. ordered-within n (made ++ e ∷ []) (without e rest) d) c where
    of : (o : Option DocElement) → find (is_ready pairs made) rest ≡ o →
        ((e : DocElement) → Contains (ordered pairs n (made ++ e ∷ []) (without e rest)) d → Contains (without e rest) d) →
        Contains (then_after o (λ e. ordered pairs n (made ++ e ∷ []) (without e rest))) d → Contains rest d
    of None is further c = contains-none d c
    of (Some e) is further c = elim (contains-cases e d (ordered pairs n (made ++ e ∷ []) (without e rest)) c) [
      | inl same ↦ subst (λ x. Contains rest x) same (find-found (is_ready pairs made) rest e is).0
      | inr later ↦ (filter-contains (λ d. not (is_called e.name d)) rest d (further e later)).0
    ]

  -- each is new when its turn comes, and its containers are made
  abbrev pub AreReady : List DocElement → List DocElement → Type 0
  AreReady made [] = Unit {0}
  AreReady made (e ∷ es) = (is_made made e.name ≡ false) × (is_ready pairs made e ≡ true) × AreReady (made ++ e ∷ []) es

  pub ordered-ready : (n : ℕ) (made rest : List DocElement) → ((d : DocElement) → Contains rest d → is_made made d.name ≡ false) →
      AreReady made (ordered pairs n made rest)
  ordered-ready zero made rest new = tt
  ordered-ready (suc n) made rest new = of (find (is_ready pairs made) rest) refl (λ e. ordered-ready n (made ++ e ∷ []) (without e rest)) where
    of : (o : Option DocElement) → find (is_ready pairs made) rest ≡ o →
        ((e : DocElement) → ((d : DocElement) → Contains (without e rest) d → is_made (made ++ e ∷ []) d.name ≡ false) →
        AreReady (made ++ e ∷ []) (ordered pairs n (made ++ e ∷ []) (without e rest))) →
        AreReady made (then_after o (λ e. ordered pairs n (made ++ e ∷ []) (without e rest)))
    of None is further = tt
    of (Some e) is further =
        let p = find-found (is_ready pairs made) rest e is in (
          new e p.0,
          p.1,
          further e (λ d c.
              let q = filter-contains (λ d. not (is_called e.name d)) rest d c in
              let other : is_called e.name d ≡ false = not-true (is_called e.name d) q.1 in
              made-push made e d.name ∙ rw (new d q.0, other-swapped e.name d.name other) refl),
        )
