-- Two lists walked through together: the changes so far are those of all numbers below the ones that are left.
use Rattle.std.proofs.Common.{◌≡◌, ◌≢◌, ℕ, zero, suc, ◌+◌, ◌<◌, ◌≤◌, ◌==◌, max, min, Bool, true, false, not, List, [], ◌∷◌, ◌++◌, length, drop, map, filter, find, bytes_eq, if◌then◌else◌, Option, None, Some, OnSome, unwrap_or, IsTrue, All, refl, sym, ◌∙◌, ap, inl, inr, arith, ne_eqb, eq-eqb}
use Rattle.std.proofs.lemmas.List.{append-nil, length-drop}
use Rattle.std.proofs.lemmas.Bool.{eqb-true, eqb-false, cases_lt}
use Rattle.std.proofs.lemmas.List.Elements.{All-head, All-tail, All-drop}
use Rattle.std.proofs.lemmas.Slice.Eq.{bytes_eq-Decides}
use Rattle.pm_model.specs.LastChanges.{changed, differs, is_of, rights_listed, above, changes_at, changes_below, changes_between}
use Rattle.pm_model.specs.declared.reviews.Changed.{Changed}
use Rattle.pm_model.specs.declared.reviews.Pair.{Pair}
use Rattle.pm_review.specs.Rising.{AreSame, RiseFrom, PairsRiseFrom, AllAlike, AllNamed}
use Rattle.pm_review.specs.Steps.{lowest, first_rights, after_first, changes_of}

-- ---- one list

rights-below : (m k : ℕ) (ps : List Pair) → PairsRiseFrom m ps → k < m → rights_listed ps k ≡ 0
rights-below m k [] h below = refl
rights-below m k (p ∷ ps) h below =
    let other : (p.element == k) ≡ false = ne_eqb p.element k (λ same. omega (arith, same, h.0, below)) in
    rw other (rights-below (p.element + 1) k ps h.1 (omega (arith, h.0, below)))

rights-above : (k : ℕ) (ps : List Pair) → above ps ≤ k → rights_listed ps k ≡ 0
rights-above k [] over = refl
rights-above k (p ∷ ps) over =
    let other : (p.element == k) ≡ false = ne_eqb p.element k (λ same. omega (arith, same, over)) in
    rw other (rights-above k ps (omega (arith, over)))

rights-first : (n : ℕ) (ps : List Pair) → PairsRiseFrom n ps → rights_listed ps n ≡ unwrap_or (first_rights n ps) 0
rights-first n [] h = refl
rights-first n (p ∷ ps) h = by (p.element == n) refl where
  by : (b : Bool) → (p.element == n) ≡ b → rights_listed (p ∷ ps) n ≡ unwrap_or (first_rights n (p ∷ ps)) 0
  by true is = rw is refl
  by false is = rw is (rights-below (p.element + 1) n ps h.1 (omega (arith, h.0)))

-- what is left of a list tells the rights of all numbers from m on
pub record IsRest (m : ℕ) (whole rest : List Pair) : Type 0 where
  pub rising : PairsRiseFrom m rest
  pub same : (k : ℕ) → m ≤ k → rights_listed whole k ≡ rights_listed rest k

rest-after : (n : ℕ) (ps : List Pair) → PairsRiseFrom n ps → IsRest (n + 1) ps (after_first n ps)
rest-after n [] h = record { rising = tt; same = λ k from. refl }
rest-after n (p ∷ ps) h = by (p.element == n) refl where
  by : (b : Bool) → (p.element == n) ≡ b → IsRest (n + 1) (p ∷ ps) (after_first n (p ∷ ps))
  by true is =
      let here : p.element ≡ n = eqb-true p.element n is in
      rw is (record {
        rising = rw here at h.1;
        same = λ k from. let other : (p.element == k) ≡ false = ne_eqb p.element k (λ same. omega (arith, same, here, from)) in rw other refl;
      })
  by false is =
      let apart : p.element ≢ n = eqb-false p.element n is in
      rw is (record { rising = (omega (arith, h.0), h.1); same = λ k from. refl })

rest-next : (m n : ℕ) (whole rest : List Pair) → IsRest m whole rest → m ≤ n → PairsRiseFrom n rest → IsRest (n + 1) whole (after_first n rest)
rest-next m n whole rest r behind h =
    let next = rest-after n rest h in
    record { rising = next.rising; same = λ k from. r.same k (omega (arith, behind, from)) ∙ next.same k from }

after-shorter : (n : ℕ) (ps : List Pair) → length (after_first n ps) ≤ length ps
after-shorter n [] = omega arith
after-shorter n (p ∷ ps) = by (p.element == n) refl where
  by : (b : Bool) → (p.element == n) ≡ b → length (after_first n (p ∷ ps)) ≤ length (p ∷ ps)
  by true is = rw is (omega arith)
  by false is = rw is (omega arith)

after-first : (n : ℕ) (p : Pair) (ps : List Pair) → (p.element == n) ≡ true → length (after_first n (p ∷ ps)) < length (p ∷ ps)
after-first n p ps is = rw is (omega arith)

-- what holds of each number holds of the first, and of those after it
module _ (P : ℕ → Type 0) where
  first-all : (n : ℕ) (ps : List Pair) → All (λ (p : Pair). P p.element) ps → OnSome (first_rights n ps) (P n)
  first-all n [] h = tt
  first-all n (p ∷ ps) h = by (p.element == n) refl where
    by : (b : Bool) → (p.element == n) ≡ b → OnSome (first_rights n (p ∷ ps)) (P n)
    by true is = rw is (rw (eqb-true p.element n is) at (All-head (λ (p : Pair). P p.element) p ps h))
    by false is = rw is tt

  after-all : (n : ℕ) (ps : List Pair) → All (λ (p : Pair). P p.element) ps → All (λ (p : Pair). P p.element) (after_first n ps)
  after-all n [] h = h
  after-all n (p ∷ ps) h = by (p.element == n) refl where
    by : (b : Bool) → (p.element == n) ≡ b → All (λ (p : Pair). P p.element) (after_first n (p ∷ ps))
    by true is = rw is (All-tail (λ (p : Pair). P p.element) p ps h)
    by false is = rw is h

pub first-named : (named : ℕ → Bool) (n : ℕ) (ps : List Pair) → AllNamed named ps → OnSome (first_rights n ps) (IsTrue (named n))
first-named named n ps h = first-all (λ n. IsTrue (named n)) n ps h

pub after-named : (named : ℕ → Bool) (n : ℕ) (ps : List Pair) → AllNamed named ps → AllNamed named (after_first n ps)
after-named named n ps h = after-all (λ n. IsTrue (named n)) n ps h

pub first-alike : (was is : ℕ → List ℕ) (n : ℕ) (ps : List Pair) → AllAlike was is ps → OnSome (first_rights n ps) (was n ≡ is n)
first-alike was is n ps h = first-all (λ n. was n ≡ is n) n ps h

pub after-alike : (was is : ℕ → List ℕ) (n : ℕ) (ps : List Pair) → AllAlike was is ps → AllAlike was is (after_first n ps)
after-alike was is n ps h = after-all (λ n. was n ≡ is n) n ps h

pub dropped-named : (named : ℕ → Bool) (n : ℕ) (ps : List Pair) → AllNamed named ps → AllNamed named (drop n ps)
dropped-named named n ps h = All-drop (λ (p : Pair). IsTrue (named p.element)) n ps h

pub dropped-alike : (was is : ℕ → List ℕ) (n : ℕ) (ps : List Pair) → AllAlike was is ps → AllAlike was is (drop n ps)
dropped-alike was is n ps h = All-drop (λ (p : Pair). was p.element ≡ is p.element) n ps h

pub dropped-shorter : (n : ℕ) (ps : List Pair) → length (drop n ps) ≤ length ps
dropped-shorter n ps = rw (length-drop n ps) (omega arith)

-- ---- the lowest number of two lists

record IsLowest (m n : ℕ) (ps qs : List Pair) : Type 0 where
  least : m ≤ n
  old : PairsRiseFrom n ps
  new : PairsRiseFrom n qs
  fewer : length (after_first n ps) + length (after_first n qs) < length ps + length qs

lowest-is : (m n : ℕ) (ps qs : List Pair) → PairsRiseFrom m ps → PairsRiseFrom m qs → Some n ≡ lowest ps qs → IsLowest m n ps qs
lowest-is m n [] [] h k e = cc
lowest-is m n [] (q ∷ qs) h k e =
    let is : n ≡ q.element = cc in
    let first : (q.element == n) ≡ true = eq-eqb q.element n (sym is) in
    record { least = omega (arith, is, k.0); old = tt; new = (omega (arith, is), k.1); fewer = omega (arith, after-first n q qs first) }
lowest-is m n (p ∷ ps) [] h k e =
    let is : n ≡ p.element = cc in
    let first : (p.element == n) ≡ true = eq-eqb p.element n (sym is) in
    record { least = omega (arith, is, h.0); old = (omega (arith, is), h.1); new = tt; fewer = omega (arith, after-first n p ps first) }
lowest-is m n (p ∷ ps) (q ∷ qs) h k e =
    let is : n ≡ min p.element q.element = cc in
    record {
      least = omega (arith, is, h.0, k.0);
      old = (omega (arith, is), h.1);
      new = (omega (arith, is), k.1);
      fewer = elim (cases_lt q.element p.element) [
        | inl other ↦ omega (arith, after-shorter n (p ∷ ps), after-first n q qs (eq-eqb q.element n (omega (arith, is, other))))
        | inr first ↦ omega (arith, after-first n p ps (eq-eqb p.element n (omega (arith, is, first))), after-shorter n (q ∷ qs))
      ];
    }

none-left : (ps qs : List Pair) → None ≡ lowest ps qs → (ps ≡ []) × (qs ≡ [])
none-left [] [] e = (refl, refl)
none-left [] (q ∷ qs) e = cc
none-left (p ∷ ps) [] e = cc
none-left (p ∷ ps) (q ∷ qs) e = cc

-- ---- the changes

module _ (was is : ℕ → List ℕ) (old new : List Pair) where
  at-none : (k : ℕ) → rights_listed old k ≡ 0 → rights_listed new k ≡ 0 → changes_at was is old new k ≡ []
  at-none k a b = rw (a, b) (by (bytes_eq (was k) (is k))) where
    by : (same : Bool) →
        filter differs (if same then changed (is k) 0 0 ∷ [] else changed (was k) 0 0 ∷ changed (is k) 0 0 ∷ []) ≡ []
    by true = refl
    by false = refl

  quiet-next : (a b : ℕ) → changes_below was is old new b ≡ changes_below was is old new a → changes_at was is old new b ≡ [] →
      changes_below was is old new (suc b) ≡ changes_below was is old new a
  unfolding changes_below
  quiet-next a b before none = rw (none, append-nil) before

  -- numbers that neither list has add nothing
  quiet : (a b : ℕ) → a ≤ b → ((k : ℕ) → a ≤ k → k < b → changes_at was is old new k ≡ []) →
      changes_below was is old new b ≡ changes_below was is old new a
  quiet a zero up none = ap (changes_below was is old new) (omega (arith, up))
  quiet a (suc b) up none = elim (cases_lt b a) [
    | inl at_end ↦ ap (changes_below was is old new) (omega (arith, up, at_end))
    | inr further ↦ quiet-next a b (quiet a b further (λ k from below. none k from (omega (arith, below)))) (none b further (omega arith))
  ]

  -- the changes so far, and what is left of the lists
  pub record Walked (list : List Changed) (old_rest new_rest : List Pair) : Type 0 where
    pub next : ℕ
    pub so_far : list ≡ changes_below was is old new next
    pub of_old : IsRest next old old_rest
    pub of_new : IsRest next new new_rest

  pub walked-none : PairsRiseFrom 0 old → PairsRiseFrom 0 new → Walked [] old new
  unfolding changes_below
  walked-none h k = record {
    next = 0;
    so_far = refl;
    of_old = record { rising = h; same = λ k from. refl };
    of_new = record { rising = k; same = λ k from. refl };
  }

  module _ (list more : List Changed) (ps qs : List Pair) (n : ℕ) (w : Walked list ps qs) (e : Some n ≡ lowest ps qs) where
    lowest-here : IsLowest w.next n ps qs
    lowest-here = lowest-is w.next n ps qs w.of_old.rising w.of_new.rising e

    pub walked-shorter : length (after_first n ps) + length (after_first n qs) < length ps + length qs
    walked-shorter = lowest-here.fewer

    gap : changes_below was is old new n ≡ changes_below was is old new w.next
    gap = quiet w.next n lowest-here.least (λ k from below.
        at-none k (w.of_old.same k from ∙ rights-below n k ps lowest-here.old below) (w.of_new.same k from ∙ rights-below n k qs lowest-here.new below))

    here : changes_at was is old new n ≡ changes_of (was n) (is n) (unwrap_or (first_rights n ps) 0) (unwrap_or (first_rights n qs) 0)
    here =
        let a : rights_listed old n ≡ unwrap_or (first_rights n ps) 0 = w.of_old.same n lowest-here.least ∙ rights-first n ps lowest-here.old in
        let b : rights_listed new n ≡ unwrap_or (first_rights n qs) 0 = w.of_new.same n lowest-here.least ∙ rights-first n qs lowest-here.new in
        rw (a, b) refl

    so-far-next : more ≡ list ++ changes_of (was n) (is n) (unwrap_or (first_rights n ps) 0) (unwrap_or (first_rights n qs) 0) →
        more ≡ changes_below was is old new (suc n)
    unfolding changes_below
    so-far-next put = put ∙ rw (← here, gap) (ap (λ l. l ++ changes_at was is old new n) w.so_far)

    pub walked-next : more ≡ list ++ changes_of (was n) (is n) (unwrap_or (first_rights n ps) 0) (unwrap_or (first_rights n qs) 0) →
        Walked more (after_first n ps) (after_first n qs)
    walked-next put = record {
      next = n + 1;
      so_far = so-far-next put ∙ ap (changes_below was is old new) (omega arith);
      of_old = rest-next w.next n old ps w.of_old lowest-here.least lowest-here.old;
      of_new = rest-next w.next n new qs w.of_new lowest-here.least lowest-here.new;
    }

  no-change : (n rights : ℕ) → was n ≡ is n → changes_of (was n) (is n) rights rights ≡ []
  no-change n rights alike = rw (alike, (bytes_eq-Decides (is n) (is n)).1 refl, eq-eqb rights rights refl) refl

  -- a pair with which both begin tells of no change, where its number has one name
  walked-past : (list : List Changed) (p : Pair) (ps qs : List Pair) → Walked list (p ∷ ps) (p ∷ qs) → was p.element ≡ is p.element → Walked list ps qs
  walked-past list p ps qs w alike =
      let here : (p.element == p.element) ≡ true = eq-eqb p.element p.element refl in
      let first : Some p.element ≡ lowest (p ∷ ps) (p ∷ qs) = ap (λ n. Some n) (omega arith) in
      rw here at (walked-next list list (p ∷ ps) (p ∷ qs) p.element w first
      (rw here (rw (no-change p.element p.rights alike) (sym (append-nil list)))))

  -- nor do more such pairs
  pub walked-same : (list : List Changed) (n : ℕ) (ps qs : List Pair) → Walked list ps qs → AllAlike was is ps → n ≤ length ps → n ≤ length qs →
      AreSame n ps qs → Walked list (drop n ps) (drop n qs)
  walked-same list zero ps qs w alike a b same = w
  walked-same list (suc n) [] qs w alike a b same = absurd (omega (arith, a))
  walked-same list (suc n) (p ∷ ps) [] w alike a b same = absurd (omega (arith, b))
  walked-same list (suc n) (p ∷ ps) (q ∷ qs) w alike a b same =
      let is_one : Some p ≡ Some q = same 0 (omega arith) in
      let one : q ≡ p = cc in
      walked-same list n ps qs (walked-past list p ps qs (rw one at w) (All-head (λ (p : Pair). was p.element ≡ is p.element) p ps alike))
      (All-tail (λ (p : Pair). was p.element ≡ is p.element) p ps alike) (omega (arith, a)) (omega (arith, b)) (λ k below. same (suc k) (omega (arith, below)))

  -- as many as tell of no change, which are none unless names stay
  pub walked-unchanged : (list : List Changed) (n : ℕ) (ps qs : List Pair) → Walked list ps qs → (0 < n → AllAlike was is ps) → n ≤ length ps → n ≤ length qs →
      AreSame n ps qs → Walked list (drop n ps) (drop n qs)
  walked-unchanged list zero ps qs w alike a b same = w
  walked-unchanged list (suc n) ps qs w alike a b same = walked-same list (suc n) ps qs w (alike (omega arith)) a b same

  pub walked-all : (list : List Changed) (ps qs : List Pair) → Walked list ps qs → None ≡ lowest ps qs → list ≡ changes_between was is old new
  walked-all list ps qs w e = w.so_far ∙ meet w.next (max (above old) (above new)) refl refl where
    past : (k : ℕ) → w.next ≤ k → changes_at was is old new k ≡ []
    past k from =
        let left = none-left ps qs e in
        at-none k (w.of_old.same k from ∙ ap (λ l. rights_listed l k) left.0) (w.of_new.same k from ∙ ap (λ l. rights_listed l k) left.1)

    over : (k : ℕ) → max (above old) (above new) ≤ k → changes_at was is old new k ≡ []
    over k from = at-none k (rights-above k old (omega (arith, from))) (rights-above k new (omega (arith, from)))

    meet : (a b : ℕ) → a ≡ w.next → b ≡ max (above old) (above new) → changes_below was is old new a ≡ changes_below was is old new b
    meet a b is_next is_end = elim (cases_lt a b) [
      | inl before ↦ sym (quiet a b (omega (arith, before)) (λ k from below. past k (omega (arith, from, is_next))))
      | inr behind ↦ quiet b a behind (λ k from below. over k (omega (arith, from, is_end)))
    ]
