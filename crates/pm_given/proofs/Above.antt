-- What is given on an element, from the elements that contain it, word by word.
use Rattle.std.proofs.Common.{◌≡◌, ◌≢◌, ℕ, zero, suc, ◌+◌, ◌*◌, ◌/◌, ◌%◌, ◌<◌, ◌≤◌, ◌==◌, ◌||◌, ◌&&◌, not, Bool, true, false, List, [], ◌∷◌, ◌++◌, if◌then◌else◌, length, get_or, drop, slice_get, bit_and, All, subst, Option, None, Some, refl, sym, ap, ◌∙◌, arith, inl, inr}
use Rattle.std.specs.Int.{bit_at}
use Rattle.std.specs.List.{list_any, list_all}
use Rattle.std.proofs.lemmas.Bool.{cases_eq, cases_lt, eq-eqb, eqb-true, ne_eqb, true≢false}
use Rattle.std.proofs.lemmas.List.{get_or_past, drop_all, append-nil}
use Rattle.std.proofs.lemmas.List.Elements.{All-get_or, All-nil, All-cons, All-append}
use Rattle.std.proofs.lemmas.List.Folds.{list_any-append}
use Rattle.std.proofs.lemmas.Option.{slice_get_within, get_or_from_slice_get}
use Rattle.std.proofs.lemmas.Nat.Bits.{bit_at-zero}
use Rattle.pm_model.proofs.Walks.{drop-item}
use Rattle.pm_model.specs.Decision.{classes_of}
use Rattle.pm_model.specs.Formed.{Each}
use Rattle.pm_model.specs.RightSet.{has_right}
use Rattle.pm_model.specs.declared.rights.Grant.{Grant}
use Rattle.pm_decide.specs.Gives.{gives}
use Rattle.pm_decide.specs.Hits.{in_word}
use Rattle.pm_decide.specs.Sets.{IsSetOf}
use Rattle.pm_decide.proofs.RightSets.{IsMeeting, meeting-more}
use Rattle.pm_decide.proofs.Walks.{all-drop}
use Rattle.pm_given.specs.Given.{is_at}
use Rattle.pm_given.specs.Joins.{gives_in}
use Rattle.pm_given.specs.Told.{AreNoted, AreTold, is_marked, is_placed}

-- ---- tests of lists

four : (a b c d : Bool) → ((a || b) || (c || d)) ≡ ((a || c) || (b || d))
four true b c d = refl
four false true true d = refl
four false true false d = refl
four false false c d = refl

module _ {X : Type 0} where
  any-none : (xs : List X) → list_any (λ x. false) xs ≡ false
  any-none [] = refl
  any-none (x ∷ xs) = any-none xs

  any-and : (b : Bool) (p : X → Bool) (xs : List X) → list_any (λ x. b && p x) xs ≡ (b && list_any p xs)
  any-and true p xs = refl
  any-and false p xs = any-none xs

  any-same : (p q : X → Bool) → ((x : X) → p x ≡ q x) → (xs : List X) → list_any p xs ≡ list_any q xs
  any-same p q same [] = refl
  any-same p q same (x ∷ xs) = rw (same x, any-same p q same xs) refl

  -- what passes is split in two
  any-split : (p q s : X → Bool) (xs : List X) → Each (λ x. p x ≡ (q x || s x)) xs → list_any p xs ≡ (list_any q xs || list_any s xs)
  any-split p q s [] h = refl
  any-split p q s (x ∷ xs) h = rw (h.0, any-split p q s xs h.1) (four (q x) (s x) (list_any q xs) (list_any s xs))

  any-each : (p q : X → Bool) (xs : List X) → Each (λ x. p x ≡ q x) xs → list_any p xs ≡ list_any q xs
  any-each p q [] h = refl
  any-each p q (x ∷ xs) h = rw (h.0, any-each p q xs h.1) refl

  each-map : (P Q : X → Type 0) → ((x : X) → P x → Q x) → (xs : List X) → Each P xs → Each Q xs
  each-map P Q f [] h = tt
  each-map P Q f (x ∷ xs) h = (f x h.0, each-map P Q f xs h.1)

  each-of : (P : X → Type 0) → ((x : X) → P x) → (xs : List X) → Each P xs
  each-of P f [] = tt
  each-of P f (x ∷ xs) = (f x, each-of P f xs)

-- each grant is on an element that some grant is on
places : (L : List Grant) → Each (λ (h : Grant). list_any (is_at None h.at) L ≡ true) L
places [] = tt
places (x ∷ L) = (
  rw (eq-eqb x.at x.at refl) refl,
  each-map (λ (h : Grant). list_any (is_at None h.at) L ≡ true) (λ (h : Grant). list_any (is_at None h.at) (x ∷ L) ≡ true)
      (λ h there. rw there (either (x.at == h.at))) L (places L),
) where
  either : (b : Bool) → (b || true) ≡ true
  either true = refl
  either false = refl

-- ---- the marks of a word

pub marked-at : (marks : List ℕ) (k i : ℕ) → i < 64 → (bit_at (get_or marks k 0) i == 1) ≡ is_marked marks (64 * k + i)
marked-at marks k i h =
    let page : (64 * k + i) / 64 ≡ k = omega arith in
    let within : (64 * k + i) % 64 ≡ i = omega arith in
    rw (page, within) refl

within : (marks : List ℕ) (p : ℕ) → is_marked marks p ≡ true → p < 64 * length marks
within marks p h = elim (cases_lt (p / 64) (length marks)) [
  | inl l ↦ omega arith
  | inr l ↦
      let out : is_marked marks p ≡ false = rw (get_or_past marks (p / 64) 0 l, bit_at-zero (p % 64)) refl in
      absurd (true≢false (sym h ∙ out))
]

-- ---- the places of the words that aren't empty

-- those of the first k words
pub record AreNotedTo (k : ℕ) (ks marks : List ℕ) : Type 0 where
  pub within : All (λ j. j < length marks) ks
  pub full : (p : ℕ) → p / 64 < k → is_marked marks p ≡ true → is_placed ks p ≡ true

pub noted-begun : (marks : List ℕ) → AreNotedTo 0 [] marks
noted-begun marks = record { within = All-nil (λ j. j < length marks); full = λ p below. absurd (omega (arith, below)) }

pub noted-more : (k : ℕ) (ks marks : List ℕ) → AreNotedTo k ks marks → k < length marks →
    AreNotedTo (k + 1) (ks ++ (if get_or marks k 0 == 0 then [] else k ∷ [])) marks
noted-more k ks marks h here = of (get_or marks k 0 == 0) refl where
  last : (b : Bool) → (b || (true || false)) ≡ true
  last true = refl
  last false = refl

  none : (p : ℕ) → p / 64 ≡ k → get_or marks k 0 ≡ 0 → is_marked marks p ≡ false
  none p page empty = rw (page, empty, bit_at-zero (p % 64)) refl

  of : (b : Bool) → (get_or marks k 0 == 0) ≡ b → AreNotedTo (k + 1) (ks ++ (if get_or marks k 0 == 0 then [] else k ∷ [])) marks
  of true empty = rw (empty, append-nil) (record {
    within = h.within;
    full = λ p below marked. elim (cases_lt (p / 64) k) [
      | inl l ↦ h.full p l marked
      | inr l ↦ absurd (true≢false (sym marked ∙ none p (omega (arith, below, l)) (eqb-true (get_or marks k 0) 0 empty)))
    ];
  })
  of false some = rw some (record {
    within = All-append (λ j. j < length marks) ks (k ∷ []) h.within (All-cons (λ j. j < length marks) k [] here (All-nil (λ j. j < length marks)));
    full = λ p below marked. rw (list_any-append (λ j. p / 64 == j) ks (k ∷ [])) (elim (cases_lt (p / 64) k) [
      | inl l ↦ rw (h.full p l marked) refl
      | inr l ↦ rw (eq-eqb (p / 64) k (omega (arith, below, l))) (last (is_placed ks p))
    ]);
  })

pub noted-done : (k : ℕ) (ks marks : List ℕ) → AreNotedTo k ks marks → length marks ≤ k → AreNoted ks marks
noted-done k ks marks h past = record { within = h.within; full = λ p marked. h.full p (omega (arith, past, within marks p marked)) marked }

-- among words that are all empty there is none
pub empty-noted : (marks : List ℕ) → ((k : ℕ) → get_or marks k 0 ≡ 0) → AreNoted [] marks
empty-noted marks none = record {
  within = All-nil (λ j. j < length marks);
  full = λ p marked. let out : is_marked marks p ≡ false = rw (none (p / 64), bit_at-zero (p % 64)) refl in absurd (true≢false (sym marked ∙ out));
}

-- ---- the element of the lowest bit, and those of the others

module _ (k word i : ℕ) (place : i < 64) (set : (bit_at word i == 1) ≡ true) (left : ℕ)
    (rest : (j : ℕ) → j < 64 → (bit_at left j == 1) ≡ (bit_at word j == 1 && not (j == i))) where
  placed : (n : ℕ) → n / 64 ≡ k → (m : ℕ) → n % 64 ≡ m → (m == i) ≡ (n == 64 * k + i)
  placed n page m is = elim (cases_eq m i) [
    | inl e ↦ rw (eq-eqb m i e, eq-eqb n (64 * k + i) (omega arith)) refl
    | inr d ↦ rw (ne_eqb m i d, ne_eqb n (64 * k + i) (λ e. d (omega arith))) refl
  ]

  others : (n : ℕ) → in_word k left n ≡ (in_word k word n && not (n == 64 * k + i))
  others n = elim (cases_eq (n / 64) k) [
    | inl e ↦ rw (eq-eqb (n / 64) k e, rest (n % 64) (omega arith), placed n e (n % 64) refl) refl
    | inr d ↦ rw (ne_eqb (n / 64) k d) refl
  ]

  there : in_word k word (64 * k + i) ≡ true
  there =
      let page : (64 * k + i) / 64 ≡ k = omega arith in
      let within : (64 * k + i) % 64 ≡ i = omega arith in
      rw (page, within, eq-eqb k k refl, set) refl

  first : (g : Bool) → (true && g) ≡ ((true && g) || ((true && not true) && g))
  first true = refl
  first false = refl

  later : (w g : Bool) → (w && g) ≡ ((false && g) || ((w && not false) && g))
  later true g = refl
  later false g = refl

  module _ (below : ℕ → ℕ → Bool) (r e c : ℕ) where
    one : (h : Grant) → gives_in below k word r e c h ≡ ((h.at == 64 * k + i && gives below r e c h) || gives_in below k left r e c h)
    one h = elim (cases_eq h.at (64 * k + i)) [
      | inl is ↦ rw (others h.at, is, there, eq-eqb (64 * k + i) (64 * k + i) refl) (first _)
      | inr apart ↦ rw (others h.at, ne_eqb h.at (64 * k + i) apart) (later (in_word k word h.at) (gives below r e c h))
    ]

    turned : (a d : Bool) → (true && (a && true && d)) ≡ (d && (a && true))
    turned true true = refl
    turned true false = refl
    turned false true = refl
    turned false false = refl

    none : (d a x : Bool) → (false && x) ≡ (d && (a && false))
    none true true x = refl
    none true false x = refl
    none false a x = refl

    here : below e (64 * k + i) ≡ true → (h : Grant) →
        (h.at == 64 * k + i && gives below r e c h) ≡ (below (64 * k + i) c && is_at (Some r) (64 * k + i) h)
    here within h = elim (cases_eq h.at (64 * k + i)) [
      | inl is ↦ rw (is, eq-eqb (64 * k + i) (64 * k + i) refl, within) (turned (has_right h.rights r) (below (64 * k + i) c))
      | inr apart ↦ rw (ne_eqb h.at (64 * k + i) apart) (none (below (64 * k + i) c) (has_right h.rights r) (gives below r e c h))
    ]

    pub hit-step : (L : List Grant) (own marks : List ℕ) → AreTold L own marks → below e (64 * k + i) ≡ true →
        list_any (gives_in below k word r e c) L
        ≡ ((below (64 * k + i) c && has_right (get_or own (64 * k + i) 0) r) || list_any (gives_in below k left r e c) L)
    hit-step L own marks told within =
        any-split (gives_in below k word r e c) (λ h. h.at == 64 * k + i && gives below r e c h) (gives_in below k left r e c) L
        (each-of (λ h. gives_in below k word r e c h ≡ ((h.at == 64 * k + i && gives below r e c h) || gives_in below k left r e c h)) one L)
        ∙ ap (λ b. b || list_any (gives_in below k left r e c) L)
        (any-same (λ h. h.at == 64 * k + i && gives below r e c h) (λ h. below (64 * k + i) c && is_at (Some r) (64 * k + i) h) (here within) L
        ∙ any-and (below (64 * k + i) c) (is_at (Some r) (64 * k + i)) L
        ∙ ap (λ b. below (64 * k + i) c && b) (sym (told (Some r) (64 * k + i))))

out : (b g : Bool) → ((b && false) && g) ≡ false
out true g = refl
out false g = refl

-- in a word with no bit there is none
pub hit-none : (below : ℕ → ℕ → Bool) (k word r e c : ℕ) (L : List Grant) → word ≡ 0 → false ≡ list_any (gives_in below k word r e c) L
hit-none below k word r e c L none =
    sym (any-same (gives_in below k word r e c) (λ h. false) (λ h. rw (none, bit_at-zero (h.at % 64)) (out (h.at / 64 == k) (gives below r e c h))) L ∙ any-none L)

-- ---- word by word

-- the grant gives the right on e in the class, and is on an element of a word at one of these places
abbrev pub gives_among : (ℕ → ℕ → Bool) → List ℕ → ℕ → ℕ → ℕ → Grant → Bool
gives_among below ks r e c h = is_placed ks h.at && gives below r e c h

hit : (a b d p : Bool) → ((true || p) && (a && b && d)) ≡ (((true && (true && b)) && (a && b && d)) || (p && (a && b && d)))
hit true true true p = refl
hit true true false true = refl
hit true true false false = refl
hit true false d true = refl
hit true false d false = refl
hit false true d true = refl
hit false true d false = refl
hit false false d true = refl
hit false false d false = refl

module _ (below : ℕ → ℕ → Bool) (r e c : ℕ) (L : List Grant) (own marks : List ℕ) (told : AreTold L own marks) where
  marked : Each (λ (h : Grant). is_marked marks h.at ≡ true) L
  marked = each-map (λ (h : Grant). list_any (is_at None h.at) L ≡ true) (λ (h : Grant). is_marked marks h.at ≡ true)
      (λ h there. told None h.at ∙ there) L (places L)

  pub among-begun : (ks : List ℕ) → ((p : ℕ) → is_marked marks p ≡ true → is_placed ks p ≡ true) →
      list_any (gives_among below ks r e c) L ≡ list_any (gives below r e c) L
  among-begun ks full = any-each (gives_among below ks r e c) (gives below r e c) L
      (each-map (λ (h : Grant). is_marked marks h.at ≡ true) (λ h. gives_among below ks r e c h ≡ gives below r e c h)
      (λ h here. rw (full h.at here) refl) L marked)

  module _ (rest : List ℕ) (k word : ℕ) (bits : (i : ℕ) → i < 64 → (bit_at word i == 1) ≡ (is_marked marks (64 * k + i) && below e (64 * k + i))) where
    at_word : (h : Grant) → is_marked marks h.at ≡ true →
        gives_among below (k ∷ rest) r e c h ≡ (gives_in below k word r e c h || gives_among below rest r e c h)
    at_word h here = elim (cases_eq (h.at / 64) k) [
      | inl is ↦
          let same : 64 * k + h.at % 64 ≡ h.at = omega (arith, is) in
          rw (eq-eqb (h.at / 64) k is, bits (h.at % 64) (omega arith), same, here)
          (hit (has_right h.rights r) (below e h.at) (below h.at c) (is_placed rest h.at))
      | inr apart ↦ rw (ne_eqb (h.at / 64) k apart) refl
    ]

    among-next : list_any (gives_among below (k ∷ rest) r e c) L ≡ (list_any (gives_in below k word r e c) L || list_any (gives_among below rest r e c) L)
    among-next = any-split (gives_among below (k ∷ rest) r e c) (gives_in below k word r e c) (gives_among below rest r e c) L
        (each-map (λ (h : Grant). is_marked marks h.at ≡ true)
        (λ h. gives_among below (k ∷ rest) r e c h ≡ (gives_in below k word r e c h || gives_among below rest r e c h)) at_word L marked)

  pub among-step : (ks : List ℕ) (i k word : ℕ) → slice_get ks i ≡ Some k →
      ((i : ℕ) → i < 64 → (bit_at word i == 1) ≡ (is_marked marks (64 * k + i) && below e (64 * k + i))) →
      list_any (gives_among below (drop i ks) r e c) L ≡ (list_any (gives_in below k word r e c) L || list_any (gives_among below (drop (i + 1) ks) r e c) L)
  among-step ks i k word at bits = rw (drop-item ks i k at) (among-next (drop (i + 1) ks) k word bits)

-- behind the last place nothing is given
pub among-done : (below : ℕ → ℕ → Bool) (r e c : ℕ) (L : List Grant) (ks : List ℕ) (i : ℕ) → length ks ≤ i →
    false ≡ list_any (gives_among below (drop i ks) r e c) L
among-done below r e c L ks i past = rw (drop_all i ks past) (sym (any-none L))

-- ---- class by class

-- the class at i leaves what it does of the rights so far
module _ (below : ℕ → ℕ → Bool) (test : ℕ → ℕ → Bool) (classes : List ℕ) (e i pc so_far more next : ℕ) (whole : ℕ → Bool) where
  pub held-more : IsMeeting so_far (λ r. list_all (test r) (classes_of below (drop i classes) e)) whole →
      slice_get classes i ≡ Some pc → IsSetOf (λ r. not (below e pc) || test r pc) more → next ≡ bit_and so_far more →
      IsMeeting next (λ r. list_all (test r) (classes_of below (drop (i + 1) classes) e)) whole
  held-more meeting at is both =
      rw both (meeting-more so_far more (λ r. not (below e pc) || test r pc) (λ r. list_all (test r) (classes_of below (drop (i + 1) classes) e))
      (λ r. list_all (test r) (classes_of below (drop i classes) e)) whole meeting is (λ r. all-drop (below e) (test r) classes i pc at))

alone : (b : Bool) → b ≡ (b && true)
alone true = refl
alone false = refl

-- behind the last class
pub held-done : (below : ℕ → ℕ → Bool) (test : ℕ → ℕ → Bool) (classes : List ℕ) (e i so_far : ℕ) (whole : ℕ → Bool) →
    IsMeeting so_far (λ r. list_all (test r) (classes_of below (drop i classes) e)) whole → length classes ≤ i → IsSetOf whole so_far
held-done below test classes e i so_far whole meeting past = λ r h. alone (has_right so_far r) ∙ rw (drop_all i classes past) at (meeting r h)

pub all-at : (P : ℕ → Type 0) (xs : List ℕ) (i x : ℕ) → slice_get xs i ≡ Some x → All P xs → P x
all-at P xs i x is all = subst P (get_or_from_slice_get xs i x x is) (All-get_or P xs i x (slice_get_within xs i x is) all)
