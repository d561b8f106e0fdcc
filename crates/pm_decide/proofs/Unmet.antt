-- The classes of a list by the bits of a word: how a walk finds them, what a walk leaves of them, and the first.
use Rattle.std.proofs.Common.{◌≡◌, ℕ, ◌+◌, ◌<◌, ◌≤◌, ◌==◌, ◌&&◌, ◌||◌, not, nat_lt, Bool, true, false, List, ◌++◌, length, Option, Some, None, slice_get, filter, IsTrue, All, refl, sym, ap, ◌∙◌, arith, inl, inr, ◌⊎◌, get_or}
use Rattle.std.specs.Int.{bit_at}
use Rattle.std.specs.List.{find}
use Rattle.std.specs.Option.{option_or, is_some}
use Rattle.std.proofs.Math.Seq.{take-append_seam, drop-append_seam}
use Rattle.std.proofs.lemmas.Bool.{cases_lt, cases_eq, lt-ltb, le-ltb, eq-eqb, ne_eqb, and_parts}
use Rattle.std.proofs.lemmas.List.Elements.{All-get_or, All-take, All-drop, filter-append}
use Rattle.std.proofs.lemmas.List.Folds.{find-append}
use Rattle.std.proofs.lemmas.Nat.Bits.{bit_at-zero}
use Rattle.std.proofs.lemmas.Option.{slice_get_past, slice_get_within, slice_get_cases}
use Rattle.pm_model.specs.Containment.{Relation}
use Rattle.pm_decide.specs.Unmet.{passes, AreClasses, AreThose, AreLeft}
use Rattle.pm_decide.specs.Meaning.{IsFirst}
use Rattle.pm_decide.proofs.Firsts.{sought, first-one, first-none}

-- ---- found one after another

module _ (test : ℕ → Bool) (pcs : List ℕ) where
  -- those at the places before i
  abbrev pub AreThoseBefore : ℕ → ℕ → Type 0
  AreThoseBefore i word = (j : ℕ) → j < 64 → (bit_at word j == 1) ≡ (nat_lt j i && passes test (slice_get pcs j))

  pub none-before : AreThoseBefore 0 0
  none-before j h = rw (bit_at-zero j, le-ltb j 0 (omega arith)) refl

  module _ (i pc word : ℕ) (at : slice_get pcs i ≡ Some pc) (before : AreThoseBefore i word) where
    pub one-more : (next : ℕ) → ((j : ℕ) → j < 64 → (bit_at next j == 1) ≡ (bit_at word j == 1 || j == i)) → true ≡ test pc →
        AreThoseBefore (i + 1) next
    one-more next more is j h = elim (cases_eq j i) [
      | inl e ↦ rw (more j h, eq-eqb j i e, lt-ltb j (i + 1) (omega arith), e, at, ← is) (either (bit_at word i == 1))
      | inr d ↦ elim (cases_lt j i) [
        | inl l ↦ rw (more j h, ne_eqb j i d, before j h, lt-ltb j i l, lt-ltb j (i + 1) (omega arith)) (alone (passes test (slice_get pcs j)))
        | inr l ↦ rw (more j h, ne_eqb j i d, before j h, le-ltb j i l, le-ltb j (i + 1) (omega arith)) refl
      ]
    ] where
      either : (b : Bool) → (b || true) ≡ true
      either true = refl
      either false = refl

      alone : (b : Bool) → (b || false) ≡ b
      alone true = refl
      alone false = refl

    pub none-more : false ≡ test pc → AreThoseBefore (i + 1) word
    none-more is j h = elim (cases_eq j i) [
      | inl e ↦ rw (before j h, le-ltb j i (omega arith), lt-ltb j (i + 1) (omega arith), e, at, ← is) refl
      | inr d ↦ elim (cases_lt j i) [
        | inl l ↦ rw (before j h, lt-ltb j i l, lt-ltb j (i + 1) (omega arith)) refl
        | inr l ↦ rw (before j h, le-ltb j i l, le-ltb j (i + 1) (omega arith)) refl
      ]
    ]

  pub all-found : (i word : ℕ) → length pcs ≤ i → AreThoseBefore i word → AreThose test pcs word
  all-found i word end before j h = elim (cases_lt j i) [
    | inl l ↦ before j h ∙ rw (lt-ltb j i l) refl
    | inr l ↦ before j h ∙ rw (le-ltb j i l, slice_get_past pcs j (omega arith)) refl
  ]

-- ---- live

all-live : (relation : Relation) (pcs : List ℕ) → All (λ pc. IsTrue (relation.live pc)) pcs → (i : ℕ) → (b : Bool) → b ≡ true → (test : ℕ → Bool) →
    b ≡ passes test (slice_get pcs i) → IsTrue (passes relation.live (slice_get pcs i))
all-live relation pcs live i b set test is = by_place (slice_get_cases pcs i).1 where
  by_place : ((x : ℕ) × (i < length pcs) × (slice_get pcs i ≡ Some x) × (get_or pcs i x ≡ x)) ⊎ ((length pcs ≤ i) × (slice_get pcs i ≡ None)) →
      IsTrue (passes relation.live (slice_get pcs i))
  by_place (inl x) = rw x.2 (rw x.3 at (All-get_or (λ pc. IsTrue (relation.live pc)) pcs i x.0 x.1 live))
  by_place (inr x) = let no : b ≡ false = is ∙ rw x.1 refl in cc

pub those-live : (relation : Relation) (test : ℕ → Bool) (pcs : List ℕ) (word : ℕ) → All (λ pc. IsTrue (relation.live pc)) pcs →
    AreThose test pcs word → AreClasses relation pcs word
those-live relation test pcs word live those i h set = all-live relation pcs live i (bit_at word i == 1) set test (those i h)

pub left-live : (relation : Relation) (test : ℕ → Bool) (pcs : List ℕ) (word left : ℕ) → AreClasses relation pcs word → AreLeft test pcs word left →
    AreClasses relation pcs left
left-live relation test pcs word left classes is i h set = classes i h (and_parts _ _ (sym (is i h) ∙ set)).0

-- the class at a place of which the bit is set
pub live-within : (relation : Relation) (pcs : List ℕ) (i : ℕ) → IsTrue (passes relation.live (slice_get pcs i)) → i < length pcs
live-within relation pcs i live = elim (cases_lt i (length pcs)) [
  | inl l ↦ l
  | inr l ↦ let no : false ≡ true = rw (slice_get_past pcs i l) at live in cc
]

-- ---- a walk over the classes of a word

module _ (test : ℕ → Bool) (pcs : List ℕ) where
  -- the classes that are left, but for those still to be asked about that pass, are those that don't pass
  abbrev pub IsAsking : ℕ → ℕ → ℕ → Type 0
  IsAsking word left unasked = (j : ℕ) → j < 64 →
      (bit_at left j == 1 && not (bit_at unasked j == 1 && passes test (slice_get pcs j))) ≡ (bit_at word j == 1 && not (passes test (slice_get pcs j)))

  begun : (a b : Bool) → (a && not (a && b)) ≡ (a && not b)
  begun true b = refl
  begun false b = refl

  pub asking-begun : (word : ℕ) → IsAsking word word word
  asking-begun word j h = begun (bit_at word j == 1) (passes test (slice_get pcs j))

  alone : (b : Bool) → (b && true) ≡ b
  alone true = refl
  alone false = refl

  pub asking-done : (word left unasked : ℕ) → unasked ≡ 0 → IsAsking word left unasked → AreLeft test pcs word left
  asking-done word left unasked none asking j h =
      sym (rw (none, bit_at-zero j) (alone (bit_at left j == 1))) ∙ asking j h

  module _ (word left unasked i pc after : ℕ) (at : slice_get pcs i ≡ Some pc) (asking : IsAsking word left unasked)
      (set : (bit_at unasked i == 1) ≡ true) (rest : (j : ℕ) → j < 64 → (bit_at after j == 1) ≡ (bit_at unasked j == 1 && not (j == i))) where
    out : (a b c : Bool) → a ≡ true → (b && not (a && true)) ≡ c → ((b && false) && not ((a && false) && true)) ≡ c
    out true true c one is = is
    out true false c one is = is
    out false b c one is = cc

    stays : (a b c : Bool) → (b && not (a && false)) ≡ c → (b && not ((a && false) && false)) ≡ c
    stays true b c is = is
    stays false b c is = is

    other : (a b p c : Bool) → (b && not (a && p)) ≡ c → ((b && true) && not ((a && true) && p)) ≡ c
    other true true p c is = is
    other true false p c is = is
    other false true p c is = is
    other false false p c is = is

    others : (a b p c : Bool) → (b && not (a && p)) ≡ c → (b && not ((a && true) && p)) ≡ c
    others true b p c is = is
    others false b p c is = is

    pub asking-out : (next : ℕ) → ((j : ℕ) → j < 64 → (bit_at next j == 1) ≡ (bit_at left j == 1 && not (j == i))) → true ≡ test pc →
        IsAsking word next after
    asking-out next fewer is j h = elim (cases_eq j i) [
      | inl e ↦ rw (fewer j h, rest j h, eq-eqb j i e, e, at, ← is)
          (out (bit_at unasked i == 1) (bit_at left i == 1) _ set (rw (e, at, ← is) at (asking j h)))
      | inr d ↦ rw (fewer j h, rest j h, ne_eqb j i d)
          (other (bit_at unasked j == 1) (bit_at left j == 1) (passes test (slice_get pcs j)) _ (asking j h))
    ]

    pub asking-on : false ≡ test pc → IsAsking word left after
    asking-on is j h = elim (cases_eq j i) [
      | inl e ↦ rw (rest j h, eq-eqb j i e, e, at, ← is)
          (stays (bit_at unasked i == 1) (bit_at left i == 1) _ (rw (e, at, ← is) at (asking j h)))
      | inr d ↦ rw (rest j h, ne_eqb j i d)
          (others (bit_at unasked j == 1) (bit_at left j == 1) (passes test (slice_get pcs j)) _ (asking j h))
    ]

-- a bit less is asked about
module _ (unasked i after : ℕ) (rest : (j : ℕ) → j < 64 → (bit_at after j == 1) ≡ (bit_at unasked j == 1 && not (j == i))) where
  pub fewer-live : (relation : Relation) (pcs : List ℕ) → AreClasses relation pcs unasked → AreClasses relation pcs after
  fewer-live relation pcs classes j h set = classes j h (and_parts _ _ (sym (rest j h) ∙ set)).0

  module _ (left : ℕ) (within : (j : ℕ) → j < 64 → (bit_at unasked j == 1) ≡ true → (bit_at left j == 1) ≡ true) where
    pub fewer-within : (j : ℕ) → j < 64 → (bit_at after j == 1) ≡ true → (bit_at left j == 1) ≡ true
    fewer-within j h set = within j h (and_parts _ _ (sym (rest j h) ∙ set)).0

    pub both-fewer : (next : ℕ) → ((j : ℕ) → j < 64 → (bit_at next j == 1) ≡ (bit_at left j == 1 && not (j == i))) →
        (j : ℕ) → j < 64 → (bit_at after j == 1) ≡ true → (bit_at next j == 1) ≡ true
    both-fewer next fewer j h set =
        let parts = and_parts _ _ (sym (rest j h) ∙ set) in
        rw (fewer j h, within j h parts.0, parts.1) refl

-- ---- what one test after another leaves

module _ (pcs : List ℕ) where
  -- the classes that are left, but for those that pass what is still to come, are those that don't pass the whole
  abbrev pub IsLeaving : (ℕ → Bool) → (ℕ → Bool) → ℕ → ℕ → Type 0
  IsLeaving rest whole word left = (i : ℕ) → i < 64 →
      (bit_at left i == 1 && not (passes rest (slice_get pcs i))) ≡ (bit_at word i == 1 && not (passes whole (slice_get pcs i)))

  same-pass : (p q : ℕ → Bool) (o : Option ℕ) → ((pc : ℕ) → p pc ≡ q pc) → passes p o ≡ passes q o
  same-pass p q None same = refl
  same-pass p q (Some pc) same = same pc

  some-pass : (p q s : ℕ → Bool) (o : Option ℕ) → ((pc : ℕ) → p pc ≡ (q pc || s pc)) → passes p o ≡ (passes q o || passes s o)
  some-pass p q s None split = refl
  some-pass p q s (Some pc) split = split pc

  none-pass : (p : ℕ → Bool) (o : Option ℕ) → ((pc : ℕ) → false ≡ p pc) → passes p o ≡ false
  none-pass p None none = refl
  none-pass p (Some pc) none = sym (none pc)

  pub leaving-begun : (rest whole : ℕ → Bool) (word : ℕ) → ((pc : ℕ) → whole pc ≡ rest pc) → IsLeaving rest whole word word
  leaving-begun rest whole word same i h = rw (same-pass whole rest (slice_get pcs i) same) refl

  more : (a here later all : Bool) → (a && not (here || later)) ≡ all → ((a && not here) && not later) ≡ all
  more true true later all is = is
  more true false later all is = is
  more false here later all is = is

  pub leaving-more : (here later rest whole : ℕ → Bool) (word left next : ℕ) → IsLeaving rest whole word left → AreLeft here pcs left next →
      ((pc : ℕ) → rest pc ≡ (here pc || later pc)) → IsLeaving later whole word next
  leaving-more here later rest whole word left next leaving is split i h =
      rw (is i h) (more (bit_at left i == 1) (passes here (slice_get pcs i)) (passes later (slice_get pcs i)) _
      (rw (some-pass rest here later (slice_get pcs i) split) at (leaving i h)))

  all : (b : Bool) → (b && true) ≡ b
  all true = refl
  all false = refl

  -- where nothing is still to come
  pub leaving-done : (rest whole : ℕ → Bool) (word left : ℕ) → IsLeaving rest whole word left → ((pc : ℕ) → false ≡ rest pc) → AreLeft whole pcs word left
  leaving-done rest whole word left leaving none i h =
      sym (rw (none-pass rest (slice_get pcs i) none) (all (bit_at left i == 1))) ∙ leaving i h

  -- where no class is left
  pub leaving-none : (rest whole : ℕ → Bool) (word left : ℕ) → IsLeaving rest whole word left → left ≡ 0 → AreLeft whole pcs word 0
  leaving-none rest whole word left leaving none i h = rw (bit_at-zero i) (rw (none, bit_at-zero i) at (leaving i h))

-- ---- the first class that is left

pub left-those : (f p : ℕ → Bool) (pcs : List ℕ) (word left : ℕ) → AreThose f pcs word → AreLeft p pcs word left →
    AreThose (λ pc. f pc && not (p pc)) pcs left
left-those f p pcs word left those is i h = is i h ∙ rw (those i h) (both (slice_get pcs i)) where
  both : (o : Option ℕ) → (passes f o && not (passes p o)) ≡ passes (λ pc. f pc && not (p pc)) o
  both None = refl
  both (Some pc) = refl

module _ (test : ℕ → Bool) (pcs : List ℕ) (word : ℕ) (those : AreThose test pcs word) where
  pub those-within : (i : ℕ) → i < 64 → (bit_at word i == 1) ≡ true → i < length pcs
  those-within i within set = elim (cases_lt i (length pcs)) [
    | inl l ↦ l
    | inr l ↦ let no : true ≡ false = sym set ∙ those i within ∙ rw (slice_get_past pcs i l) refl in cc
  ]

  pub none-left : length pcs ≤ 64 → word ≡ 0 → find test pcs ≡ None
  none-left few none = elim (sought test 0 pcs) [
    | inl s ↦ s.0
    | inr s ↦
        let within : s.0 < length pcs = slice_get_within pcs s.0 s.1 s.4.there in
        let no : false ≡ true = (rw (none, bit_at-zero s.0, s.4.there) at (those s.0 (omega (arith, within)))) ∙ s.4.fits in cc
  ]

  pub lowest-first : (i pc : ℕ) → i < 64 → (bit_at word i == 1) ≡ true → ((j : ℕ) → j < i → (bit_at word j == 1) ≡ false) →
      slice_get pcs i ≡ Some pc → find test pcs ≡ Some pc
  lowest-first i pc within set lower at = elim (sought test 0 pcs) [
    | inl s ↦ absurd (first-none (λ x. test x ≡ true) pcs i pc s.2 first)
    | inr s ↦ s.2 ∙ ap Some (first-one (λ x. test x ≡ true) pcs s.0 i s.1 pc s.4 first).1
  ] where
    none-before : (j y : ℕ) → j < i → slice_get pcs j ≡ Some y → test y ≡ true → ⊥
    none-before j y before there is = let no : false ≡ true = sym (lower j before) ∙ rw there at (those j (omega arith)) ∙ is in cc

    first : IsFirst (λ x. test x ≡ true) pcs i pc
    first = record { there = at; fits = sym (rw at at (those i within)) ∙ set; none_before = none-before }

-- the first of a list is that of its front, or of what is behind it
module _ (f p : ℕ → Bool) (all front behind : List ℕ) (parts : all ≡ front ++ behind) where
  first-parts : find p (filter f all) ≡ option_or (find p (filter f front)) (find p (filter f behind))
  first-parts = rw (parts, filter-append f front behind) (find-append p (filter f front) (filter f behind))

  pub live-parts : (P : ℕ → Type 0) → All P all → All P front × All P behind
  live-parts P live =
      let whole : All P (front ++ behind) = rw parts at live in (
        rw (take-append_seam front behind) at (All-take P (length front) (front ++ behind) whole),
        rw (drop-append_seam front behind) at (All-drop P (length front) (front ++ behind) whole),
      )

  module _ (whole : Option ℕ) (is : whole ≡ find p (filter f all)) where
    pub first-in : (found : Option ℕ) → is_some found ≡ true → found ≡ find p (filter f front) → found ≡ whole
    first-in None there here = cc
    first-in (Some pc) there here = sym (is ∙ first-parts ∙ rw (← here) refl)

    pub first-behind : (found : Option ℕ) → is_some found ≡ false → found ≡ find p (filter f front) → whole ≡ find p (filter f behind)
    first-behind None none here = is ∙ first-parts ∙ rw (← here) refl
    first-behind (Some pc) none here = cc
