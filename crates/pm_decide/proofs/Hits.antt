-- A walk over the user attributes that contain a user, word by word: what one of them settles, and what a word does.
use Rattle.std.proofs.Common.{◌≡◌, ℕ, ◌+◌, ◌*◌, ◌/◌, ◌%◌, ◌<◌, ◌≤◌, ◌==◌, ◌&&◌, ◌||◌, not, nat_lt, Bool, true, false, List, [], ◌∷◌, filter, All, refl, sym, ap, ◌∙◌, arith, inl, inr}
use Rattle.std.specs.Int.{bit_at}
use Rattle.std.specs.List.{list_any}
use Rattle.std.proofs.lemmas.Bool.{cases_lt, cases_eq, lt-ltb, le-ltb, eq-eqb, ne_eqb, and_parts}
use Rattle.std.proofs.lemmas.List.Elements.{All-cons, All-nil, All-head, All-tail, All-weaker, All-filter}
use Rattle.std.proofs.lemmas.Nat.Bits.{bit_at-zero}
use Rattle.pm_model.specs.Decision.{is_grantee}
use Rattle.pm_model.specs.declared.rights.Grantee.{Grantee}
use Rattle.pm_decide.specs.Hits.{in_word, some_of, AreHolders, AreHits}

-- ---- tests of a user attribute by its number

module _ (test : Grantee → Bool) where
  pub some_of-same : (p q : ℕ → Bool) (gs : List Grantee) → ((n : ℕ) → p n ≡ q n) → some_of p test gs ≡ some_of q test gs
  some_of-same p q [] same = refl
  some_of-same p q (g ∷ gs) same = rw (same g.ua, some_of-same p q gs same) refl

  pub some_of-none : (p : ℕ → Bool) (gs : List Grantee) → All (λ (g : Grantee). p g.ua ≡ false) gs → false ≡ some_of p test gs
  some_of-none p [] none = refl
  some_of-none p (g ∷ gs) none =
      let here : p g.ua ≡ false = All-head (λ (g : Grantee). p g.ua ≡ false) g gs none in
      rw here (some_of-none p gs (All-tail (λ (g : Grantee). p g.ua ≡ false) g gs none))

  parted : (a b t x y : Bool) → (((a || b) && t) || (x || y)) ≡ (((a && t) || x) || ((b && t) || y))
  parted true b true x y = refl
  parted true true false x y = refl
  parted true false false x y = refl
  parted false true true true y = refl
  parted false true true false y = refl
  parted false true false x y = refl
  parted false false t x y = refl

  -- what passes is split in two
  pub some_of-split : (p q s : ℕ → Bool) (gs : List Grantee) → All (λ (g : Grantee). p g.ua ≡ (q g.ua || s g.ua)) gs →
      some_of p test gs ≡ (some_of q test gs || some_of s test gs)
  some_of-split p q s [] split = refl
  some_of-split p q s (g ∷ gs) split =
      let here : p g.ua ≡ (q g.ua || s g.ua) = All-head (λ (g : Grantee). p g.ua ≡ (q g.ua || s g.ua)) g gs split in
      let rest = some_of-split p q s gs (All-tail (λ (g : Grantee). p g.ua ≡ (q g.ua || s g.ua)) g gs split) in
      rw (here, rest) (parted (q g.ua) (s g.ua) (test g) (some_of q test gs) (some_of s test gs))

  -- the user attribute of one number, and the others
  module _ (p others : ℕ → Bool) (a : ℕ) (there : p a ≡ true) (rest : (n : ℕ) → others n ≡ (p n && not (n == a))) where
    one-of : (t x y : Bool) → (t || (x || y)) ≡ ((t || x) || y)
    one-of true x y = refl
    one-of false x y = refl

    not-one : (h x y : Bool) → (h || (x || y)) ≡ (x || (h || y))
    not-one true true y = refl
    not-one true false y = refl
    not-one false x y = refl

    alone : (b : Bool) → (b && true) ≡ b
    alone true = refl
    alone false = refl

    apart : (gs : List Grantee) → some_of p test gs ≡ (list_any test (filter (is_grantee a) gs) || some_of others test gs)
    apart [] = refl
    apart (g ∷ gs) = elim (cases_eq g.ua a) [
      | inl e ↦
          let is : (g.ua == a) ≡ true = eq-eqb g.ua a e in
          let passes : p g.ua ≡ true = ap p e ∙ there in
          rw (rest g.ua, passes, is, apart gs) (one-of (test g) (list_any test (filter (is_grantee a) gs)) (some_of others test gs))
      | inr d ↦
          let is : (g.ua == a) ≡ false = ne_eqb g.ua a d in
          rw (rest g.ua, is, alone (p g.ua), apart gs)
          (not-one (p g.ua && test g) (list_any test (filter (is_grantee a) gs)) (some_of others test gs))
    ]

    only : (b : Bool) → (b || false) ≡ b
    only true = refl
    only false = refl

    pub one-hit : (gs : List Grantee) (g : Grantee) → filter (is_grantee a) gs ≡ g ∷ [] → some_of p test gs ≡ (test g || some_of others test gs)
    one-hit gs g found = apart gs ∙ rw (found, only (test g)) refl

-- ---- a hit among others

pub found-in : (P : Grantee → Type 0) (a : ℕ) (gs : List Grantee) (g : Grantee) → filter (is_grantee a) gs ≡ g ∷ [] → All P gs → P g
found-in P a gs g found all = All-head P g [] (rw found at (All-filter (is_grantee a) P gs all))

pub hits-holders : (below : ℕ → ℕ → Bool) (u : ℕ) (gs : List Grantee) (k word : ℕ) → AreHits below u gs k word → AreHolders gs k word
hits-holders below u gs k word hits i h set = (and_parts _ _ (sym (hits i h) ∙ set)).0

module _ (k word i : ℕ) (place : i < 64) (set : (bit_at word i == 1) ≡ true) where
  hit-there : in_word k word (64 * k + i) ≡ true
  hit-there =
      let page : (64 * k + i) / 64 ≡ k = omega arith in
      let within : (64 * k + i) % 64 ≡ i = omega arith in
      rw (page, within, eq-eqb k k refl, set) refl

  -- the word without it
  module _ (left : ℕ) (rest : (j : ℕ) → j < 64 → (bit_at left j == 1) ≡ (bit_at word j == 1 && not (j == i))) where
    placed : (n : ℕ) → n / 64 ≡ k → (m : ℕ) → n % 64 ≡ m → (m == i) ≡ (n == 64 * k + i)
    placed n page m is = elim (cases_eq m i) [
      | inl e ↦ rw (eq-eqb m i e, eq-eqb n (64 * k + i) (omega arith)) refl
      | inr d ↦ rw (ne_eqb m i d, ne_eqb n (64 * k + i) (λ e. d (omega arith))) refl
    ]

    hit-others : (n : ℕ) → in_word k left n ≡ (in_word k word n && not (n == 64 * k + i))
    hit-others n = elim (cases_eq (n / 64) k) [
      | inl e ↦ rw (eq-eqb (n / 64) k e, rest (n % 64) (omega arith), placed n e (n % 64) refl) refl
      | inr d ↦ rw (ne_eqb (n / 64) k d) refl
    ]

    pub holders-left : (gs : List Grantee) → AreHolders gs k word → AreHolders gs k left
    holders-left gs holders j h in_left = holders j h (and_parts _ _ (sym (rest j h) ∙ in_left)).0

    -- what all say is what this user attribute says, or the others
    module _ (gs : List Grantee) (g : Grantee) (found : filter (is_grantee (64 * k + i)) gs ≡ g ∷ []) where
      pub hit-first : (test : Grantee → Bool) → some_of (in_word k word) test gs ≡ (test g || some_of (in_word k left) test gs)
      hit-first test = one-hit test (in_word k word) (in_word k left) (64 * k + i) hit-there hit-others gs g found

-- in a word with no bit there is none
pub no-hits : (test : Grantee → Bool) (k word : ℕ) (gs : List Grantee) → word ≡ 0 → false ≡ some_of (in_word k word) test gs
no-hits test k word gs none =
    some_of-none test (in_word k word) gs (all gs) where
      out : (b : Bool) → (b && false) ≡ false
      out true = refl
      out false = refl

      all : (gs : List Grantee) → All (λ (g : Grantee). in_word k word g.ua ≡ false) gs
      all [] = All-nil (λ (g : Grantee). in_word k word g.ua ≡ false)
      all (g ∷ gs) = All-cons (λ (g : Grantee). in_word k word g.ua ≡ false) g gs (rw (none, bit_at-zero (g.ua % 64)) (out (g.ua / 64 == k))) (all gs)

-- ---- word by word

-- the numbers from 64 k on that contain u
abbrev pub from_word : (ℕ → ℕ → Bool) → ℕ → ℕ → ℕ → Bool
from_word below u k n = not (nat_lt n (64 * k)) && below u n

module _ (below : ℕ → ℕ → Bool) (u : ℕ) (test : Grantee → Bool) (gs : List Grantee) where
  pub words-begun : some_of (below u) test gs ≡ some_of (from_word below u 0) test gs
  words-begun = some_of-same test (below u) (from_word below u 0) gs (λ n. rw (le-ltb n 0 (omega arith)) refl)

  known : (gs : List Grantee) → All (λ (g : Grantee). list_any (is_grantee g.ua) gs ≡ true) gs
  known [] = All-nil (λ (g : Grantee). list_any (is_grantee g.ua) [] ≡ true)
  known (g ∷ gs) =
      All-cons (λ (x : Grantee). list_any (is_grantee x.ua) (g ∷ gs) ≡ true) g gs (rw (eq-eqb g.ua g.ua refl) refl)
      (All-weaker (λ (x : Grantee). list_any (is_grantee x.ua) gs ≡ true) (λ (x : Grantee). list_any (is_grantee x.ua) (g ∷ gs) ≡ true)
      (λ x h. rw h (either (g.ua == x.ua))) gs (known gs)) where
        either : (b : Bool) → (b || true) ≡ true
        either true = refl
        either false = refl

  module _ (k word : ℕ) (hits : AreHits below u gs k word) where
    at_number : (n : ℕ) → list_any (is_grantee n) gs ≡ true → from_word below u k n ≡ (in_word k word n || from_word below u (k + 1) n)
    at_number n holder = elim (cases_lt n (64 * k)) [
      | inl l ↦ rw (lt-ltb n (64 * k) l, lt-ltb n (64 * (k + 1)) (omega arith), ne_eqb (n / 64) k (omega arith)) refl
      | inr l ↦ elim (cases_lt n (64 * (k + 1))) [
        | inl m ↦
            let same : 64 * k + n % 64 ≡ n = omega arith in
            rw (le-ltb n (64 * k) l, lt-ltb n (64 * (k + 1)) m, eq-eqb (n / 64) k (omega arith), hits (n % 64) (omega arith), same, holder) (only (below u n))
        | inr m ↦ rw (le-ltb n (64 * k) l, le-ltb n (64 * (k + 1)) m, ne_eqb (n / 64) k (omega arith)) refl
      ]
    ] where
      only : (b : Bool) → b ≡ (b || false)
      only true = refl
      only false = refl

    pub word-step : some_of (from_word below u k) test gs ≡ (some_of (in_word k word) test gs || some_of (from_word below u (k + 1)) test gs)
    word-step = some_of-split test (from_word below u k) (in_word k word) (from_word below u (k + 1)) gs
        (All-weaker (λ (g : Grantee). list_any (is_grantee g.ua) gs ≡ true)
        (λ (g : Grantee). from_word below u k g.ua ≡ (in_word k word g.ua || from_word below u (k + 1) g.ua))
        (λ g h. at_number g.ua h) gs (known gs))

  pub words-done : (words k : ℕ) → All (λ (g : Grantee). g.ua < 64 * words) gs → words ≤ k → false ≡ some_of (from_word below u k) test gs
  words-done words k within done = some_of-none test (from_word below u k) gs
      (All-weaker (λ (g : Grantee). g.ua < 64 * words) (λ (g : Grantee). from_word below u k g.ua ≡ false)
      (λ g h. rw (lt-ltb g.ua (64 * k) (omega arith)) refl) gs within)
