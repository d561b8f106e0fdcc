-- A grant put to the others: the rights at its element, and the mark there.
use Rattle.std.proofs.Common.{◌≡◌, ◌≢◌, ℕ, ◌*◌, ◌/◌, ◌%◌, ◌^◌, ◌<◌, ◌==◌, ◌||◌, ◌&&◌, Bool, true, false, List, length, get_or, set, bit_or, w64, Option, None, Some, refl, sym, ap, ◌∙◌, arith, inl, inr}
use Rattle.std.proofs.lemmas.Bool.{cases_eq, eq-eqb, ne_eqb}
use Rattle.std.proofs.lemmas.List.{get_or-set_same, get_or-set_other}
use Rattle.std.proofs.lemmas.Nat.Bits.{bit_at_set_same, bit_at_set_other}
use Rattle.std.proofs.Math.Nat.{mod-lt, div-add-mod}
use Rattle.pm_model.proofs.Bits.{bit_or_has}
use Rattle.pm_model.specs.RightSet.{has_right}
use Rattle.pm_model.specs.declared.rights.Grant.{Grant}
use Rattle.pm_given.specs.Given.{is_at}
use Rattle.pm_given.specs.Told.{is_marked, tells}

or_true : (b : Bool) → true ≡ (b || true)
or_true true = refl
or_true false = refl

or_false : (b : Bool) → b ≡ (b || false)
or_false true = refl
or_false false = refl

and_true : (a b : Bool) → (a || b) ≡ (a || (b && true))
and_true true b = refl
and_true false true = refl
and_true false false = refl

and_false : (a b : Bool) → a ≡ (a || (b && false))
and_false true b = refl
and_false false true = refl
and_false false false = refl

same_number : (q n : ℕ) → q / 64 ≡ n / 64 → q % 64 ≡ n % 64 → q ≡ n
same_number q n d m = sym (div-add-mod q 64) ∙ rw (d, m) (div-add-mod n 64)

own-put : (own : List ℕ) (n rights r p : ℕ) → n < length own →
    has_right (get_or (set own n (bit_or (get_or own n 0) rights)) p 0) r ≡ (has_right (get_or own p 0) r || (has_right rights r && n == p))
own-put own n rights r p fits = elim (cases_eq n p) [
  | inl e ↦
      rw (← e, get_or-set_same own n (bit_or (get_or own n 0) rights) 0 fits, eq-eqb n n refl)
      (bit_or_has (get_or own n 0) rights r ∙ and_true (has_right (get_or own n 0) r) (has_right rights r))
  | inr d ↦
      rw (get_or-set_other own n p (bit_or (get_or own n 0) rights) 0 (λ e. d (sym e)), ne_eqb n p d)
      (and_false (has_right (get_or own p 0) r) (has_right rights r))
]

pub mark-put : (marks : List ℕ) (n p : ℕ) → n / 64 < length marks →
    is_marked (set marks (n / 64) (bit_or (get_or marks (n / 64) 0) (1 * 2 ^ (n % 64) % 2 ^ 64))) p ≡ (is_marked marks p || n == p)
mark-put marks n p fits = elim (cases_eq (p / 64) (n / 64)) [
  | inl d ↦ elim (cases_eq (p % 64) (n % 64)) [
    | inl m ↦ rw (d, m, get_or-set_same marks (n / 64) (bit_or (get_or marks (n / 64) 0) (1 * 2 ^ (n % 64) % 2 ^ 64)) 0 fits, bit_at_set_same w64 (get_or marks (n / 64) 0) (n % 64) (mod-lt n (omega arith)), eq-eqb n p (sym (same_number p n d m))) (or_true _)
    | inr m ↦ rw (ne_eqb n p (λ e. m (ap (λ x. x % 64) (sym e))), d, get_or-set_same marks (n / 64) (bit_or (get_or marks (n / 64) 0) (1 * 2 ^ (n % 64) % 2 ^ 64)) 0 fits, bit_at_set_other w64 (get_or marks (n / 64) 0) (n % 64) (mod-lt n (omega arith)) (p % 64) m) (or_false _)
  ]
  | inr d ↦ rw (ne_eqb n p (λ e. d (ap (λ x. x / 64) (sym e))), get_or-set_other marks (n / 64) (p / 64) (bit_or (get_or marks (n / 64) 0) (1 * 2 ^ (n % 64) % 2 ^ 64)) 0 d) (or_false _)
]

pub put-told : (own marks : List ℕ) (h : Grant) → h.at < length own → length own ≡ 64 * length marks → (q : Option ℕ) (p : ℕ) →
    tells (set own h.at (bit_or (get_or own h.at 0) h.rights)) (set marks (h.at / 64) (bit_or (get_or marks (h.at / 64) 0) (1 * 2 ^ (h.at % 64) % 2 ^ 64))) q p
    ≡ (tells own marks q p || is_at q p h)
put-told own marks h fits long None p = mark-put marks h.at p (omega (arith, fits, long))
put-told own marks h fits long (Some r) p = own-put own h.at h.rights r p fits

-- ---- one after another

-- the answer so far, or that of what is left, is the whole
pub joins-more : (so_far here later left whole next : Bool) → (so_far || left) ≡ whole → left ≡ (here || later) → next ≡ (so_far || here) →
    (next || later) ≡ whole
joins-more true here later left whole next before split is = rw is before
joins-more false here later left whole next before split is = rw is (sym split ∙ before)

pub joins-done : (so_far left whole : Bool) → (so_far || left) ≡ whole → false ≡ left → so_far ≡ whole
joins-done true left whole before none = before
joins-done false left whole before none = none ∙ before
