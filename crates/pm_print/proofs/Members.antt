-- The line of an object is its members one after another, by one that is there.
use Rattle.std.proofs.Common.{IsTrue, length, nat_lt, nat_le, ◌≡◌, ℕ, List, [], ◌∷◌, ◌++◌, ◌&&◌, true, false, Option, None, Some, codes, refl, ap, ◌∙◌, arith, append_assoc}
use Rattle.std.proofs.lemmas.Bool.{and_parts}
use Rattle.std.proofs.lemmas.Grind.{common_steps}
use Rattle.std.specs.List.{list_all}
use Rattle.json.specs.Print.{quoted, escape, escape_byte}
use Rattle.json.proofs.Printed.Strings.{escape_byte_plain}
use Rattle.serde_json.specs.Data.{Data, object}
use Rattle.serde_json.specs.Written.{compact_text, members_text}
use Rattle.pm_model.specs.Name.{is_name, is_name_byte, longest_name}
use Rattle.pm_model.specs.Object.{present, line_of}
use Rattle.pm_print.specs.Members.{keyed, trailing, leading, trailing_all, leading_all}

join_behind : (q c l r : List ℕ) → 44 ∷ (q ++ 58 ∷ (c ++ (l ++ r))) ≡ ((44 ∷ ((q ++ 58 ∷ []) ++ c)) ++ l) ++ r
join_behind q c l r = simp append_assoc

join_here : (q c t : List ℕ) → q ++ 58 ∷ (c ++ t) ≡ (q ++ 58 ∷ []) ++ (c ++ t)
join_here q c t = simp append_assoc

join_before : (q c t r : List ℕ) → q ++ 58 ∷ (c ++ 44 ∷ (t ++ r)) ≡ (((q ++ 58 ∷ []) ++ (c ++ 44 ∷ [])) ++ t) ++ r
join_before q c t r = simp append_assoc

join_line : (t k c l : List ℕ) → (123 ∷ (t ++ (k ++ (c ++ (l ++ 125 ∷ []))))) ++ 10 ∷ [] ≡ 123 ∷ (t ++ (k ++ (c ++ (l ++ 125 ∷ 10 ∷ []))))
join_line t k c l = simp append_assoc

-- the members behind one that is there
behind : (fs : List (List ℕ × Option Data)) → members_text true (present fs) ≡ leading_all fs ++ 125 ∷ []
unfolding leading keyed
behind [] = refl
behind ((k, None) ∷ fs) = behind fs
behind ((k, Some d) ∷ fs) = ap (λ t. 44 ∷ (quoted k ++ 58 ∷ (compact_text d ++ t))) (behind fs) ∙ join_behind (quoted k) (compact_text d) (leading_all fs) (125 ∷ [])

module _ (k : List ℕ) (d : Data) (rest : List (List ℕ × Option Data)) where
  abbrev tail : List ℕ
  tail = keyed k ++ (compact_text d ++ (leading_all rest ++ 125 ∷ []))

  later : (fs : List (List ℕ × Option Data)) → members_text true (present (fs ++ (k, Some d) ∷ rest)) ≡ 44 ∷ members_text false (present (fs ++ (k, Some d) ∷ rest))
  later [] = refl
  later ((l, None) ∷ fs) = later fs
  later ((l, Some e) ∷ fs) = refl

  before : (fs : List (List ℕ × Option Data)) → members_text false (present (fs ++ (k, Some d) ∷ rest)) ≡ trailing_all fs ++ tail
  unfolding trailing keyed
  before [] = ap (λ t. quoted k ++ 58 ∷ (compact_text d ++ t)) (behind rest) ∙ join_here (quoted k) (compact_text d) _
  before ((l, None) ∷ fs) = before fs
  before ((l, Some e) ∷ fs) =
      ap (λ t. quoted l ++ 58 ∷ (compact_text e ++ t)) (later fs ∙ ap (λ t. 44 ∷ t) (before fs))
      ∙ join_before (quoted l) (compact_text e) (trailing_all fs) tail

  -- the object, by a member that is there
  pub object_by : (fs : List (List ℕ × Option Data)) → compact_text (object (present (fs ++ (k, Some d) ∷ rest))) ≡ 123 ∷ (trailing_all fs ++ (keyed k ++ (compact_text d ++ (leading_all rest ++ codes "}"))))
  object_by fs = ap (λ t. 123 ∷ t) (before fs)

  -- the line, by a member that is there
  pub line_by : (fs : List (List ℕ × Option Data)) → line_of (fs ++ (k, Some d) ∷ rest) ≡ 123 ∷ (trailing_all fs ++ (keyed k ++ (compact_text d ++ (leading_all rest ++ codes "}\n"))))
  line_by fs = ap (λ t. (123 ∷ t) ++ 10 ∷ []) (before fs) ∙ join_line (trailing_all fs) (keyed k) (compact_text d) (leading_all rest)

-- ---- texts with no escape

name_byte_plain : (x : ℕ) → is_name_byte x ≡ true → escape_byte x ≡ x ∷ []
name_byte_plain x h = escape_byte_plain x (λ e. absurd (grind (arith, common_steps))) (λ e. absurd (grind (arith, common_steps))) (grind (arith, common_steps))

escape-plain : (s : List ℕ) → list_all is_name_byte s ≡ true → escape s ≡ s
escape-plain [] h = refl
escape-plain (x ∷ s) h = let p = and_parts _ _ h in rw (name_byte_plain x p.0) (ap (λ t. x ∷ t) (escape-plain s p.1))

pub quoted-plain : (s : List ℕ) → list_all is_name_byte s ≡ true → quoted s ≡ 34 ∷ (s ++ 34 ∷ [])
quoted-plain s h = rw (escape-plain s h) refl

-- `$` needs none either
dollar : escape_byte 36 ≡ 36 ∷ []
unfolding escape_byte
dollar = refl

pub quoted-marked : (s : List ℕ) → list_all is_name_byte s ≡ true → quoted (36 ∷ s) ≡ 34 ∷ 36 ∷ (s ++ 34 ∷ [])
quoted-marked s h = rw (dollar, escape-plain s h) refl

pub plain-name : (s : List ℕ) → IsTrue (is_name s) → list_all is_name_byte s ≡ true
plain-name s h = (and_parts (nat_lt 0 (length s) && nat_le (length s) longest_name) (list_all is_name_byte s) h).1
