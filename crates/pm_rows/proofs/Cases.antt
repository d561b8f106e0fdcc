-- The cases, computed, and the lines by an induction over their bytes.
use Rattle.std.proofs.Common.{◌≡◌, ◌<◌, ◌==◌, ℕ, false, List, [], ◌∷◌, ◌++◌, length, filter, replicate, codes, Contains, refl, ◌∙◌, ap, arith}
use Rattle.std.proofs.lemmas.Bool.{ne_eqb, lt-ltb, le-ltb}
use Rattle.std.proofs.lemmas.List.{append_assoc, append-nil}
use Rattle.std.proofs.lemmas.List.Elements.{Contains-append_right}
use Rattle.pm_model.specs.Effect.{may_assign, may_associate}
use Rattle.pm_model.specs.LastChanges.{changes_below}
use Rattle.pm_model.specs.Name.{is_name, is_name_byte}
use Rattle.pm_model.specs.Lines.{too_long, event_of, events_from, events, longest_line}
use Rattle.pm_model.specs.Formed.{Each}
use Rattle.pm_model.specs.Words.{key_text, word_text}
use Rattle.pm_model.specs.State.{opening}
use Rattle.pm_model.specs.Solo.{replies}
use Rattle.std.specs.Str.{is_utf8, chars}
use Rattle.std.specs.Fmt.{digits}
use Rattle.serde_json.proofs.OnLiterals.{serde_json_on_literals}
use Rattle.pm_rows.specs.Cases.{kinds, pairs_of, assigned_kinds, associated_kinds, ranges, Covers, bytes_from, name_bytes, IsCutAt}
use Rattle.pm_rows.specs.KeptReviews.{betweens, Tells}

pub kinds_assigned : filter (λ p. may_assign p.0 p.1) (pairs_of kinds) ≡ assigned_kinds
kinds_assigned = refl

pub kinds_associated : filter (λ p. may_associate p.0 p.1) (pairs_of kinds) ≡ associated_kinds
kinds_associated = refl

pub ranges_covered : Each Covers ranges
ranges_covered = (refl, (refl, (refl, (refl, (refl, (refl, (refl, (refl, (refl, (refl, tt))))))))))

pub betweens_told : Each Tells betweens
unfolding changes_below
betweens_told = (refl, (refl, (refl, (refl, (refl, (refl, tt))))))

pub bytes_of_names : filter is_name_byte (bytes_from 0 256) ≡ name_bytes
bytes_of_names = refl

pub lengths_of_names : filter (λ n. is_name (replicate n 97)) (bytes_from 0 70) ≡ bytes_from 1 64
lengths_of_names = refl

-- ---- lines

-- a line without a line feed is one event
events-line : (begun line : List ℕ) → (Contains line 10 → ⊥) → events_from begun (line ++ 10 ∷ []) ≡ event_of (begun ++ line) ∷ []
events-line begun [] none = rw (append-nil begun) refl
events-line begun (c ∷ cs) none =
    let other : (c == 10) ≡ false = ne_eqb c 10 (λ same. none (0, omega arith, same)) in
    let rest = events-line (begun ++ c ∷ []) cs (λ there. none (Contains-append_right (c ∷ []) cs 10 there)) in
    rw (other, ← append_assoc begun (c ∷ []) cs) rest

told-too_long : replies opening (too_long ∷ []) ≡ codes "{\"no\":\"too_long\",\"v\":0}" ++ 10 ∷ []
unfolding serde_json_on_literals key_text word_text is_utf8 chars digits
told-too_long = refl

pub line_is_cut : (line : List ℕ) → (Contains line 10 → ⊥) → IsCutAt line
line_is_cut line none = record {
  fits = λ short. one ∙ rw (le-ltb longest_line (length line) short) refl;
  longer = long;
  told = λ more. ap (replies opening) (long more) ∙ told-too_long;
} where
  one : events (line ++ 10 ∷ []) ≡ event_of line ∷ []
  one = events-line [] line none

  long : 8192 < length line → events (line ++ 10 ∷ []) ≡ too_long ∷ []
  long more = one ∙ rw (lt-ltb longest_line (length line) more) refl
