-- What is read of a word that is none of those that have a row.
use Rattle.std.proofs.Common.{◌≡◌, ◌≢◌, List, ℕ, Option, None, Some, Result, bytes_eq, if◌then◌else◌, refl, sym, inl, inr}
use Rattle.std.proofs.lemmas.Bool.{cases_Bool}
use Rattle.std.proofs.lemmas.Slice.Eq.{bytes_eq-Decides}
use Rattle.serde_json.specs.Data.{Data}
use Rattle.pm_model.specs.Asked.{row_of}
use Rattle.pm_model.specs.declared.lines.BadLine.{BadLine}
use Rattle.pm_model.specs.declared.requests.Body.{Body}
use Rattle.pm_read.specs.Reads.{ReadsRow}
use Rattle.pm_read.specs.Rows.{FindsRow, IsNoneOf, element_words, review_words, rule_words, session_words}
use Rattle.pm_read.specs.declared.errors.ReadError.{ReadError}

other : {A : Type 0} (w x : List ℕ) (row rest : Option A) → w ≢ x → rest ≡ None → (if bytes_eq w x then row else rest) ≡ None
other w x row rest differ later = elim (cases_Bool (bytes_eq w x)) [
  | inl same ↦ absurd (differ ((bytes_eq-Decides w x).0 same))
  | inr apart ↦ rw apart later
]

-- the same of an act
pub other_act : {A : Type 0} (w x : List ℕ) (read rest : Option A) → w ≢ x → None ≡ rest → None ≡ (if bytes_eq w x then read else rest)
other_act w x read rest differ later = sym (other w x read rest differ (sym later))

no_row : (look : List ℕ → Option Data) (w : List ℕ) → IsNoneOf session_words w → IsNoneOf element_words w → IsNoneOf rule_words w
    → IsNoneOf review_words w → row_of look w ≡ None
no_row look w s e r v =
    other w _ _ _ s.0 (other w _ _ _ s.1.1.0 (other w _ _ _ s.1.1.1.0 (other w _ _ _ s.1.1.1.1.0 (other w _ _ _ s.1.1.1.1.1.0 (other w _ _ _ e.0 (
    other w _ _ _ e.1.0 (other w _ _ _ e.1.1.0 (other w _ _ _ e.1.1.1.0 (other w _ _ _ e.1.1.1.1.0 (other w _ _ _ e.1.1.1.1.1.0 (
    other w _ _ _ e.1.1.1.1.1.1.0 (other w _ _ _ e.1.1.1.1.1.1.1.0 (other w _ _ _ r.0 (other w _ _ _ r.1.0 (other w _ _ _ r.1.1.0 (
    other w _ _ _ r.1.1.1.0 (other w _ _ _ r.1.1.1.1.0 (other w _ _ _ r.1.1.1.1.1.0 (other w _ _ _ r.1.1.1.1.1.1.0 (other w _ _ _ v.0 (
    other w _ _ _ v.1.0 (other w _ _ _ s.1.0 (other w _ _ _ v.1.1.0 (other w _ _ _ v.1.1.1.0 (other w _ _ _ v.1.1.1.1.0 (other w _ _ _ v.1.1.1.1.1.0 (
    other w _ _ _ v.1.1.1.1.1.1.0 (refl))))))))))))))))))))))))))))

-- the row was looked for among all words
pub last_group : (look : List ℕ → Option Data) (w : List ℕ) (found : Option (Result Body ReadError)) → IsNoneOf session_words w
    → IsNoneOf element_words w → IsNoneOf rule_words w → FindsRow review_words w (row_of look w) found → ReadsRow found (row_of look w)
last_group look w None s e r v = no_row look w s e r v
last_group look w (Some row) s e r v = v
