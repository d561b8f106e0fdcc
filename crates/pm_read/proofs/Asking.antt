-- What a line asks, from what its text reads as.
use Rattle.std.proofs.Common.{◌≡◌, List, ℕ, Bool, true, false, Option, None, Some, Result, Ok, Err, refl, sym, subst, if◌then◌else◌}
use Rattle.std.specs.Str.{IsUtf8, is_utf8}
use Rattle.std.proofs.lemmas.Str.{is_utf8-from_IsUtf8, IsUtf8-from_is_utf8}
use Rattle.serde_json.specs.Data.{Data}
use Rattle.serde_json.specs.Read.{read}
use Rattle.pm_model.specs.Asked.{asked, asked_of, with_head, rowed}
use Rattle.pm_model.specs.declared.lines.BadLine.{BadLine}
use Rattle.pm_model.specs.declared.requests.Body.{Body}
use Rattle.pm_model.specs.declared.requests.Request.{Request}
use Rattle.pm_read.specs.Reads.{Reads, ReadsRow}
use Rattle.pm_read.specs.declared.errors.ReadError.{ReadError}
use Rattle.pm_read.specs.declared.errors.ReadError.TheVariants.{Bad, Memory}

pub asked-text : (line : List ℕ) (d : Data) → IsUtf8 line → read line ≡ Some d → asked line ≡ asked_of (Some d)
asked-text line d u r = let t = is_utf8-from_IsUtf8 line u in rw (t, r) refl

guarded : (b : Bool) (o : Option Data) → (b ≡ true → o ≡ None) → asked_of (if b then o else None) ≡ asked_of None
guarded true o h = let e : o ≡ None = h refl in rw e refl
guarded false o h = refl

pub asked-no_text : (line : List ℕ) → (IsUtf8 line → read line ≡ None) → asked line ≡ asked_of None
asked-no_text line h = guarded (is_utf8 line) (read line) (λ t. h (IsUtf8-from_is_utf8 line t))

-- where the row was read, or is bad, or lacked memory, so does the line with its head
pub head_reads : (look : List ℕ → Option Data) (x : Result Body ReadError) (o : Option (Result Body BadLine)) (res : Result Request ReadError)
    → ReadsRow (Some x) o → ((r : Result Body BadLine) → Reads x r → Reads res (with_head look r)) → Reads res (rowed look o)
head_reads look (Ok b) o res h k = subst (λ (o : Option (Result Body BadLine)). Reads res (rowed look o)) (sym h) (k (Ok b) refl)
head_reads look (Err (Bad e)) o res h k = subst (λ (o : Option (Result Body BadLine)). Reads res (rowed look o)) (sym h) (k (Err e) refl)
head_reads look (Err Memory) None res h k = absurd cc
head_reads look (Err Memory) (Some r) res h k = k r tt
