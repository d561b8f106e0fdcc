-- What bytes say as a document, from what they read as.
use Rattle.std.proofs.Common.{◌≡◌, List, ℕ, Bool, true, false, Option, None, Some, refl, if◌then◌else◌, option_and_then}
use Rattle.std.specs.Str.{IsUtf8, is_utf8}
use Rattle.std.proofs.lemmas.Str.{is_utf8-from_IsUtf8, IsUtf8-from_is_utf8}
use Rattle.serde_json.specs.Data.{Data}
use Rattle.serde_json.specs.Read.{read}
use Rattle.pm_document.specs.Forms.{policy_form, policy_of}

pub said-text : (bytes : List ℕ) (d : Data) → IsUtf8 bytes → read bytes ≡ Some d → policy_of bytes ≡ policy_form d
said-text bytes d u r = let t = is_utf8-from_IsUtf8 bytes u in rw (t, r) refl

guarded : (b : Bool) (o : Option Data) → (b ≡ true → o ≡ None) → option_and_then policy_form (if b then o else None) ≡ None
guarded true o h = let e : o ≡ None = h refl in rw e refl
guarded false o h = refl

pub said-no_text : (bytes : List ℕ) → (IsUtf8 bytes → read bytes ≡ None) → policy_of bytes ≡ None
said-no_text bytes h = guarded (is_utf8 bytes) (read bytes) (λ t. h (IsUtf8-from_is_utf8 bytes t))
