-- Rights. Source: the standard's access rights and administrative access rights; their names, their bits and a set as
-- a number are the project's own.
use Rattle.std.specs.Prelude.{ℕ, zero, suc, ◌+◌, if◌then◌else◌, Bool, ◌==◌, ◌||◌, ◌^◌, nat_lt, nat_le, List, [], ◌∷◌, length, Option, codes, bytes_eq, bit_or, map}
use Rattle.std.specs.List.{list_any, position_from}
use Rattle.std.specs.Int.{Width, bit_at, w64}
use Rattle.pm_model.specs.Words.{word_text}
use Rattle.pm_model.specs.declared.words.Word.{Word}
use Rattle.pm_model.specs.declared.words.Word.TheVariants as word
use Rattle.pm_model.specs.declared.replies.Refusal.{Refusal}
use Rattle.pm_model.specs.declared.replies.Refusal.TheVariants.{NameTaken, Full}
use Rattle.pm_model.specs.declared.replies.Table.TheVariants as table

-- a set of rights is a number: the bit of a right is set where the right is in the set
abbrev pub has_right : ℕ → ℕ → Bool
has_right rights bit = bit_at rights bit == 1

-- the set with one right more
abbrev pub with_right : ℕ → ℕ → ℕ
with_right bit rights = bit_or (2 ^ bit) rights

-- the set of the rights below n that pass the test
unfoldable pub from_bits : (ℕ → Bool) → ℕ → ℕ
from_bits passes zero = 0
from_bits passes (suc n) = from_bits passes n + (if passes n then 2 ^ n else 0)

-- the names by bit at the start: two access rights, then the administrative ones
unfoldable pub opening_rights : List (List ℕ)
opening_rights =
    codes "read" ∷ codes "write"
    ∷ codes "create_user" ∷ codes "create_ua" ∷ codes "create_oa" ∷ codes "create_object" ∷ codes "delete"
    ∷ codes "assign" ∷ codes "assign_to" ∷ codes "deassign" ∷ codes "deassign_from"
    ∷ codes "associate" ∷ codes "associate_to" ∷ codes "prohibit" ∷ codes "prohibit_to"
    ∷ codes "oblige" ∷ codes "review" ∷ []

-- how many rights a set can hold: the width of the number that it is
abbrev pub right_bits : ℕ
right_bits = 64

abbrev pub right_width : Width
right_width = w64

abbrev pub max_rights : ℕ
max_rights = 64

-- the commands
unfoldable pub commands : List Word
commands =
    word.Version ∷ word.OpenSession ∷ word.CloseSession ∷ word.StartProcess ∷ word.EndProcess ∷ word.CreatePc
    ∷ word.CreateUser ∷ word.CreateUa ∷ word.CreateOa ∷ word.CreateObject ∷ word.Delete ∷ word.Assign
    ∷ word.Deassign ∷ word.Associate ∷ word.Dissociate ∷ word.Prohibit ∷ word.Lift ∷ word.DefineRight
    ∷ word.Oblige ∷ word.Withdraw ∷ word.Keep ∷ word.DropReview ∷ word.Access ∷ word.Caps ∷ word.Entries
    ∷ word.Kept ∷ word.Changes ∷ word.Survey ∷ []

-- the texts that stand under `cmd`: a right that is defined may have none of them for its name
abbrev pub command_words : List (List ℕ)
command_words = map word_text commands

-- preconditions of a new right in order; the names of rights stand by bit
abbrev pub define_checks : List (List ℕ) → List ℕ → List (Bool × Refusal)
define_checks rights name =
    (list_any (bytes_eq name) rights || list_any (bytes_eq name) command_words, NameTaken)
    ∷ (nat_le max_rights (length rights), Full table.Rights) ∷ []

-- the bit of the right of a name, where the names of rights are these
abbrev pub bit_named : List (List ℕ) → List ℕ → Option ℕ
bit_named rights name = position_from (bytes_eq name) 0 rights

-- a right that an access may ask for, and no administrative one
abbrev pub is_access_right : ℕ → Bool
is_access_right bit = nat_lt bit 2 || nat_le 17 bit
