-- What a write to a vector in memory leaves, and how much a reply may write.
use Rattle.std.specs.Prelude.{◌≡◌, ◌≤◌, ◌+◌, ◌*◌, ◌/◌, ℕ, max, List, ◌++◌, length, take, Result, OnOk, IsOk, Vec, vec_len, vec_capacity, ⊤}
use Rattle.std.specs.List.{zip}
use Rattle.std.specs.declared.alloc.Global.{Global}
use Rattle.pm_model.specs.Name.{longest_name}
use Rattle.pm_model.specs.RightSet.{right_bits}
use Rattle.pm_model.specs.declared.replies.Reply.{Reply}
use Rattle.pm_model.specs.declared.replies.Reply.TheVariants.{Caps, Entries, Survey, Kept, Changes}

-- on Ok the text was appended, which has at most so many bytes, else what stood stays at the front; where there was room
-- for so many, it is Ok
pub record Appended {E : Type 0} (old new : Vec ℕ Global) (text : List ℕ) (most : ℕ) (result : Result ⊤ E) : Type 0 where
  pub ok : OnOk result (new.items ≡ old.items ++ text)
  pub front : take (vec_len old) new.items ≡ old.items
  pub capacity : vec_capacity old ≤ vec_capacity new
  pub grown : OnOk result (vec_len new ≤ vec_len old + most)
  pub fits : vec_len old + most ≤ vec_capacity old → IsOk result

-- the same where a text has as many bytes as it has
abbrev pub Adds : {E : Type 0} → Vec ℕ Global → Vec ℕ Global → List ℕ → Result ⊤ E → Type 0
Adds old new text result = Appended old new text (length text) result

-- how many bytes a number of 64 bits has in decimal digits
abbrev pub decimal_most : ℕ
decimal_most = 20

-- how many a set of rights has, in hexadecimal digits and quotes
abbrev pub rights_most : ℕ
rights_most = right_bits / 4 + 2

-- how many a text in the form of a name has, in quotes
abbrev pub quoted_most : ℕ
quoted_most = longest_name + 2

-- how many a key has, in quotes and with its colon
abbrev pub key_most : ℕ
key_most = quoted_most + 1

-- how many bytes a member may have that is a number, with its key and its comma
abbrev pub number_most : ℕ
number_most = key_most + decimal_most + 1

-- the same of one that is a text in the form of a name
abbrev pub text_most : ℕ
text_most = key_most + quoted_most + 1

-- at most six members stand before the version, of which one is the id
abbrev pub front_most : ℕ
front_most = 5 * text_most + number_most

-- how many items the list of a reply has
abbrev pub items_in : Reply → ℕ
items_in (Caps list) = length list
items_in (Entries list) = length list
items_in (Survey users counts) = length (zip users counts)
items_in (Kept list) = length list
items_in (Changes at list) = length list
items_in _ = 0

-- how many bytes an item may have that is a name and a set of rights, or a name and a number, with its comma
abbrev pub pair_most : ℕ
pair_most = quoted_most + max decimal_most rights_most + 4

-- the same of one that is a name and two sets of rights
abbrev pub change_most : ℕ
change_most = quoted_most + 2 * rights_most + 5

-- how many bytes an item of the reply's list has at most
abbrev pub item_most : Reply → ℕ
item_most (Changes at list) = change_most
item_most _ = pair_most

-- how many bytes the members before the version have at most
abbrev pub front_most_of : Reply → ℕ
front_most_of reply = front_most + item_most reply * items_in reply

-- how many bytes the line of a reply has at most, with its line feed: 1,024, but where it has a list
abbrev pub reply_most : Reply → ℕ
reply_most reply = 1024 + item_most reply * items_in reply
