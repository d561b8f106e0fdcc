-- The text of a reply is read as that reply.
use Rattle.std.proofs.Common.{◌≡◌, ◌++◌, ℕ, List, codes, IsUtf8, Option, None, Some, unwrap_or, refl, sym, ap, subst, ◌∙◌}
use Rattle.serde_json.specs.Data.{Data}
use Rattle.serde_json.specs.Read.{read}
use Rattle.serde_json.specs.Written.{compact_text}
use Rattle.pm_model.specs.Forms.{looking}
use Rattle.pm_model.specs.Text.{text}
use Rattle.pm_model.specs.declared.replies.Reply.{Reply}
use Rattle.pm_print.proofs.Fields.{looks}
use Rattle.pm_print.proofs.Fair.{IsUtf8-compact}
use Rattle.pm_print.proofs.Replying.{cut_feed, data_of, fair-line, members, read-line}
use Rattle.pm_replies.specs.ByNames.{CanBeTold, IsTextOf, by_names}
use Rattle.pm_replies.specs.Numbered.{IsNumbered, name_among}
use Rattle.pm_replies.specs.Replied.{Confirms, replied}
use Rattle.pm_replies.specs.declared.texts.ReplyLine.{ReplyLine}
use Rattle.pm_replies.proofs.Rendered.{same_text}
use Rattle.pm_replies.proofs.Told.{told}

module _ (line : List ℕ) (id : Option ℕ) (v : ℕ) (names : ℕ → List ℕ) (answer : Reply) (can : CanBeTold id v names answer) (is : text id v names answer ≡ line ++ codes "\n") where
  abbrev value : Data
  value = data_of id v names answer

  abbrev line_told : ReplyLine
  line_told = record { id = id; version = v; text = by_names names answer }

  without_feed : compact_text value ≡ line
  without_feed = cut_feed (compact_text value) line is

  utf8 : IsUtf8 line
  utf8 = subst IsUtf8 without_feed (IsUtf8-compact value (fair-line id v names answer can.printable))

  read-text : read line ≡ Some value
  read-text = subst (λ l. read l ≡ Some value) without_feed (read-line id v names answer can.printable)

  said-members : replied (looking value) ≡ Some line_told
  said-members =
      ap replied (looks (members id v names answer)) ∙ told id v names answer can.printable.rights_fit can.printable.named can.short

  -- a line of which no value is read is the text of no reply
  pub no_value : (IsUtf8 line → read line ≡ None) → ⊥
  no_value none = let e : None ≡ Some value = sym (none utf8) ∙ read-text in cc

  -- what the value says
  pub said-value : (d : Data) → read line ≡ Some d → replied (looking d) ≡ Some line_told
  said-value d found =
      let same : d ≡ value = ap (λ o. unwrap_or o d) (sym found ∙ read-text) in
      ap (λ e. replied (looking e)) same ∙ said-members

  pub is_text : IsTextOf line line_told
  is_text = record { names = names; told = answer; named = refl; printed = is }

  -- what was confirmed is the reply
  pub confirmed-one : (d : Data) (said : ReplyLine) → read line ≡ Some d → Confirms line (looking d) (Some said) → said ≡ line_told
  confirmed-one d said found sure = ap (λ o. unwrap_or o said) (sym sure.0 ∙ said-value d found)

  -- and something was
  pub confirmed-none : (d : Data) → read line ≡ Some d → Confirms line (looking d) None → ⊥
  confirmed-none d found none = none line_told (said-value d found) is_text

-- the text of the reply with numbers is that of each reply that is the same with names
pub same_printed : (line : List ℕ) (said : ReplyLine) (names : List (List ℕ)) (numbered : Reply) → IsNumbered said.text names numbered
    → IsTextOf line said → text said.id said.version (name_among names) numbered ≡ line ++ codes "\n"
same_printed line said names numbered is other =
    same_text said.id said.version (name_among names) other.names numbered other.told (is.named ∙ other.named) ∙ other.printed

pub is_printed : (line : List ℕ) (said : ReplyLine) (names : List (List ℕ)) (numbered : Reply) → IsNumbered said.text names numbered
    → text said.id said.version (name_among names) numbered ≡ line ++ codes "\n" → IsTextOf line said
is_printed line said names numbered is e = record { names = name_among names; told = numbered; named = sym is.named; printed = e }
