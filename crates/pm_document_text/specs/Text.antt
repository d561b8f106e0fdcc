-- The text of a policy: one JSON object with five lists, its keys in alphabetical order. JSON itself is serde_json's word
-- `compact_text`; the rest is the project's own.
use Rattle.std.specs.Prelude.{ℕ, List, [], ◌∷◌, codes, map, Option, Some}
use Rattle.serde_json.specs.Data.{Data, object, string}
use Rattle.pm_model.specs.Object.{line_of, listed, present, texted}
use Rattle.pm_model.specs.Text.{said}
use Rattle.pm_model.specs.Words.{key_text, word_text}
use Rattle.pm_model.specs.declared.elements.Kind.{Kind}
use Rattle.pm_model.specs.declared.elements.Kind.TheVariants.{User, Ua, Object, Oa, Pc}
use Rattle.pm_model.specs.declared.prohibitions.Mode.{Mode}
use Rattle.pm_model.specs.declared.words.Key.TheVariants as key
use Rattle.pm_model.specs.declared.words.Word.TheVariants as word
use Rattle.pm_policy.specs.declared.policy.DocElement.{DocElement}
use Rattle.pm_policy.specs.declared.policy.DocAssignment.{DocAssignment}
use Rattle.pm_policy.specs.declared.policy.DocAssociation.{DocAssociation}
use Rattle.pm_policy.specs.declared.policy.DocProhibition.{DocProhibition}
use Rattle.pm_policy.specs.declared.policy.Policy.{Policy}
use Rattle.pm_print.specs.Actions.{mode_word, name_told, names_told, subject_told}

-- the kinds of elements, as documents spell them
unfoldable pub kind_text : Kind → List ℕ
kind_text User = codes "user"
kind_text Ua = codes "ua"
kind_text Object = codes "object"
kind_text Oa = codes "oa"
kind_text Pc = codes "pc"

abbrev pub kind_told : Kind → Data
kind_told kind = string (kind_text kind)

-- lists of two and of three
abbrev pub element_told : DocElement → Data
element_told e = listed (kind_told e.kind ∷ name_told e.name ∷ [])

abbrev pub assignment_told : DocAssignment → Data
assignment_told p = listed (name_told p.from ∷ name_told p.to ∷ [])

abbrev pub association_told : DocAssociation → Data
association_told a = listed (name_told a.ua ∷ listed (map name_told a.rights) ∷ name_told a.at ∷ [])

abbrev pub mode_told : Mode → Data
mode_told mode = string (word_text (mode_word mode))

-- an object with the fields of the command that makes one
abbrev pub prohibition_back : DocProhibition → List (List ℕ × Option Data)
prohibition_back p =
    (key_text key.Inc, names_told p.inc)
    ∷ (key_text key.Mode, Some (mode_told p.mode))
    ∷ (key_text key.Name, texted p.name)
    ∷ (key_text key.Rights, names_told p.rights)
    ∷ (key_text key.Subject, Some (subject_told p.subject))
    ∷ []

abbrev pub prohibition_told : DocProhibition → Data
prohibition_told p = object (present ((key_text key.Exc, names_told p.exc) ∷ prohibition_back p))

abbrev pub list_told : {X : Type 0} → (X → Data) → List X → Option Data
list_told told xs = Some (listed (map told xs))

-- the lists behind the first
abbrev pub policy_back : Policy → List (List ℕ × Option Data)
policy_back D =
    (word_text word.Associations, list_told association_told D.associations)
    ∷ (word_text word.Elements, list_told element_told D.elements)
    ∷ (word_text word.Prohibitions, list_told prohibition_told D.prohibitions)
    ∷ (word_text word.Rights, names_told D.rights)
    ∷ []

-- the text of the policy, on one line
abbrev pub document_text : Policy → List ℕ
document_text D = line_of ((word_text word.Assignments, list_told assignment_told D.assignments) ∷ policy_back D)
