-- What a JSON value says as a document. The project's own; the forms of names, rights, sets, subjects and modes are those
-- of a line's fields.
use Rattle.std.specs.Prelude.{ℕ, List, codes, bytes_eq, if◌then◌else◌, Option, None, Some, option_and_then}
use Rattle.std.specs.Str.{is_utf8}
use Rattle.serde_json.specs.Data.{Data, Items, no_items, item}
use Rattle.serde_json.specs.Find.{get, as_str, as_array}
use Rattle.serde_json.specs.Read.{read}
use Rattle.pm_model.specs.Forms.{name_form, list_of, rights_form, list_form, if_few_beside, mode_form, subject_form}
use Rattle.pm_model.specs.Words.{key_text, word_text}
use Rattle.pm_model.specs.declared.elements.Kind.{Kind}
use Rattle.pm_model.specs.declared.elements.Kind.TheVariants.{User, Ua, Object, Oa, Pc}
use Rattle.pm_model.specs.declared.words.Key.{Key}
use Rattle.pm_model.specs.declared.words.Key.TheVariants as key
use Rattle.pm_model.specs.declared.words.Word.{Word}
use Rattle.pm_model.specs.declared.words.Word.TheVariants as word
use Rattle.pm_policy.specs.Policy.{doc_element, assignment}
use Rattle.pm_policy.specs.declared.policy.DocElement.{DocElement}
use Rattle.pm_policy.specs.declared.policy.DocAssignment.{DocAssignment}
use Rattle.pm_policy.specs.declared.policy.DocAssociation.{DocAssociation}
use Rattle.pm_policy.specs.declared.policy.DocProhibition.{DocProhibition}
use Rattle.pm_policy.specs.declared.policy.Policy.{Policy}

-- what a value reads as, and what is made of that
abbrev pub reading : {A B : Type 0} → Option A → (A → Option B) → Option B
reading o f = option_and_then f o

-- what stands at a key and has the form
abbrev pub at_key : {A : Type 0} → (Data → Option A) → Key → Data → Option A
at_key form k d = option_and_then form (get (key_text k) d)

-- the kinds of elements, as documents spell them
abbrev pub kind_of : List ℕ → Option Kind
kind_of w =
    if bytes_eq w (codes "user") then Some User
    else (if bytes_eq w (codes "ua") then Some Ua
    else (if bytes_eq w (codes "object") then Some Object
    else (if bytes_eq w (codes "oa") then Some Oa
    else (if bytes_eq w (codes "pc") then Some Pc else None))))

abbrev pub kind_form : Data → Option Kind
kind_form d = option_and_then kind_of (as_str d)

-- exactly two values
abbrev pub two : Items → Option (Data × Data)
two (item a (item b no_items)) = Some (a, b)
two _ = None

-- exactly three values
abbrev pub three : Items → Option (Data × Data × Data)
three (item a (item b (item c no_items))) = Some (a, b, c)
three _ = None

-- ---- elements and assignments: lists of two

abbrev pub element_of : Items → Option DocElement
element_of ds =
    reading (two ds) (λ p.
    reading (kind_form p.0) (λ kind.
    reading (name_form p.1) (λ name. Some (doc_element kind name))))

abbrev pub element_form : Data → Option DocElement
element_form d = option_and_then element_of (as_array d)

abbrev pub assignment_of : Items → Option DocAssignment
assignment_of ds =
    reading (two ds) (λ p.
    reading (name_form p.0) (λ from.
    reading (name_form p.1) (λ to. Some (assignment from to))))

abbrev pub assignment_form : Data → Option DocAssignment
assignment_form d = option_and_then assignment_of (as_array d)

-- ---- associations: lists of three

abbrev pub association_of : Items → Option DocAssociation
association_of ds =
    reading (three ds) (λ p.
    reading (name_form p.0) (λ ua.
    reading (rights_form p.1) (λ rights.
    reading (name_form p.2) (λ at. Some (record { ua = ua; rights = rights; at = at })))))

abbrev pub association_form : Data → Option DocAssociation
association_form d = option_and_then association_of (as_array d)

-- ---- prohibitions: objects with the fields of the command that makes one

-- the two sets, which have at most 32 names together
abbrev pub sets_form : Data → Option (List (List ℕ) × List (List ℕ))
sets_form d =
    reading (at_key list_form key.Inc d) (λ inc.
    reading (reading (at_key list_form key.Exc d) (if_few_beside inc)) (λ exc. Some (inc, exc)))

abbrev pub prohibition_form : Data → Option DocProhibition
prohibition_form d =
    reading (at_key name_form key.Name d) (λ name.
    reading (at_key subject_form key.Subject d) (λ subject.
    reading (at_key rights_form key.Rights d) (λ rights.
    reading (sets_form d) (λ sets.
    reading (at_key mode_form key.Mode d) (λ mode.
    Some (record { name = name; subject = subject; rights = rights; inc = sets.0; exc = sets.1; mode = mode }))))))

-- ---- documents: objects with five lists

abbrev pub items_form : {A : Type 0} → (Data → Option A) → Data → Option (List A)
items_form form d = option_and_then (list_of form) (as_array d)

abbrev pub list_at : {A : Type 0} → (Data → Option A) → Word → Data → Option (List A)
list_at form w d = option_and_then (items_form form) (get (word_text w) d)

abbrev pub policy_form : Data → Option Policy
policy_form d =
    reading (list_at name_form word.Rights d) (λ rights.
    reading (list_at element_form word.Elements d) (λ elements.
    reading (list_at assignment_form word.Assignments d) (λ assignments.
    reading (list_at association_form word.Associations d) (λ associations.
    reading (list_at prohibition_form word.Prohibitions d) (λ prohibitions.
    Some (record { rights = rights; elements = elements; assignments = assignments; associations = associations; prohibitions = prohibitions }))))))

-- what the bytes say, where they are JSON and have a document's form
abbrev pub policy_of : List ℕ → Option Policy
policy_of bytes = option_and_then policy_form (if is_utf8 bytes then read bytes else None)
