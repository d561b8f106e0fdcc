-- What a text says as a document has the forms of lines.
use Rattle.std.proofs.Common.{◌≡◌, ◌≤◌, ◌+◌, ℕ, Bool, true, false, nat_le, List, length, Option, None, Some, IfSome, refl, subst, leb-true, if◌then◌else◌}
use Rattle.std.specs.Str.{is_utf8}
use Rattle.serde_json.specs.Data.{Data}
use Rattle.serde_json.specs.Find.{as_array, get}
use Rattle.serde_json.specs.Read.{read}
use Rattle.pm_model.specs.Formed.{Each}
use Rattle.pm_model.specs.Forms.{if_few_beside, list_form, mode_form, name_form, rights_form, subject_form}
use Rattle.pm_model.specs.Words.{key_text, word_text}
use Rattle.pm_model.specs.declared.elements.Kind.{Kind}
use Rattle.pm_model.specs.declared.prohibitions.Mode.{Mode}
use Rattle.pm_model.specs.declared.prohibitions.Subject.{Subject}
use Rattle.pm_model.specs.declared.words.Key.TheVariants as key
use Rattle.pm_model.specs.declared.words.Word.{Word}
use Rattle.pm_model.specs.declared.words.Word.TheVariants as word
use Rattle.pm_document.specs.Forms.{assignment_form, assignment_of, association_form, association_of, at_key, element_form, element_of, items_form, kind_form, list_at, policy_form, policy_of, prohibition_form, reading, sets_form, three, two}
use Rattle.pm_policy.specs.Policy.{assignment, doc_element}
use Rattle.pm_policy.specs.declared.policy.DocAssignment.{DocAssignment}
use Rattle.pm_policy.specs.declared.policy.DocAssociation.{DocAssociation}
use Rattle.pm_policy.specs.declared.policy.DocElement.{DocElement}
use Rattle.pm_policy.specs.declared.policy.DocProhibition.{DocProhibition}
use Rattle.pm_policy.specs.declared.policy.Policy.{Policy}
use Rattle.pm_print.specs.Askable.{AreNamed, AreRights, AreSets, IsNamed, IsShort, IsSubject}
use Rattle.pm_lines.proofs.Askable.{array_read, command_subject, name_read, names_read, rights_read}
use Rattle.pm_lines.proofs.Finds.{any, found, next, nothing, of_form, Any, Finds}

abbrev pub IsElement : DocElement → Type 0
IsElement e = IsNamed e.name

abbrev pub IsAssignment : DocAssignment → Type 0
IsAssignment p = IsNamed p.from × IsNamed p.to

abbrev pub IsAssociation : DocAssociation → Type 0
IsAssociation a = IsNamed a.ua × AreRights a.rights × IsNamed a.at

abbrev pub IsProhibition : DocProhibition → Type 0
IsProhibition p = AreSets p.name p.subject p.rights p.inc p.exc

pub record IsFair (D : Policy) : Type 0 where
  pub rights : AreNamed D.rights
  pub elements : Each IsElement D.elements
  pub assignments : Each IsAssignment D.assignments
  pub associations : Each IsAssociation D.associations
  pub prohibitions : Each IsProhibition D.prohibitions

-- ---- elements and assignments

element_told : (k : Option Kind) (n : Option (List ℕ)) → Finds IsNamed n →
    Finds IsElement (reading k (λ kind. reading n (λ name. Some (doc_element kind name))))
element_told None n h = nothing IsElement
element_told (Some kind) None h = nothing IsElement
element_told (Some kind) (Some name) h = found IsElement (doc_element kind name) h.each

element_two : (o : Option (Data × Data)) →
    Finds IsElement (reading o (λ p. reading (kind_form p.0) (λ kind. reading (name_form p.1) (λ name. Some (doc_element kind name)))))
element_two None = nothing IsElement
element_two (Some p) = element_told (kind_form p.0) (name_form p.1) (name_read p.1)

element_read : (d : Data) → Finds IsElement (element_form d)
element_read d = next Any IsElement element_of (as_array d) (any (as_array d)) (λ ds u. element_two (two ds))

assignment_told : (a b : Option (List ℕ)) → Finds IsNamed a → Finds IsNamed b →
    Finds IsAssignment (reading a (λ from. reading b (λ to. Some (assignment from to))))
assignment_told None b h k = nothing IsAssignment
assignment_told (Some from) None h k = nothing IsAssignment
assignment_told (Some from) (Some to) h k = found IsAssignment (assignment from to) (h.each, k.each)

assignment_two : (o : Option (Data × Data)) →
    Finds IsAssignment (reading o (λ p. reading (name_form p.0) (λ from. reading (name_form p.1) (λ to. Some (assignment from to)))))
assignment_two None = nothing IsAssignment
assignment_two (Some p) = assignment_told (name_form p.0) (name_form p.1) (name_read p.0) (name_read p.1)

assignment_read : (d : Data) → Finds IsAssignment (assignment_form d)
assignment_read d = next Any IsAssignment assignment_of (as_array d) (any (as_array d)) (λ ds u. assignment_two (two ds))

-- ---- associations

abbrev association : List ℕ → List (List ℕ) → List ℕ → DocAssociation
association ua rights at_ = record { ua = ua; rights = rights; at = at_ }

association_told : (u : Option (List ℕ)) (r : Option (List (List ℕ))) (a : Option (List ℕ)) → Finds IsNamed u → Finds AreRights r → Finds IsNamed a →
    Finds IsAssociation (reading u (λ ua. reading r (λ rights. reading a (λ at_. Some (association ua rights at_)))))
association_told None r a h k l = nothing IsAssociation
association_told (Some ua) None a h k l = nothing IsAssociation
association_told (Some ua) (Some rights) None h k l = nothing IsAssociation
association_told (Some ua) (Some rights) (Some at_) h k l = found IsAssociation (association ua rights at_) (h.each, k.each, l.each)

association_three : (o : Option (Data × Data × Data)) →
    Finds IsAssociation (reading o (λ p. reading (name_form p.0) (λ ua. reading (rights_form p.1) (λ rights. reading (name_form p.2) (λ at_. Some (association ua rights at_))))))
association_three None = nothing IsAssociation
association_three (Some p) = association_told (name_form p.0) (rights_form p.1) (name_form p.2) (name_read p.0) (rights_read p.1) (name_read p.2)

association_read : (d : Data) → Finds IsAssociation (association_form d)
association_read d = next Any IsAssociation association_of (as_array d) (any (as_array d)) (λ ds u. association_three (three ds))

-- ---- prohibitions

abbrev FewSets : List (List ℕ) × List (List ℕ) → Type 0
FewSets s = AreNamed s.0 × AreNamed s.1 × (length s.0 + length s.1 ≤ 32)

few_told : (inc exc : List (List ℕ)) → AreNamed inc → AreNamed exc → (b : Bool) → nat_le (length inc + length exc) 32 ≡ b →
    Finds FewSets (reading (if b then Some exc else None) (λ exc. Some (inc, exc)))
few_told inc exc h k true is = found FewSets (inc, exc) (h, k, leb-true (length inc + length exc) 32 is)
few_told inc exc h k false is = nothing FewSets

sets_told : (i e : Option (List (List ℕ))) → Finds AreNamed i → Finds AreNamed e →
    Finds FewSets (reading i (λ inc. reading (reading e (if_few_beside inc)) (λ exc. Some (inc, exc))))
sets_told None e h k = nothing FewSets
sets_told (Some inc) None h k = nothing FewSets
sets_told (Some inc) (Some exc) h k = few_told inc exc h.each k.each (nat_le (length inc + length exc) 32) refl

sets_read : (d : Data) → Finds FewSets (sets_form d)
sets_read d = sets_told (at_key list_form key.Inc d) (at_key list_form key.Exc d)
    (of_form AreNamed list_form names_read (get (key_text key.Inc) d)) (of_form AreNamed list_form names_read (get (key_text key.Exc) d))

abbrev IsFairSubject : Subject (List ℕ) ℕ → Type 0
IsFairSubject s = IsSubject IsNamed IsShort s

abbrev prohibition : List ℕ → Subject (List ℕ) ℕ → List (List ℕ) → List (List ℕ) × List (List ℕ) → Mode → DocProhibition
prohibition name subject rights sets mode = record { name = name; subject = subject; rights = rights; inc = sets.0; exc = sets.1; mode = mode }

prohibition_told : (n : Option (List ℕ)) (s : Option (Subject (List ℕ) ℕ)) (r : Option (List (List ℕ))) (t : Option (List (List ℕ) × List (List ℕ))) (m : Option Mode) →
    Finds IsNamed n → Finds IsFairSubject s → Finds AreRights r → Finds FewSets t →
    Finds IsProhibition (reading n (λ name. reading s (λ subject. reading r (λ rights. reading t (λ sets. reading m (λ mode. Some (prohibition name subject rights sets mode)))))))
prohibition_told None s r t m a b c d = nothing IsProhibition
prohibition_told (Some name) None r t m a b c d = nothing IsProhibition
prohibition_told (Some name) (Some subject) None t m a b c d = nothing IsProhibition
prohibition_told (Some name) (Some subject) (Some rights) None m a b c d = nothing IsProhibition
prohibition_told (Some name) (Some subject) (Some rights) (Some sets) None a b c d = nothing IsProhibition
prohibition_told (Some name) (Some subject) (Some rights) (Some sets) (Some mode) a b c d =
    found IsProhibition (prohibition name subject rights sets mode)
    (record { named = a.each; subject_is = b.each; rights_are = c.each; included = d.each.0; excluded = d.each.1; few = d.each.2 })

prohibition_read : (d : Data) → Finds IsProhibition (prohibition_form d)
prohibition_read d =
    prohibition_told (at_key name_form key.Name d) (at_key subject_form key.Subject d) (at_key rights_form key.Rights d) (sets_form d) (at_key mode_form key.Mode d)
    (of_form IsNamed name_form name_read (get (key_text key.Name) d)) (of_form IsFairSubject subject_form command_subject (get (key_text key.Subject) d))
    (of_form AreRights rights_form rights_read (get (key_text key.Rights) d)) (sets_read d)

-- ---- documents

list_read_at : {A : Type 0} (P : A → Type 0) (form : Data → Option A) → ((d : Data) → Finds P (form d)) → (w : Word) (d : Data) → Finds (Each P) (list_at form w d)
list_read_at P form reads w d = of_form (Each P) (items_form form) (array_read P form reads) (get (word_text w) d)

abbrev policy : List (List ℕ) → List DocElement → List DocAssignment → List DocAssociation → List DocProhibition → Policy
policy rights elements assignments associations prohibitions =
    record { rights = rights; elements = elements; assignments = assignments; associations = associations; prohibitions = prohibitions }

policy_told : (r : Option (List (List ℕ))) (e : Option (List DocElement)) (p : Option (List DocAssignment)) (a : Option (List DocAssociation)) (h : Option (List DocProhibition)) →
    Finds AreNamed r → Finds (Each IsElement) e → Finds (Each IsAssignment) p → Finds (Each IsAssociation) a → Finds (Each IsProhibition) h →
    Finds IsFair (reading r (λ rights. reading e (λ elements. reading p (λ assignments. reading a (λ associations. reading h (λ prohibitions. Some (policy rights elements assignments associations prohibitions)))))))
policy_told None e p a h v w x y z = nothing IsFair
policy_told (Some r) None p a h v w x y z = nothing IsFair
policy_told (Some r) (Some e) None a h v w x y z = nothing IsFair
policy_told (Some r) (Some e) (Some p) None h v w x y z = nothing IsFair
policy_told (Some r) (Some e) (Some p) (Some a) None v w x y z = nothing IsFair
policy_told (Some r) (Some e) (Some p) (Some a) (Some h) v w x y z =
    found IsFair (policy r e p a h) (record { rights = v.each; elements = w.each; assignments = x.each; associations = y.each; prohibitions = z.each })

policy_read : (d : Data) → Finds IsFair (policy_form d)
policy_read d =
    policy_told (list_at name_form word.Rights d) (list_at element_form word.Elements d) (list_at assignment_form word.Assignments d)
    (list_at association_form word.Associations d) (list_at prohibition_form word.Prohibitions d)
    (list_read_at IsNamed name_form name_read word.Rights d) (list_read_at IsElement element_form element_read word.Elements d)
    (list_read_at IsAssignment assignment_form assignment_read word.Assignments d)
    (list_read_at IsAssociation association_form association_read word.Associations d)
    (list_read_at IsProhibition prohibition_form prohibition_read word.Prohibitions d)

pub policy_fair : (bytes : List ℕ) (D : Policy) → policy_of bytes ≡ Some D → IsFair D
policy_fair bytes D is =
    let said = if is_utf8 bytes then read bytes else None in
    let finds : Finds IsFair (policy_of bytes) = next Any IsFair policy_form said (any said) (λ d u. policy_read d) in
    subst (λ o. IfSome o IsFair) is finds.each
