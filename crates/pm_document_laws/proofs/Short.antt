-- The lines that ask for the requests of a document are short.
use Rattle.std.proofs.Common.{◌≡◌, ◌≤◌, ◌+◌, ◌*◌, ℕ, Bool, true, false, List, [], ◌∷◌, ◌++◌, length, map, codes, Option, None, Some, Contains, refl, ap, arith, length-append}
use Rattle.serde_json.specs.Data.{Data, number, string, unsigned}
use Rattle.serde_json.specs.Written.{comma_if, compact_text}
use Rattle.pm_document.specs.Forms.{policy_of}
use Rattle.pm_laws.proofs.Items.{each-at, each-map, each-to, find-found}
use Rattle.pm_model.specs.Formed.{Each}
use Rattle.pm_model.specs.Lines.{longest_line}
use Rattle.pm_model.specs.Object.{listed, texted, whole}
use Rattle.pm_model.specs.Text.{said}
use Rattle.pm_model.specs.Words.{key_text, word_text}
use Rattle.pm_model.specs.declared.elements.Kind.{Kind}
use Rattle.pm_model.specs.declared.prohibitions.Mode.{Mode}
use Rattle.pm_model.specs.declared.prohibitions.Subject.{Subject}
use Rattle.pm_model.specs.declared.prohibitions.Subject.TheVariants.{User, Ua, Process}
use Rattle.pm_model.specs.declared.requests.Command.{Command}
use Rattle.pm_model.specs.declared.requests.Command.TheVariants as command
use Rattle.pm_model.specs.declared.words.Key.{Key}
use Rattle.pm_model.specs.declared.words.Key.TheVariants as key
use Rattle.pm_model.specs.declared.words.Word.{Word}
use Rattle.pm_policy.specs.Policy.{is_assigned}
use Rattle.pm_policy.specs.Order.{leads_before}
use Rattle.pm_policy.specs.Requests.{asked, assign, associate, by_name, commands, created_in, first_assignment, prohibit, requests}
use Rattle.pm_policy.specs.declared.policy.DocAssignment.{DocAssignment}
use Rattle.pm_policy.specs.declared.policy.DocElement.{DocElement}
use Rattle.pm_policy.specs.declared.policy.Policy.{Policy}
use Rattle.pm_policy.proofs.Sorted.{has-sorted}
use Rattle.pm_print.specs.Actions.{mode_word, name_told, only, subject_told}
use Rattle.pm_print.specs.Askable.{AreNamed, AreRights, AreSets, IsNamed, IsShort, IsSubject}
use Rattle.pm_print.specs.Growth.{decimal_most, key_most, quoted_most, text_most}
use Rattle.pm_print.specs.Members.{item_text, items_front, keyed, leading, leading_all, trailing, trailing_all}
use Rattle.pm_print.specs.Requested.{command_at, command_back, command_word, request_text}
use Rattle.pm_print.proofs.ItemTexts.{list_text}
use Rattle.pm_print.proofs.Members.{line_by, object_by}
use Rattle.pm_print.proofs.Texts.{decimal_size, key_size, quoted_size, word_name}
use Rattle.pm_document_laws.proofs.Commands.{each_command}
use Rattle.pm_document_laws.proofs.Fair.{policy_fair, IsAssignment, IsAssociation, IsElement, IsFair, IsProhibition}

-- ---- values

comma_size : (later : Bool) → length (comma_if later) ≤ 1
comma_size true = omega arith
comma_size false = omega arith

-- names, each with a comma
names_size : (later : Bool) (names : List (List ℕ)) → AreNamed names → length (items_front later (map name_told names)) ≤ (quoted_most + 1) * length names
names_size later [] h = omega arith
names_size later (n ∷ ns) h =
    let c = comma_size later in
    let q = quoted_size n h.0 in
    let rest = names_size true ns h.1 in
    let a = length-append (item_text later (name_told n)) (items_front true (map name_told ns)) in
    let b = length-append (comma_if later) (compact_text (name_told n)) in
    omega (arith, c, q, rest, a, b)

list_size : (names : List (List ℕ)) → AreNamed names → length (compact_text (listed (map name_told names))) ≤ (quoted_most + 1) * length names + 2
list_size names h =
    let e = ap length (list_text (map name_told names)) in
    let s = names_size false names h in
    let a = length-append (items_front false (map name_told names)) (93 ∷ []) in
    omega (arith, e, s, a)

-- an object of one member
only_size : (k : Key) (d : Data) (n : ℕ) → length (compact_text d) ≤ n → length (compact_text (only k d)) ≤ key_most + n + 2
only_size k d n short =
    let e = ap length (object_by (key_text k) d [] []) in
    let lead = key_size k in
    let a = length-append (keyed (key_text k)) (compact_text d ++ codes "}") in
    let b = length-append (compact_text d) (codes "}") in
    omega (arith, e, lead, a, b, short)

subject_size : (s : Subject (List ℕ) ℕ) → IsSubject IsNamed IsShort s → length (compact_text (subject_told s)) ≤ key_most + quoted_most + 2
subject_size (User name) h = only_size key.User (string name) quoted_most (quoted_size name h)
subject_size (Ua name) h = only_size key.Ua (string name) quoted_most (quoted_size name h)
subject_size (Process n) h =
    only_size key.Process (number (unsigned n)) quoted_most (let d = decimal_size n (omega (arith, h)) in omega (arith, d))

-- ---- members

-- a member more
more : (a b : List ℕ) (m n : ℕ) → length a ≤ m → length b ≤ n → length (a ++ b) ≤ m + n
more a b m n p q = let e = length-append a b in omega (arith, e, p, q)

-- the members end
ended : length {A = ℕ} [] ≤ 0
ended = omega arith

-- one that isn't there
none_size : (k : Key) → length (leading (key_text k) None) ≤ 0
unfolding leading
none_size k = omega arith

some_size : (k : Key) (d : Data) (n : ℕ) → length (compact_text d) ≤ n → length (leading (key_text k) (Some d)) ≤ key_most + 1 + n
unfolding leading
some_size k d n short =
    let lead = key_size k in
    let a = length-append (keyed (key_text k)) (compact_text d) in
    omega (arith, lead, a, short)

name_size : (k : Key) (s : List ℕ) → IsNamed s → length (leading (key_text k) (texted s)) ≤ key_most + 1 + quoted_most
name_size k s h = some_size k (string s) quoted_most (quoted_size s h)

word_size : (k : Key) (w : Word) → length (leading (key_text k) (said w)) ≤ key_most + 1 + quoted_most
word_size k w = name_size k (word_text w) (word_name w)

-- process 0
process_size : length (leading (key_text key.Proc) (whole 0)) ≤ key_most + 1 + decimal_most
process_size = some_size key.Proc (number (unsigned 0)) decimal_most (decimal_size 0 (omega arith))

-- those before `cmd`: there may be one
front_size : (o : Option Data) → length (trailing (key_text key.At) o) ≤ text_most →
    length (trailing_all ((key_text key.After, None) ∷ (key_text key.At, o) ∷ [])) ≤ text_most
unfolding trailing
front_size o short = let e = more (trailing (key_text key.At) o) [] _ 0 short ended in omega (arith, e)

at_size : (s : List ℕ) → IsNamed s → length (trailing (key_text key.At) (texted s)) ≤ text_most
unfolding trailing
at_size s h =
    let lead = key_size key.At in
    let q = quoted_size s h in
    let a = length-append (keyed (key_text key.At)) (compact_text (string s) ++ 44 ∷ []) in
    let b = length-append (compact_text (string s)) (44 ∷ []) in
    omega (arith, lead, q, a, b)

no_at : length (trailing (key_text key.At) None) ≤ text_most
unfolding trailing
no_at = omega arith

-- ---- lines

abbrev IsBrief : Command → Type 0
IsBrief c = length (request_text None (asked c)) ≤ longest_line

-- by the members behind `cmd`
line_size : (c : Command) (n : ℕ) → length (trailing (key_text key.At) (command_at c)) ≤ text_most → length (leading_all (command_back None 0 c)) ≤ n →
    n + 2 * text_most + 3 ≤ longest_line → IsBrief c
line_size c n at behind few =
    let front = (key_text key.After, None) ∷ (key_text key.At, command_at c) ∷ [] in
    let back = leading_all (command_back None 0 c) in
    let word = word_text (command_word c) in
    let e = ap length (line_by (key_text key.Cmd) (string word) (command_back None 0 c) front) in
    let f = front_size (command_at c) at in
    let k = key_size key.Cmd in
    let q = quoted_size word (word_name (command_word c)) in
    let a = length-append (trailing_all front) (keyed (key_text key.Cmd) ++ (compact_text (string word) ++ (back ++ codes "}\n"))) in
    let b = length-append (keyed (key_text key.Cmd)) (compact_text (string word) ++ (back ++ codes "}\n")) in
    let d = length-append (compact_text (string word)) (back ++ codes "}\n") in
    let l = length-append back (codes "}\n") in
    omega (arith, e, f, k, q, a, b, d, l, behind, few)

right_brief : (name : List ℕ) → IsNamed name → IsBrief (command.DefineRight name)
right_brief name h =
    line_size (command.DefineRight name) _ no_at
    (more _ _ _ _ (none_size key.Id) (more _ _ _ _ (name_size key.Name name h) (more _ [] _ 0 process_size ended))) (omega arith)

class_brief : (name : List ℕ) → IsNamed name → IsBrief (command.CreatePc name)
class_brief name h =
    line_size (command.CreatePc name) _ no_at
    (more _ _ _ _ (none_size key.Id) (more _ _ _ _ (name_size key.Name name h) (more _ [] _ 0 process_size ended))) (omega arith)

create_brief : (kind : Kind) (name into : List ℕ) → IsNamed name → IsNamed into → IsBrief (command.Create kind name into)
create_brief kind name into h k =
    line_size (command.Create kind name into) _ no_at
    (more _ _ _ _ (none_size key.Id) (more _ _ _ _ (name_size key.Into into k) (more _ _ _ _ (name_size key.Name name h) (more _ [] _ 0 process_size ended)))) (omega arith)

assign_brief : (from to : List ℕ) → IsNamed from → IsNamed to → IsBrief (command.Assign from to)
assign_brief from to h k =
    line_size (command.Assign from to) _ no_at
    (more _ _ _ _ (name_size key.From from h) (more _ _ _ _ (none_size key.Id) (more _ _ _ _ process_size (more _ [] _ 0 (name_size key.To to k) ended)))) (omega arith)

associate_brief : (ua : List ℕ) (rights : List (List ℕ)) (at : List ℕ) → IsNamed ua → AreRights rights → IsNamed at → IsBrief (command.Associate ua rights at)
associate_brief ua rights at h r k =
    let few = r.listed.few in
    line_size (command.Associate ua rights at) _ (at_size at k)
    (more _ _ _ _ (none_size key.Id) (more _ _ _ _ process_size (more _ _ _ _ (some_size key.Rights _ _ (list_size rights r.listed.named))
    (more _ [] _ 0 (name_size key.Ua ua h) ended)))) (omega (arith, few))

prohibit_brief : (name : List ℕ) (subject : Subject (List ℕ) ℕ) (rights inc exc : List (List ℕ)) (mode : Mode) → AreSets name subject rights inc exc →
    IsBrief (command.Prohibit name subject rights inc exc mode)
prohibit_brief name subject rights inc exc mode h =
    let few = h.rights_are.listed.few in
    let both = h.few in
    line_size (command.Prohibit name subject rights inc exc mode) _ no_at
    (more _ _ _ _ (some_size key.Exc _ _ (list_size exc h.excluded)) (more _ _ _ _ (none_size key.Id)
    (more _ _ _ _ (some_size key.Inc _ _ (list_size inc h.included)) (more _ _ _ _ (word_size key.Mode (mode_word mode))
    (more _ _ _ _ (name_size key.Name name h.named) (more _ _ _ _ process_size
    (more _ _ _ _ (some_size key.Rights _ _ (list_size rights h.rights_are.listed.named))
    (more _ [] _ 0 (some_size key.Subject _ _ (subject_size subject h.subject_is)) ended)))))))) (omega (arith, few, both))

-- ---- documents

module _ (D : Policy) (fair : IsFair D) where
  created_brief : (e : DocElement) → Contains D.elements e → (o : Option DocAssignment) → first_assignment (by_name D) e.name ≡ o → IsBrief (created_in e o)
  created_brief e c None is = class_brief e.name (each-at IsElement D.elements e fair.elements c)
  created_brief e c (Some p) is =
      let f = find-found (is_assigned e.name) (by_name D) p is in
      let there = has-sorted leads_before D.assignments p f.0 in
      create_brief e.kind e.name p.to (each-at IsElement D.elements e fair.elements c) (each-at IsAssignment D.assignments p fair.assignments there).1

  all_brief : Each IsBrief (commands D)
  all_brief = each_command D IsBrief
      (each-to IsNamed (λ r. IsBrief (command.DefineRight r)) right_brief D.rights fair.rights)
      (λ e c. created_brief e c (first_assignment (by_name D) e.name) refl)
      (each-to IsAssignment (λ p. IsBrief (assign p)) (λ p h. assign_brief p.from p.to h.0 h.1) D.assignments fair.assignments)
      (each-to IsAssociation (λ a. IsBrief (associate a)) (λ a h. associate_brief a.ua a.rights a.at h.0 h.1 h.2) D.associations fair.associations)
      (each-to IsProhibition (λ q. IsBrief (prohibit q)) (λ q h. prohibit_brief q.name q.subject q.rights q.inc q.exc q.mode h) D.prohibitions fair.prohibitions)

pub request_lines_are_short : (bytes : List ℕ) (D : Policy) → policy_of bytes ≡ Some D → Each (λ r. length (request_text None r) ≤ longest_line) (requests D)
request_lines_are_short bytes D is = each-map (λ r. length (request_text None r) ≤ longest_line) asked (commands D) (all_brief D (policy_fair bytes D is))
