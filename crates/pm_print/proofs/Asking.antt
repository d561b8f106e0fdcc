-- The line of a request asks for that request.
use Rattle.std.proofs.Common.{◌≡◌, ◌≤◌, ◌<◌, ◌^◌, ◌+◌, ℕ, List, [], ◌∷◌, ◌++◌, Bool, true, false, length, map, Option, None, Some, Ok, IfSome, option_and_then, if◌then◌else◌, codes, IsUtf8, refl, sym, ap, subst, ◌∙◌, arith, le-leb}
use Rattle.std.proofs.lemmas.Str.{is_utf8-from_IsUtf8}
use Rattle.std.specs.Str.{is_utf8}
use Rattle.json.proofs.Printed.Utf8.{IsUtf8-are_ascii}
use Rattle.serde_json.specs.Data.{Data, object, depth, items_depth}
use Rattle.serde_json.specs.Read.{read, max_depth}
use Rattle.serde_json.specs.Written.{compact_text}
use Rattle.pm_model.specs.Asked.{asked, asked_by, asked_of, optional}
use Rattle.pm_model.specs.Events.{word_to_create}
use Rattle.pm_model.specs.Formed.{Each}
use Rattle.pm_model.specs.Forms.{looking, whole_form}
use Rattle.pm_model.specs.Object.{items_of, listed, present, texted, whole, whole_if}
use Rattle.pm_model.specs.Text.{said}
use Rattle.pm_model.specs.Words.{key_text, word_text}
use Rattle.pm_model.specs.declared.words.Key.{Key}
use Rattle.pm_model.specs.declared.words.Key.TheVariants as key
use Rattle.pm_model.specs.declared.words.Word.{Word}
use Rattle.pm_model.specs.declared.words.Word.TheVariants as word
use Rattle.pm_model.specs.declared.actions.Act.{Act}
use Rattle.pm_model.specs.declared.actions.Act.TheVariants as act
use Rattle.pm_model.specs.declared.actions.Action.{Action}
use Rattle.pm_model.specs.declared.actions.Guard.{Guard}
use Rattle.pm_model.specs.declared.actions.ProcessTerm.{ProcessTerm}
use Rattle.pm_model.specs.declared.actions.ProcessTerm.TheVariants.{Number, EventProcess}
use Rattle.pm_model.specs.declared.actions.Term.{Term}
use Rattle.pm_model.specs.declared.actions.Term.TheVariants.{Named, EventUser, EventTarget, Fresh}
use Rattle.pm_model.specs.declared.elements.Kind.TheVariants as kind
use Rattle.pm_model.specs.declared.events.When.{When}
use Rattle.pm_model.specs.declared.prohibitions.Subject.{Subject}
use Rattle.pm_model.specs.declared.prohibitions.Subject.TheVariants.{User, Ua, Process}
use Rattle.pm_model.specs.declared.requests.Body.{Body}
use Rattle.pm_model.specs.declared.requests.Body.TheVariants as body
use Rattle.pm_model.specs.declared.requests.Command.{Command}
use Rattle.pm_model.specs.declared.requests.Command.TheVariants as command
use Rattle.pm_model.specs.declared.requests.Question.{Question}
use Rattle.pm_model.specs.declared.requests.Question.TheVariants as question
use Rattle.pm_model.specs.declared.requests.Request.{Request}
use Rattle.pm_model.specs.declared.reviews.ReviewOf.TheVariants as of
use Rattle.pm_print.specs.Actions.{action_fields, action_told, actions_told, event_process_text, guard_told, guards_told, mode_word, name_if, name_told, names_told, process_told, subject_told, term_subject_told, term_text, term_told, terms_told, when_fields, when_told, within_text}
use Rattle.pm_print.specs.Askable.{AreActions, AreNamed, AreRights, IsAct, IsAction, IsAskable, IsBody, IsCommand, IsGiven, IsGuard, IsNamed, IsProcessTerm, IsQuestion, IsShort, IsSubject, IsTerm, IsWhen, IsWholeIf, asking}
use Rattle.pm_print.specs.Requested.{ends_back, named_back, request_fields, request_text, review_back}
use Rattle.pm_print.proofs.Fair.{IsFair, ItemsFair, IsUtf8-compact, read-compact}
use Rattle.pm_print.proofs.Fields.{MembersFair-in, ValueIn, ValuesIn, finding, in_order, looks, or_none, shallow-in}
use Rattle.pm_print.proofs.Kept.{actions_kept, listed_kept, mode_kept, names_kept, rights_kept, short_kept, some_there, subject_kept, when_kept}
use Rattle.pm_print.proofs.Members.{plain-name}
use Rattle.pm_print.proofs.Replying.{ascii_plain, cut_feed}
use Rattle.pm_print.proofs.Texts.{key_name, word_name}

-- ---- what the members ask

head_kept : (k : Key) (n : Option ℕ) → optional k (whole_if n) whole_form ≡ Ok n
head_kept k None = refl
head_kept k (Some n) = refl

id_kept : (n : Option ℕ) → option_and_then whole_form (whole_if n) ≡ n
id_kept None = refl
id_kept (Some n) = refl

module _ (id after : Option ℕ) where
  abbrev of_body : Body → Request
  of_body b = record { after = after; body = b }

  abbrev Asks : Body → Type 0
  Asks b = asked_by (finding (request_fields id (of_body b))) ≡ asking id (of_body b)

  asks_command : (process : ℕ) (c : Command) → IsShort process → IsCommand c → Asks (body.Admin process c)
  unfolding key_text word_text
  asks_command process (command.CreatePc name) s h =
      let p = short_kept process s in
      rw (or_none (whole_if id), or_none (whole_if after), head_kept key.Id id, head_kept key.After after, id_kept id, p, h) refl
  asks_command process (command.Create kind.User name into) s h =
      let p = short_kept process s in let a = h.1 in let b = h.2 in
      rw (or_none (whole_if id), or_none (whole_if after), head_kept key.Id id, head_kept key.After after, id_kept id, p, a, b) refl
  asks_command process (command.Create kind.Ua name into) s h =
      let p = short_kept process s in let a = h.1 in let b = h.2 in
      rw (or_none (whole_if id), or_none (whole_if after), head_kept key.Id id, head_kept key.After after, id_kept id, p, a, b) refl
  asks_command process (command.Create kind.Oa name into) s h =
      let p = short_kept process s in let a = h.1 in let b = h.2 in
      rw (or_none (whole_if id), or_none (whole_if after), head_kept key.Id id, head_kept key.After after, id_kept id, p, a, b) refl
  asks_command process (command.Create kind.Object name into) s h =
      let p = short_kept process s in let a = h.1 in let b = h.2 in
      rw (or_none (whole_if id), or_none (whole_if after), head_kept key.Id id, head_kept key.After after, id_kept id, p, a, b) refl
  asks_command process (command.Create kind.Pc name into) s h = absurd h.0
  asks_command process (command.Delete name) s h =
      let p = short_kept process s in
      rw (or_none (whole_if id), or_none (whole_if after), head_kept key.Id id, head_kept key.After after, id_kept id, p, h) refl
  asks_command process (command.Assign from to) s h =
      let p = short_kept process s in let a = h.0 in let b = h.1 in
      rw (or_none (whole_if id), or_none (whole_if after), head_kept key.Id id, head_kept key.After after, id_kept id, p, a, b) refl
  asks_command process (command.Deassign from to) s h =
      let p = short_kept process s in let a = h.0 in let b = h.1 in
      rw (or_none (whole_if id), or_none (whole_if after), head_kept key.Id id, head_kept key.After after, id_kept id, p, a, b) refl
  asks_command process (command.Associate ua rights at) s h =
      let p = short_kept process s in let a = h.0 in let r = rights_kept rights h.1 in let b = h.2 in
      rw (or_none (whole_if id), or_none (whole_if after), head_kept key.Id id, head_kept key.After after, id_kept id, p, a, r, b) refl
  asks_command process (command.Dissociate ua at) s h =
      let p = short_kept process s in let a = h.0 in let b = h.1 in
      rw (or_none (whole_if id), or_none (whole_if after), head_kept key.Id id, head_kept key.After after, id_kept id, p, a, b) refl
  asks_command process (command.Prohibit name subject rights inc exc mode) s h =
      let p = short_kept process s in let a = h.named in let u = subject_kept subject h.subject_is in let r = rights_kept rights h.rights_are in let i = names_kept inc h.included in let e = names_kept exc h.excluded in let both = le-leb (length inc + length exc) 32 h.few in let m = mode_kept mode in
      rw (or_none (whole_if id), or_none (whole_if after), head_kept key.Id id, head_kept key.After after, id_kept id, p, a, u, r, i, e, both, m) refl
  asks_command process (command.Lift name) s h =
      let p = short_kept process s in
      rw (or_none (whole_if id), or_none (whole_if after), head_kept key.Id id, head_kept key.After after, id_kept id, p, h) refl
  asks_command process (command.DefineRight name) s h =
      let p = short_kept process s in
      rw (or_none (whole_if id), or_none (whole_if after), head_kept key.Id id, head_kept key.After after, id_kept id, p, h) refl
  asks_command process (command.Oblige name when response) s h =
      let p = short_kept process s in let a = h.0 in let b = when_kept when h.1 in let r = actions_kept response h.2 in
      rw (or_none (whole_if id), or_none (whole_if after), head_kept key.Id id, head_kept key.After after, id_kept id, p, a, b, r) refl
  asks_command process (command.Withdraw name) s h =
      let p = short_kept process s in
      rw (or_none (whole_if id), or_none (whole_if after), head_kept key.Id id, head_kept key.After after, id_kept id, p, h) refl
  asks_command process (command.Keep (of.Caps name)) s h =
      let p = short_kept process s in
      rw (or_none (whole_if id), or_none (whole_if after), head_kept key.Id id, head_kept key.After after, id_kept id, p, h) refl
  asks_command process (command.Keep (of.Entries name)) s h =
      let p = short_kept process s in
      rw (or_none (whole_if id), or_none (whole_if after), head_kept key.Id id, head_kept key.After after, id_kept id, p, h) refl
  asks_command process (command.DropReview review) s h =
      let p = short_kept process s in let r = short_kept review h in
      rw (or_none (whole_if id), or_none (whole_if after), head_kept key.Id id, head_kept key.After after, id_kept id, p, r) refl

  asks_question : (process : ℕ) (q : Question) → IsShort process → IsQuestion q → Asks (body.Review process q)
  unfolding key_text word_text
  asks_question process (question.Caps user) s h =
      let p = short_kept process s in
      rw (or_none (whole_if id), or_none (whole_if after), head_kept key.Id id, head_kept key.After after, id_kept id, p, h) refl
  asks_question process (question.Entries element) s h =
      let p = short_kept process s in
      rw (or_none (whole_if id), or_none (whole_if after), head_kept key.Id id, head_kept key.After after, id_kept id, p, h) refl
  asks_question process (question.Survey users) s h =
      let p = short_kept process s in let u = listed_kept users h in
      rw (or_none (whole_if id), or_none (whole_if after), head_kept key.Id id, head_kept key.After after, id_kept id, p, u) refl
  asks_question process (question.Kept review) s h =
      let p = short_kept process s in let r = short_kept review h in
      rw (or_none (whole_if id), or_none (whole_if after), head_kept key.Id id, head_kept key.After after, id_kept id, p, r) refl
  asks_question process (question.Changes review) s h =
      let p = short_kept process s in let r = short_kept review h in
      rw (or_none (whole_if id), or_none (whole_if after), head_kept key.Id id, head_kept key.After after, id_kept id, p, r) refl

  asks : (b : Body) → IsBody b → Asks b
  unfolding key_text word_text
  asks body.Version h = rw (or_none (whole_if id), or_none (whole_if after), head_kept key.Id id, head_kept key.After after, id_kept id) refl
  asks (body.OpenSession user) h = rw (or_none (whole_if id), or_none (whole_if after), head_kept key.Id id, head_kept key.After after, id_kept id, h) refl
  asks (body.CloseSession session) h =
      let n = short_kept session h in
      rw (or_none (whole_if id), or_none (whole_if after), head_kept key.Id id, head_kept key.After after, id_kept id, n) refl
  asks (body.StartProcess session) h =
      let n = short_kept session h in
      rw (or_none (whole_if id), or_none (whole_if after), head_kept key.Id id, head_kept key.After after, id_kept id, n) refl
  asks (body.EndProcess process) h =
      let n = short_kept process h in
      rw (or_none (whole_if id), or_none (whole_if after), head_kept key.Id id, head_kept key.After after, id_kept id, n) refl
  asks (body.Access process right target) h =
      let p = short_kept process h.0 in let a = h.1 in let b = h.2 in
      rw (or_none (whole_if id), or_none (whole_if after), head_kept key.Id id, head_kept key.After after, id_kept id, p, a, b) refl
  asks (body.Admin process c) h = asks_command process c h.0 h.1
  asks (body.Review process q) h = asks_question process q h.0 h.1

-- ---- the members are fair

utf8_name : (name : List ℕ) → IsNamed name → IsUtf8 name
utf8_name name h = IsUtf8-are_ascii name (ascii_plain name (plain-name name h))

in_name : (m : ℕ) (name : List ℕ) → IsNamed name → ValueIn m (texted name)
in_name m name h = (utf8_name name h, omega arith)

in_name_if : (m : ℕ) (name : Option (List ℕ)) → IfSome name IsNamed → ValueIn m (name_if name)
in_name_if m None h = tt
in_name_if m (Some name) h = in_name m name h

in_said : (m : ℕ) (w : Word) → ValueIn m (said w)
in_said m w = in_name m (word_text w) (word_name w)

in_whole : (n : Option ℕ) → IsWholeIf n → ValueIn 100 (whole_if n)
in_whole None h = tt
in_whole (Some n) h = (h, omega arith)

wide : (n : ℕ) → n < 2 ^ 32 → n < 2 ^ 64
wide n h = omega (arith, h)

in_short : (n : ℕ) → IsShort n → ValueIn 100 (whole n)
in_short n h = (wide n h, omega arith)

-- lists of what is fair and no deeper than this
module _ {A : Type 0} (told : A → Data) (P : A → Type 0) (k : ℕ) (fair : (a : A) → P a → IsFair (told a)) (shallow : (a : A) → P a → depth (told a) ≤ k) where
  items_fair : (xs : List A) → Each P xs → ItemsFair (items_of (map told xs))
  items_fair [] h = tt
  items_fair (x ∷ xs) h = (fair x h.0, items_fair xs h.1)

  items_shallow : (xs : List A) → Each P xs → items_depth (items_of (map told xs)) ≤ k
  items_shallow [] h = omega arith
  items_shallow (x ∷ xs) h = let here = shallow x h.0 in let rest = items_shallow xs h.1 in omega (arith, here, rest)

  in_list : (m : ℕ) (xs : List A) → Each P xs → k < m → ValueIn m (Some (listed (map told xs)))
  in_list m xs h below = let s = items_shallow xs h in (items_fair xs h, omega (arith, s, below))

in_names : (m : ℕ) (names : List (List ℕ)) → AreNamed names → 0 < m → ValueIn m (names_told names)
in_names m names h below = in_list name_told IsNamed 0 utf8_name (λ name n. omega arith) m names h below

-- ---- terms, subjects and patterns

utf8_term : (t : Term) → IsTerm t → IsUtf8 (term_text t)
unfolding term_text
utf8_term (Named name) h = utf8_name name h
utf8_term EventUser h = IsUtf8-are_ascii (codes "$user") refl
utf8_term EventTarget h = IsUtf8-are_ascii (codes "$target") refl
utf8_term Fresh h = absurd h

utf8_given : (t : Term) → IsGiven t → IsUtf8 (term_text t)
unfolding term_text
utf8_given (Named name) h = utf8_name name h
utf8_given EventUser h = absurd h
utf8_given EventTarget h = absurd h
utf8_given Fresh h = IsUtf8-are_ascii (codes "$fresh") refl

in_term : (t : Term) → IsTerm t → ValueIn 2 (Some (term_told t))
in_term t h = (utf8_term t h, omega arith)

in_given : (t : Term) → IsGiven t → ValueIn 2 (Some (term_told t))
in_given t h = (utf8_given t h, omega arith)

in_terms : (terms : List Term) → Each IsTerm terms → ValueIn 2 (terms_told terms)
in_terms terms h = in_list term_told IsTerm 0 utf8_term (λ t n. omega arith) 2 terms h (omega arith)

utf8_key : (k : Key) → IsUtf8 (key_text k)
utf8_key k = utf8_name (key_text k) (key_name k)

fair_process : (p : ProcessTerm) → IsProcessTerm p → IsFair (process_told p)
unfolding event_process_text
fair_process (Number n) h = wide n h
fair_process EventProcess h = IsUtf8-are_ascii (codes "$process") refl

flat_process : (p : ProcessTerm) → depth (process_told p) ≤ 0
flat_process (Number n) = omega arith
flat_process EventProcess = omega arith

in_subject : (s : Subject (List ℕ) ℕ) → IsSubject IsNamed IsShort s → ValueIn 100 (Some (subject_told s))
in_subject (User name) h = ((utf8_key key.User, utf8_name name h, refl, tt), omega arith)
in_subject (Ua name) h = ((utf8_key key.Ua, utf8_name name h, refl, tt), omega arith)
in_subject (Process n) h = ((utf8_key key.Process, wide n h, refl, tt), omega arith)

in_term_subject : (s : Subject Term ProcessTerm) → IsSubject IsTerm IsProcessTerm s → ValueIn 2 (Some (term_subject_told s))
in_term_subject (User t) h = ((utf8_key key.User, utf8_term t h, refl, tt), omega arith)
in_term_subject (Ua t) h = ((utf8_key key.Ua, utf8_term t h, refl, tt), omega arith)
in_term_subject (Process p) h = let flat = flat_process p in ((utf8_key key.Process, fair_process p h, refl, tt), omega (arith, flat))

when_ordered : (w : When) → in_order (when_fields w) ≡ true
unfolding key_text
when_ordered w = refl

in_when : (w : When) → IsWhen w → ValueIn 100 (Some (when_told w))
in_when w h =
    let values : ValuesIn 0 (when_fields w) = (in_name 0 w.on h.on_named, (in_name_if 0 w.target h.target_named, (in_name_if 0 w.user h.user_named, tt))) in
    let flat = shallow-in 0 (when_fields w) values in
    (MembersFair-in 0 (when_fields w) (when_ordered w) values, omega (arith, flat))

-- ---- actions

utf8_within : (within : Bool) → IsUtf8 (within_text within)
unfolding within_text
utf8_within true = IsUtf8-are_ascii (codes "in") refl
utf8_within false = IsUtf8-are_ascii (codes "not_in") refl

fair_guard : (g : Guard) → IsGuard g → IsFair (guard_told g)
fair_guard g h = (utf8_within g.within, (utf8_term g.inner h.0, (utf8_term g.outer h.1, tt)))

in_guards : (guards : List Guard) → Each IsGuard guards → ValueIn 2 (guards_told guards)
in_guards [] h = tt
in_guards (g ∷ gs) h = let there = some_there g gs in rw there (in_list guard_told IsGuard 1 fair_guard (λ guard n. omega arith) 2 (g ∷ gs) h (omega arith))

module _ (guards : List Guard) (g : Each IsGuard guards) where
  abbrev fields_of : Act → List (List ℕ × Option Data)
  fields_of a = action_fields (record { guards = guards; act = a })

  act_ordered : (a : Act) → in_order (fields_of a) ≡ true
  unfolding key_text
  act_ordered (act.Create k name into) = refl
  act_ordered (act.Delete name) = refl
  act_ordered (act.Assign from to) = refl
  act_ordered (act.Deassign from to) = refl
  act_ordered (act.Associate ua rights at) = refl
  act_ordered (act.Dissociate ua at) = refl
  act_ordered (act.Prohibit name subject rights inc exc mode) = refl
  act_ordered (act.Lift name) = refl

  act_fair : (a : Act) → IsAct AreRights a → ValuesIn 2 (fields_of a)
  act_fair (act.Create k name into) h =
      (tt, (in_said 2 (word_to_create k), (in_guards guards g, (in_term into h.2, (in_given name h.1, tt)))))
  act_fair (act.Delete name) h =
      (tt, (in_said 2 word.Delete, (in_guards guards g, (in_term name h, tt))))
  act_fair (act.Assign from to) h =
      (tt, (in_said 2 word.Assign, (in_term from h.0, (in_guards guards g, (in_term to h.1, tt)))))
  act_fair (act.Deassign from to) h =
      (tt, (in_said 2 word.Deassign, (in_term from h.0, (in_guards guards g, (in_term to h.1, tt)))))
  act_fair (act.Associate ua rights at) h =
      (in_term at h.2, (in_said 2 word.Associate, (in_guards guards g, (in_names 2 rights h.1.listed.named (omega arith), (in_term ua h.0, tt)))))
  act_fair (act.Dissociate ua at) h =
      (in_term at h.1, (in_said 2 word.Dissociate, (in_guards guards g, (in_term ua h.0, tt))))
  act_fair (act.Prohibit name subject rights inc exc mode) h =
      (tt, (in_said 2 word.Prohibit, (in_terms exc h.excluded, (in_guards guards g, (in_terms inc h.included, (in_said 2 (mode_word mode), (in_given name h.given, (in_names 2 rights h.rights_are.listed.named (omega arith), (in_term_subject subject h.subject_is, tt)))))))))
  act_fair (act.Lift name) h =
      (tt, (in_said 2 word.Lift, (in_guards guards g, (in_name 2 name h, tt))))

fair_action : (a : Action) → IsAction AreRights a → IsFair (action_told a)
fair_action a h = MembersFair-in 2 (action_fields a) (act_ordered a.guards h.guarded a.act) (act_fair a.guards h.guarded a.act h.acts)

shallow_action : (a : Action) → IsAction AreRights a → depth (action_told a) ≤ 3
shallow_action a h = let s = shallow-in 2 (action_fields a) (act_fair a.guards h.guarded a.act h.acts) in omega (arith, s)

in_actions : (actions : List Action) → AreActions actions → ValueIn 100 (actions_told actions)
in_actions actions h = in_list action_told (IsAction AreRights) 3 fair_action shallow_action 100 actions h.each (omega arith)

-- ---- requests

module _ (id after : Option ℕ) (i : IsWholeIf id) (v : IsWholeIf after) where
  command_ordered : (process : ℕ) (c : Command) → in_order (request_fields id (of_body id after (body.Admin process c))) ≡ true
  unfolding key_text
  command_ordered process (command.CreatePc name) = refl
  command_ordered process (command.Create k name into) = refl
  command_ordered process (command.Delete name) = refl
  command_ordered process (command.Assign from to) = refl
  command_ordered process (command.Deassign from to) = refl
  command_ordered process (command.Associate ua rights at) = refl
  command_ordered process (command.Dissociate ua at) = refl
  command_ordered process (command.Prohibit name subject rights inc exc mode) = refl
  command_ordered process (command.Lift name) = refl
  command_ordered process (command.DefineRight name) = refl
  command_ordered process (command.Oblige name when response) = refl
  command_ordered process (command.Withdraw name) = refl
  command_ordered process (command.Keep (of.Caps name)) = refl
  command_ordered process (command.Keep (of.Entries name)) = refl
  command_ordered process (command.DropReview review) = refl

  ordered : (b : Body) → in_order (request_fields id (of_body id after b)) ≡ true
  unfolding key_text
  ordered body.Version = refl
  ordered (body.OpenSession user) = refl
  ordered (body.CloseSession session) = refl
  ordered (body.StartProcess session) = refl
  ordered (body.EndProcess process) = refl
  ordered (body.Access process right target) = refl
  ordered (body.Admin process c) = command_ordered process c
  ordered (body.Review process (question.Caps user)) = refl
  ordered (body.Review process (question.Entries element)) = refl
  ordered (body.Review process (question.Survey users)) = refl
  ordered (body.Review process (question.Kept review)) = refl
  ordered (body.Review process (question.Changes review)) = refl

  named_fair : (w : Word) (process : ℕ) (name : List ℕ) → IsShort process → IsNamed name →
      ValuesIn 100 ((key_text key.After, whole_if after) ∷ (key_text key.At, None) ∷ (key_text key.Cmd, said w) ∷ named_back id process name)
  named_fair w process name s h = (in_whole after v, (tt, (in_said 100 w, (in_whole id i, (in_name 100 name h, (in_short process s, tt))))))

  ends_fair : (w : Word) (process : ℕ) (from to : List ℕ) → IsShort process → IsNamed from → IsNamed to →
      ValuesIn 100 ((key_text key.After, whole_if after) ∷ (key_text key.At, None) ∷ (key_text key.Cmd, said w) ∷ ends_back id process from to)
  ends_fair w process from to s f t = (in_whole after v, (tt, (in_said 100 w, (in_name 100 from f, (in_whole id i, (in_short process s, (in_name 100 to t, tt)))))))

  review_fair : (w : Word) (process review : ℕ) → IsShort process → IsShort review →
      ValuesIn 100 ((key_text key.After, whole_if after) ∷ (key_text key.At, None) ∷ (key_text key.Cmd, said w) ∷ review_back id process review)
  review_fair w process review s r = (in_whole after v, (tt, (in_said 100 w, (in_whole id i, (in_short process s, (in_short review r, tt))))))

  command_fair : (process : ℕ) (c : Command) → IsShort process → IsCommand c → ValuesIn 100 (request_fields id (of_body id after (body.Admin process c)))
  command_fair process (command.CreatePc name) s h = named_fair word.CreatePc process name s h
  command_fair process (command.Create k name into) s h =
      (in_whole after v, (tt, (in_said 100 (word_to_create k), (in_whole id i, (in_name 100 into h.2, (in_name 100 name h.1, (in_short process s, tt)))))))
  command_fair process (command.Delete name) s h = named_fair word.Delete process name s h
  command_fair process (command.Assign from to) s h = ends_fair word.Assign process from to s h.0 h.1
  command_fair process (command.Deassign from to) s h = ends_fair word.Deassign process from to s h.0 h.1
  command_fair process (command.Associate ua rights at) s h =
      (in_whole after v, (in_name 100 at h.2, (in_said 100 word.Associate, (in_whole id i, (in_short process s, (in_names 100 rights h.1.listed.named (omega arith), (in_name 100 ua h.0, tt)))))))
  command_fair process (command.Dissociate ua at) s h =
      (in_whole after v, (in_name 100 at h.1, (in_said 100 word.Dissociate, (in_whole id i, (in_short process s, (in_name 100 ua h.0, tt))))))
  command_fair process (command.Prohibit name subject rights inc exc mode) s h =
      (in_whole after v, (tt, (in_said 100 word.Prohibit, (in_names 100 exc h.excluded (omega arith), (in_whole id i, (in_names 100 inc h.included (omega arith), (in_said 100 (mode_word mode), (in_name 100 name h.named, (in_short process s, (in_names 100 rights h.rights_are.listed.named (omega arith), (in_subject subject h.subject_is, tt)))))))))))
  command_fair process (command.Lift name) s h = named_fair word.Lift process name s h
  command_fair process (command.DefineRight name) s h = named_fair word.DefineRight process name s h
  command_fair process (command.Oblige name when response) s h =
      (in_whole after v, (tt, (in_said 100 word.Oblige, (in_actions response h.2, (in_whole id i, (in_name 100 name h.0, (in_short process s, (in_when when h.1, tt))))))))
  command_fair process (command.Withdraw name) s h = named_fair word.Withdraw process name s h
  command_fair process (command.Keep (of.Caps name)) s h =
      (in_whole after v, (tt, (in_said 100 word.Keep, (in_whole id i, (in_said 100 word.Caps, (in_name 100 name h, (in_short process s, tt)))))))
  command_fair process (command.Keep (of.Entries name)) s h =
      (in_whole after v, (tt, (in_said 100 word.Keep, (in_whole id i, (in_said 100 word.Entries, (in_name 100 name h, (in_short process s, tt)))))))
  command_fair process (command.DropReview review) s h = review_fair word.DropReview process review s h

  body_fair : (b : Body) → IsBody b → ValuesIn 100 (request_fields id (of_body id after b))
  body_fair body.Version h =
      (in_whole after v, (tt, (in_said 100 word.Version, (in_whole id i, tt))))
  body_fair (body.OpenSession user) h =
      (in_whole after v, (tt, (in_said 100 word.OpenSession, (in_whole id i, (in_name 100 user h, tt)))))
  body_fair (body.CloseSession session) h =
      (in_whole after v, (tt, (in_said 100 word.CloseSession, (in_whole id i, (in_short session h, tt)))))
  body_fair (body.StartProcess session) h =
      (in_whole after v, (tt, (in_said 100 word.StartProcess, (in_whole id i, (in_short session h, tt)))))
  body_fair (body.EndProcess process) h =
      (in_whole after v, (tt, (in_said 100 word.EndProcess, (in_whole id i, (in_short process h, tt)))))
  body_fair (body.Access process right target) h =
      (in_whole after v, (tt, (in_said 100 word.Access, (in_whole id i, (in_short process h.0, (in_name 100 right h.1, (in_name 100 target h.2, tt)))))))
  body_fair (body.Admin process c) h = command_fair process c h.0 h.1
  body_fair (body.Review process (question.Caps user)) h =
      (in_whole after v, (tt, (in_said 100 word.Caps, (in_whole id i, (in_short process h.0, (in_name 100 user h.1, tt))))))
  body_fair (body.Review process (question.Entries element)) h =
      (in_whole after v, (tt, (in_said 100 word.Entries, (in_name 100 element h.1, (in_whole id i, (in_short process h.0, tt))))))
  body_fair (body.Review process (question.Survey users)) h =
      (in_whole after v, (tt, (in_said 100 word.Survey, (in_whole id i, (in_short process h.0, (in_names 100 users h.1.named (omega arith), tt))))))
  body_fair (body.Review process (question.Kept review)) h = review_fair word.Kept process review h.0 h.1
  body_fair (body.Review process (question.Changes review)) h = review_fair word.Changes process review h.0 h.1

-- ---- the whole line

asked_text : (b : Bool) (o : Option Data) (d : Data) → b ≡ true → o ≡ Some d → asked_of (if b then o else None) ≡ asked_by (looking d)
asked_text b o d t e = rw (t, e) refl

-- what was printed, without its line feed, asks for the request
pub printed_is_asked : (id : Option ℕ) (request : Request) (line : List ℕ) → IsWholeIf id → IsAskable request →
    request_text id request ≡ line ++ codes "\n" → asked line ≡ asking id request
printed_is_asked id request line i h e =
    let fields = request_fields id request in
    let d = object (present fields) in
    let values : ValuesIn 100 fields = body_fair id request.after i h.after_fits request.body h.asks in
    let fair : IsFair d = MembersFair-in 100 fields (ordered id request.after i h.after_fits request.body) values in
    let s = shallow-in 100 fields values in
    let same : compact_text d ≡ line = cut_feed (compact_text d) line e in
    let shallow : depth d ≤ max_depth = omega (arith, s) in
    let text : IsUtf8 line = subst IsUtf8 same (IsUtf8-compact d fair) in
    let found : read line ≡ Some d = ap read (sym same) ∙ read-compact d fair shallow in
    asked_text (is_utf8 line) (read line) d (is_utf8-from_IsUtf8 line text) found
    ∙ ap asked_by (looks fields)
    ∙ asks id request.after request.body h.asks
