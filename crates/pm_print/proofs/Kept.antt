-- What is told of a subject, a list, a pattern or an action is read as that.
use Rattle.std.proofs.Common.{◌≡◌, ◌≤◌, ◌^◌, ◌+◌, ◌==◌, ℕ, List, [], ◌∷◌, Bool, true, false, nat_lt, nat_le, length, map, bytes_eq, Option, None, Some, IfSome, option_and_then, option_map, codes, refl, ap, ap₂, ◌∙◌, lt-ltb, le-leb, ne_eqb, arith, inl, inr}
use Rattle.std.proofs.lemmas.Bool.{and_from, cases_Bool}
use Rattle.std.proofs.lemmas.Slice.Eq.{bytes_eq-Decides}
use Rattle.serde_json.specs.Data.{Data}
use Rattle.pm_model.specs.Actions.{response_refusal}
use Rattle.pm_model.specs.Formed.{Each}
use Rattle.pm_model.specs.Forms.{distinct, if_some_few, list_of, listed_form, mode_of, name_form, names_of, rights_form, subject_form}
use Rattle.pm_model.specs.Name.{is_name}
use Rattle.pm_model.specs.Object.{items_of, listed}
use Rattle.pm_model.specs.ResponseForms.{act_as_set, action_by, action_form, as_set, do_form, given_form, guard_form, guards_if, if_allowed, process_form, term_form, when_by, when_form}
use Rattle.pm_model.specs.Words.{key_text, word_text}
use Rattle.pm_model.specs.declared.actions.Act.{Act}
use Rattle.pm_model.specs.declared.actions.Act.TheVariants.{Create, Delete, Assign, Deassign, Associate, Dissociate, Prohibit, Lift}
use Rattle.pm_model.specs.declared.actions.Action.{Action}
use Rattle.pm_model.specs.declared.actions.Guard.{Guard}
use Rattle.pm_model.specs.declared.actions.ProcessTerm.{ProcessTerm}
use Rattle.pm_model.specs.declared.actions.ProcessTerm.TheVariants.{Number, EventProcess}
use Rattle.pm_model.specs.declared.actions.Term.{Term}
use Rattle.pm_model.specs.declared.actions.Term.TheVariants.{Named, EventUser, EventTarget, Fresh}
use Rattle.pm_model.specs.declared.elements.Kind.{Kind}
use Rattle.pm_model.specs.declared.elements.Kind.TheVariants as kind
use Rattle.pm_model.specs.declared.events.When.{When}
use Rattle.pm_model.specs.declared.prohibitions.Mode.{Mode}
use Rattle.pm_model.specs.declared.prohibitions.Mode.TheVariants.{All, Any}
use Rattle.pm_model.specs.declared.prohibitions.Subject.{Subject}
use Rattle.pm_model.specs.declared.prohibitions.Subject.TheVariants.{User, Ua, Process}
use Rattle.pm_print.specs.Actions.{action_fields, action_told, guard_told, guards_told, mode_word, name_told, process_told, subject_told, term_text, term_told, when_fields, when_told, within_text, event_process_text}
use Rattle.pm_print.specs.Askable.{AreActions, AreBars, AreListed, AreNamed, AreRights, IsAct, IsAction, IsGiven, IsGuard, IsNamed, IsProcessTerm, IsShort, IsSubject, IsTerm, IsWhen}
use Rattle.pm_print.proofs.Fields.{finding, looks, or_none}

-- ---- lists

pub list_kept : {A : Type 0} (form : Data → Option A) (told : A → Data) (P : A → Type 0) → ((a : A) → P a → form (told a) ≡ Some a) →
    (xs : List A) → Each P xs → list_of form (items_of (map told xs)) ≡ Some xs
list_kept form told P kept [] h = refl
list_kept form told P kept (x ∷ xs) h = let here = kept x h.0 in let rest = list_kept form told P kept xs h.1 in rw (here, rest) refl

name_kept : (name : List ℕ) → IsNamed name → name_form (name_told name) ≡ Some name
name_kept name h = rw h refl

pub names_kept : (names : List (List ℕ)) → AreNamed names → names_of (items_of (map name_told names)) ≡ Some names
names_kept names h = list_kept name_form name_told IsNamed name_kept names h

pub listed_kept : (names : List (List ℕ)) → AreListed names → listed_form (listed (map name_told names)) ≡ Some names
listed_kept names h =
    let kept = names_kept names h.named in
    let few = and_from (nat_lt 0 (length names)) (nat_le (length names) 32) (lt-ltb 0 (length names) h.some) (le-leb (length names) 32 h.few) in
    ap (option_and_then if_some_few) kept ∙ rw few refl

pub rights_kept : (rights : List (List ℕ)) → AreRights rights → rights_form (listed (map name_told rights)) ≡ Some rights
rights_kept rights h = ap (option_map distinct) (listed_kept rights h.listed) ∙ ap Some h.once

-- ---- terms

-- a name is none of the words
other_word : (name w : List ℕ) → IsNamed name → is_name w ≡ false → bytes_eq name w ≡ false
other_word name w h none = elim (cases_Bool (bytes_eq name w)) [
  | inl same ↦ let e = ap is_name ((bytes_eq-Decides name w).0 same) in absurd cc
  | inr differ ↦ differ
]

pub term_kept : (t : Term) → IsTerm t → term_form (term_told t) ≡ Some t
unfolding term_text
term_kept (Named name) h =
    let user = other_word name (codes "$user") h refl in
    let target = other_word name (codes "$target") h refl in
    rw (user, target, h) refl
term_kept EventUser h = refl
term_kept EventTarget h = refl
term_kept Fresh h = absurd h

given_kept : (t : Term) → IsGiven t → given_form (term_told t) ≡ Some t
unfolding term_text
given_kept (Named name) h = let fresh = other_word name (codes "$fresh") h refl in rw (fresh, h) refl
given_kept EventUser h = absurd h
given_kept EventTarget h = absurd h
given_kept Fresh h = refl

process_kept : (p : ProcessTerm) → IsProcessTerm p → process_form (process_told p) ≡ Some p
unfolding event_process_text
process_kept (Number n) h = let short = lt-ltb n (2 ^ 32) h in rw short refl
process_kept EventProcess h = refl

pub short_kept : (n : ℕ) → IsShort n → nat_lt n (2 ^ 32) ≡ true
short_kept n h = lt-ltb n (2 ^ 32) h

-- ---- subjects, modes and patterns

pub subject_kept : (s : Subject (List ℕ) ℕ) → IsSubject IsNamed IsShort s → subject_form (subject_told s) ≡ Some s
unfolding key_text
subject_kept (User name) h = rw h refl
subject_kept (Ua name) h = rw h refl
subject_kept (Process n) h = let short = short_kept n h in rw short refl

pub mode_kept : (m : Mode) → mode_of (word_text (mode_word m)) ≡ Some m
unfolding word_text
mode_kept All = refl
mode_kept Any = refl

when_found : (on : List ℕ) (user target : Option (List ℕ)) → IsNamed on → IfSome user IsNamed → IfSome target IsNamed →
    when_by (finding (when_fields (record { on = on; user = user; target = target }))) ≡ Some (record { on = on; user = user; target = target })
unfolding key_text
when_found on None None o u t = rw o refl
when_found on None (Some target) o u t = rw (o, t) refl
when_found on (Some user) None o u t = rw (o, u) refl
when_found on (Some user) (Some target) o u t = rw (o, u, t) refl

pub when_kept : (w : When) → IsWhen w → when_form (when_told w) ≡ Some w
when_kept w h = ap when_by (looks (when_fields w)) ∙ when_found w.on w.user w.target h.on_named h.user_named h.target_named

-- ---- guards

guard_by : (within : Bool) (inner outer : Term) → IsTerm inner → IsTerm outer →
    guard_form (guard_told (record { within = within; inner = inner; outer = outer })) ≡ Some (record { within = within; inner = inner; outer = outer })
unfolding within_text
guard_by true inner outer i o = let a = term_kept inner i in let b = term_kept outer o in rw (a, b) refl
guard_by false inner outer i o = let a = term_kept inner i in let b = term_kept outer o in rw (a, b) refl

guard_kept : (g : Guard) → IsGuard g → guard_form (guard_told g) ≡ Some g
guard_kept g h = guard_by g.within g.inner g.outer h.0 h.1

pub some_there : {A : Type 0} (x : A) (xs : List A) → (length (x ∷ xs) == 0) ≡ false
some_there x xs = ne_eqb (length (x ∷ xs)) 0 (λ e. omega (arith, e))

guards_kept : (guards : List Guard) → Each IsGuard guards → length guards ≤ 4 → guards_if (guards_told guards) ≡ Some guards
guards_kept [] h few = refl
guards_kept (g ∷ gs) h few =
    let kept = list_kept guard_form guard_told IsGuard guard_kept (g ∷ gs) h in
    let short = le-leb (length (g ∷ gs)) 4 few in
    let there = some_there g gs in
    rw (there, kept, short) refl

-- ---- actions

terms_kept : (terms : List Term) → Each IsTerm terms → list_of term_form (items_of (map term_told terms)) ≡ Some terms
terms_kept terms h = list_kept term_form term_told IsTerm term_kept terms h

module _ (guards : List Guard) (g : Each IsGuard guards) (few : length guards ≤ 4) where
  abbrev of_act : Act → Action
  of_act a = record { guards = guards; act = a }

  abbrev Found : Act → Type 0
  Found a = action_by (finding (action_fields (of_act a))) ≡ Some (of_act a)

  found_creation : (k : Kind) (name into : Term) → IsAct AreRights (Create k name into) → Found (Create k name into)
  unfolding key_text word_text
  found_creation kind.User name into h =
      let gs = guards_kept guards g few in let a = given_kept name h.1 in let b = term_kept into h.2 in rw (or_none (guards_told guards), gs, a, b) refl
  found_creation kind.Ua name into h =
      let gs = guards_kept guards g few in let a = given_kept name h.1 in let b = term_kept into h.2 in rw (or_none (guards_told guards), gs, a, b) refl
  found_creation kind.Oa name into h =
      let gs = guards_kept guards g few in let a = given_kept name h.1 in let b = term_kept into h.2 in rw (or_none (guards_told guards), gs, a, b) refl
  found_creation kind.Object name into h =
      let gs = guards_kept guards g few in let a = given_kept name h.1 in let b = term_kept into h.2 in rw (or_none (guards_told guards), gs, a, b) refl
  found_creation kind.Pc name into h = absurd h.0

  found_bars : (subject : Subject Term ProcessTerm) (name : Term) (rights : List (List ℕ)) (inc exc : List Term) (mode : Mode) →
      AreBars AreRights name subject rights inc exc → Found (Prohibit name subject rights inc exc mode)
  unfolding key_text word_text
  found_bars (User u) name rights inc exc mode h =
      let gs = guards_kept guards g few in let a = given_kept name h.given in let s = term_kept u h.subject_is in
      let r = listed_kept rights h.rights_are.listed in let i = terms_kept inc h.included in let e = terms_kept exc h.excluded in
      let both = le-leb (length inc + length exc) 32 h.few in let m = mode_kept mode in
      rw (or_none (guards_told guards), gs, a, s, r, i, e, both, m) refl
  found_bars (Ua u) name rights inc exc mode h =
      let gs = guards_kept guards g few in let a = given_kept name h.given in let s = term_kept u h.subject_is in
      let r = listed_kept rights h.rights_are.listed in let i = terms_kept inc h.included in let e = terms_kept exc h.excluded in
      let both = le-leb (length inc + length exc) 32 h.few in let m = mode_kept mode in
      rw (or_none (guards_told guards), gs, a, s, r, i, e, both, m) refl
  found_bars (Process p) name rights inc exc mode h =
      let gs = guards_kept guards g few in let a = given_kept name h.given in let s = process_kept p h.subject_is in
      let r = listed_kept rights h.rights_are.listed in let i = terms_kept inc h.included in let e = terms_kept exc h.excluded in
      let both = le-leb (length inc + length exc) 32 h.few in let m = mode_kept mode in
      rw (or_none (guards_told guards), gs, a, s, r, i, e, both, m) refl

  found : (a : Act) → IsAct AreRights a → Found a
  unfolding key_text word_text
  found (Create k name into) h = found_creation k name into h
  found (Delete name) h = let gs = guards_kept guards g few in let a = term_kept name h in rw (or_none (guards_told guards), gs, a) refl
  found (Assign from to) h =
      let gs = guards_kept guards g few in let a = term_kept from h.0 in let b = term_kept to h.1 in rw (or_none (guards_told guards), gs, a, b) refl
  found (Deassign from to) h =
      let gs = guards_kept guards g few in let a = term_kept from h.0 in let b = term_kept to h.1 in rw (or_none (guards_told guards), gs, a, b) refl
  found (Associate ua rights at) h =
      let gs = guards_kept guards g few in let a = term_kept ua h.0 in let r = listed_kept rights h.1.listed in let b = term_kept at h.2 in
      rw (or_none (guards_told guards), gs, a, r, b) refl
  found (Dissociate ua at) h =
      let gs = guards_kept guards g few in let a = term_kept ua h.0 in let b = term_kept at h.1 in rw (or_none (guards_told guards), gs, a, b) refl
  found (Prohibit name subject rights inc exc mode) h = found_bars subject name rights inc exc mode h
  found (Lift name) h = let gs = guards_kept guards g few in rw (or_none (guards_told guards), gs, h) refl

action_kept : (a : Action) → IsAction AreRights a → action_form (action_told a) ≡ Some a
action_kept a h = ap action_by (looks (action_fields a)) ∙ found a.guards h.guarded h.few a.act h.acts

-- ---- responses

set_kept : (a : Act) → IsAct AreRights a → act_as_set a ≡ a
set_kept (Create k name into) h = refl
set_kept (Delete name) h = refl
set_kept (Assign from to) h = refl
set_kept (Deassign from to) h = refl
set_kept (Associate ua rights at) h = ap (λ r. Associate ua r at) h.1.once
set_kept (Dissociate ua at) h = refl
set_kept (Prohibit name subject rights inc exc mode) h = ap (λ r. Prohibit name subject r inc exc mode) h.rights_are.once
set_kept (Lift name) h = refl

sets_kept : (actions : List Action) → Each (IsAction AreRights) actions → map as_set actions ≡ actions
sets_kept [] h = refl
sets_kept (a ∷ rest) h =
    let act = set_kept a.act h.0.acts in
    let here : as_set a ≡ a = ap (λ (b : Act). record { guards = a.guards; act = b }) act in
    ap₂ (λ (b : Action) (bs : List Action). b ∷ bs) here (sets_kept rest h.1)

pub actions_kept : (actions : List Action) → AreActions actions → do_form (listed (map action_told actions)) ≡ Some actions
actions_kept actions h =
    let kept = list_kept action_form action_told (IsAction AreRights) action_kept actions h.each in
    let fits = h.fit in
    let same = sets_kept actions h.each in
    ap (option_and_then (λ (found : List Action). if_allowed (response_refusal found) found)) kept
    ∙ ap (λ o. if_allowed o actions) fits
    ∙ ap Some same
