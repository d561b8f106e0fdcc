-- What stands in a request's line for its subject, its lists, its pattern and its actions. The project's own.
use Rattle.std.specs.Prelude.{ℕ, List, [], ◌∷◌, ◌++◌, ◌==◌, Bool, true, false, if◌then◌else◌, codes, length, map, Option, None, Some, option_map}
use Rattle.serde_json.specs.Data.{Data, object, number, unsigned, string, no_members, member}
use Rattle.pm_model.specs.Events.{word_to_create}
use Rattle.pm_model.specs.Object.{listed, present, texted}
use Rattle.pm_model.specs.Text.{said}
use Rattle.pm_model.specs.Words.{key_text}
use Rattle.pm_model.specs.declared.words.Key.{Key}
use Rattle.pm_model.specs.declared.words.Key.TheVariants as key
use Rattle.pm_model.specs.declared.words.Word.{Word}
use Rattle.pm_model.specs.declared.words.Word.TheVariants as word
use Rattle.pm_model.specs.declared.actions.Act.{Act}
use Rattle.pm_model.specs.declared.actions.Act.TheVariants.{Create, Delete, Assign, Deassign, Associate, Dissociate, Prohibit, Lift}
use Rattle.pm_model.specs.declared.actions.Action.{Action}
use Rattle.pm_model.specs.declared.actions.Guard.{Guard}
use Rattle.pm_model.specs.declared.actions.ProcessTerm.{ProcessTerm}
use Rattle.pm_model.specs.declared.actions.ProcessTerm.TheVariants.{Number, EventProcess}
use Rattle.pm_model.specs.declared.actions.Term.{Term}
use Rattle.pm_model.specs.declared.actions.Term.TheVariants.{Named, EventUser, EventTarget, Fresh}
use Rattle.pm_model.specs.declared.events.When.{When}
use Rattle.pm_model.specs.declared.prohibitions.Mode.{Mode}
use Rattle.pm_model.specs.declared.prohibitions.Mode.TheVariants.{All, Any}
use Rattle.pm_model.specs.declared.prohibitions.Subject.{Subject}
use Rattle.pm_model.specs.declared.prohibitions.Subject.TheVariants.{User, Ua, Process}

-- ---- what stands for names

unfoldable pub term_text : Term → List ℕ
term_text (Named name) = name
term_text EventUser = codes "$user"
term_text EventTarget = codes "$target"
term_text Fresh = codes "$fresh"

unfoldable pub event_process_text : List ℕ
event_process_text = codes "$process"

abbrev pub name_told : List ℕ → Data
name_told name = string name

abbrev pub term_told : Term → Data
term_told t = string (term_text t)

abbrev pub process_told : ProcessTerm → Data
process_told (Number n) = number (unsigned n)
process_told EventProcess = string event_process_text

-- ---- subjects, modes and patterns

-- an object of one member
abbrev pub only : Key → Data → Data
only k d = object (member (key_text k) d no_members)

abbrev pub subject_told : Subject (List ℕ) ℕ → Data
subject_told (User name) = only key.User (string name)
subject_told (Ua name) = only key.Ua (string name)
subject_told (Process n) = only key.Process (number (unsigned n))

abbrev pub term_subject_told : Subject Term ProcessTerm → Data
term_subject_told (User t) = only key.User (term_told t)
term_subject_told (Ua t) = only key.Ua (term_told t)
term_subject_told (Process p) = only key.Process (process_told p)

abbrev pub mode_word : Mode → Word
mode_word All = word.All
mode_word Any = word.Any

abbrev pub name_if : Option (List ℕ) → Option Data
name_if name = option_map name_told name

-- the members behind `on`
abbrev pub when_back : When → List (List ℕ × Option Data)
when_back w = (key_text key.Target, name_if w.target) ∷ (key_text key.User, name_if w.user) ∷ []

abbrev pub when_fields : When → List (List ℕ × Option Data)
when_fields w = (key_text key.On, texted w.on) ∷ when_back w

abbrev pub when_told : When → Data
when_told w = object (present (when_fields w))

-- ---- lists

abbrev pub names_told : List (List ℕ) → Option Data
names_told names = Some (listed (map name_told names))

abbrev pub terms_told : List Term → Option Data
terms_told terms = Some (listed (map term_told terms))

unfoldable pub within_text : Bool → List ℕ
within_text true = codes "in"
within_text false = codes "not_in"

abbrev pub guard_told : Guard → Data
guard_told g = listed (string (within_text g.within) ∷ term_told g.inner ∷ term_told g.outer ∷ [])

-- the guards, where there are some
abbrev pub guards_told : List Guard → Option Data
guards_told guards = if length guards == 0 then None else Some (listed (map guard_told guards))

-- ---- actions

abbrev pub act_word : Act → Word
act_word (Create kind name into) = word_to_create kind
act_word (Delete name) = word.Delete
act_word (Assign from to) = word.Assign
act_word (Deassign from to) = word.Deassign
act_word (Associate ua rights at) = word.Associate
act_word (Dissociate ua at) = word.Dissociate
act_word (Prohibit name subject rights inc exc mode) = word.Prohibit
act_word (Lift name) = word.Lift

-- the member before `cmd`
abbrev pub act_at : Act → Option Data
act_at (Associate ua rights at) = Some (term_told at)
act_at (Dissociate ua at) = Some (term_told at)
act_at _ = None

-- the members behind `cmd`, the guards among them
abbrev pub act_ends : Option Data → Term → Term → List (List ℕ × Option Data)
act_ends guards from to = (key_text key.From, Some (term_told from)) ∷ (key_text key.If, guards) ∷ (key_text key.To, Some (term_told to)) ∷ []

abbrev pub act_sets : Option Data → List Term → List Term → Mode → List (List ℕ × Option Data)
act_sets guards inc exc mode =
    (key_text key.Exc, terms_told exc) ∷ (key_text key.If, guards) ∷ (key_text key.Inc, terms_told inc) ∷ (key_text key.Mode, said (mode_word mode)) ∷ []

abbrev pub act_barred : Term → List (List ℕ) → Subject Term ProcessTerm → List (List ℕ × Option Data)
act_barred name rights subject =
    (key_text key.Name, Some (term_told name)) ∷ (key_text key.Rights, names_told rights) ∷ (key_text key.Subject, Some (term_subject_told subject)) ∷ []

abbrev pub act_back : Option Data → Act → List (List ℕ × Option Data)
act_back guards (Create kind name into) =
    (key_text key.If, guards) ∷ (key_text key.Into, Some (term_told into)) ∷ (key_text key.Name, Some (term_told name)) ∷ []
act_back guards (Delete name) = (key_text key.If, guards) ∷ (key_text key.Name, Some (term_told name)) ∷ []
act_back guards (Assign from to) = act_ends guards from to
act_back guards (Deassign from to) = act_ends guards from to
act_back guards (Associate ua rights at) =
    (key_text key.If, guards) ∷ (key_text key.Rights, names_told rights) ∷ (key_text key.Ua, Some (term_told ua)) ∷ []
act_back guards (Dissociate ua at) = (key_text key.If, guards) ∷ (key_text key.Ua, Some (term_told ua)) ∷ []
act_back guards (Prohibit name subject rights inc exc mode) = act_sets guards inc exc mode ++ act_barred name rights subject
act_back guards (Lift name) = (key_text key.If, guards) ∷ (key_text key.Name, texted name) ∷ []

abbrev pub act_front : Act → List (List ℕ × Option Data)
act_front a = (key_text key.At, act_at a) ∷ []

abbrev pub action_fields : Action → List (List ℕ × Option Data)
action_fields a = act_front a.act ++ (key_text key.Cmd, said (act_word a.act)) ∷ act_back (guards_told a.guards) a.act

abbrev pub action_told : Action → Data
action_told a = object (present (action_fields a))

abbrev pub actions_told : List Action → Option Data
actions_told actions = Some (listed (map action_told actions))
