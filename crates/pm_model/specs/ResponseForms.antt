-- The fields `when` and `do` of an obligation's line: which events it waits for, by names, and its response. Their forms
-- are the project's own.
use Rattle.std.specs.Prelude.{ℕ, Bool, true, false, if◌then◌else◌, ◌+◌, nat_le, List, [], length, map, codes, bytes_eq, Option, None, Some, option_and_then, option_map}
use Rattle.serde_json.specs.Data.{Data, Items, no_items, item}
use Rattle.serde_json.specs.Find.{as_str, as_array}
use Rattle.pm_model.specs.Actions.{response_refusal}
use Rattle.pm_model.specs.Forms.{distinct, if_name, list_of, listed_form, looking, mode_form, name_form, short_form, subject_by}
use Rattle.pm_model.specs.Words.{key_text, word_text}
use Rattle.pm_model.specs.declared.words.Key.{Key}
use Rattle.pm_model.specs.declared.words.Key.TheVariants as key
use Rattle.pm_model.specs.declared.words.Word.TheVariants as word
use Rattle.pm_model.specs.declared.elements.Kind.{Kind}
use Rattle.pm_model.specs.declared.elements.Kind.TheVariants.{User, Ua, Object, Oa}
use Rattle.pm_model.specs.declared.events.When.{When}
use Rattle.pm_model.specs.declared.prohibitions.Subject.{Subject}
use Rattle.pm_model.specs.declared.actions.Term.{Term}
use Rattle.pm_model.specs.declared.actions.Term.TheVariants.{Named, EventUser, EventTarget, Fresh}
use Rattle.pm_model.specs.declared.actions.ProcessTerm.{ProcessTerm}
use Rattle.pm_model.specs.declared.actions.ProcessTerm.TheVariants.{Number, EventProcess}
use Rattle.pm_model.specs.declared.actions.Guard.{Guard}
use Rattle.pm_model.specs.declared.actions.Act.{Act}
use Rattle.pm_model.specs.declared.actions.Act.TheVariants as act
use Rattle.pm_model.specs.declared.actions.Action.{Action}
use Rattle.pm_model.specs.declared.obligations.ResponseError.{ResponseError}

-- ---- events to wait for

-- the member is absent, or is a name
abbrev pub name_if : Option Data → Option (Option (List ℕ))
name_if None = Some None
name_if (Some d) = option_map Some (name_form d)

abbrev pub when_by : (List ℕ → Option Data) → Option When
when_by look =
    option_and_then (λ on.
    option_and_then (λ user.
    option_map (λ target. record { on = on; user = user; target = target })
    (name_if (look (key_text key.Target))))
    (name_if (look (key_text key.User))))
    (option_and_then name_form (look (key_text key.On)))

abbrev pub when_form : Data → Option When
when_form d = when_by (looking d)

-- ---- what stands for a name

-- for an element: its name, or a word for the event's user or target
abbrev pub term_of : List ℕ → Option Term
term_of w =
    if bytes_eq w (codes "$user") then Some EventUser
    else (if bytes_eq w (codes "$target") then Some EventTarget else option_map Named (if_name w))

abbrev pub term_form : Data → Option Term
term_form d = option_and_then term_of (as_str d)

-- for what is made: its name, or the word for a name that is new
abbrev pub given_of : List ℕ → Option Term
given_of w = if bytes_eq w (codes "$fresh") then Some Fresh else option_map Named (if_name w)

abbrev pub given_form : Data → Option Term
given_form d = option_and_then given_of (as_str d)

-- for a process: its number, or the word for the event's
abbrev pub event_process_of : List ℕ → Option ProcessTerm
event_process_of w = if bytes_eq w (codes "$process") then Some EventProcess else None

abbrev pub number_or : Option ℕ → Option ProcessTerm → Option ProcessTerm
number_or (Some n) other = Some (Number n)
number_or None other = other

abbrev pub process_form : Data → Option ProcessTerm
process_form d = number_or (short_form d) (option_and_then event_process_of (as_str d))

-- ---- guards

abbrev pub within_of : List ℕ → Option Bool
within_of w = if bytes_eq w (codes "in") then Some true else (if bytes_eq w (codes "not_in") then Some false else None)

-- a list of three texts
abbrev pub guard_of : Items → Option Guard
guard_of (item w (item i (item o no_items))) =
    option_and_then (λ within.
    option_and_then (λ inner.
    option_map (λ outer. record { within = within; inner = inner; outer = outer }) (term_form o))
    (term_form i))
    (option_and_then within_of (as_str w))
guard_of _ = None

abbrev pub guard_form : Data → Option Guard
guard_form d = option_and_then guard_of (as_array d)

abbrev pub if_few_guards : List Guard → Option (List Guard)
if_few_guards guards = if nat_le (length guards) 4 then Some guards else None

-- the member is absent, or is a list of at most 4 guards
abbrev pub guards_if : Option Data → Option (List Guard)
guards_if None = Some []
guards_if (Some d) = option_and_then if_few_guards (option_and_then (list_of guard_form) (as_array d))

-- ---- acts, by what stands at each key of the action's object

abbrev pub terms_form : Data → Option (List Term)
terms_form d = option_and_then (list_of term_form) (as_array d)

-- where both lists together have at most 32 terms
abbrev pub if_few_terms : List Term → List Term → Option (List Term)
if_few_terms inc exc = if nat_le (length inc + length exc) 32 then Some exc else None

module _ (look : List ℕ → Option Data) where
  abbrev pub formed : {A : Type 0} → Key → (Data → Option A) → Option A
  formed k form = option_and_then form (look (key_text k))

  abbrev pub term_at : Key → Option Term
  term_at k = formed k term_form

  abbrev pub create_act : Kind → Option Act
  create_act kind =
      option_and_then (λ name. option_map (λ into. act.Create kind name into) (term_at key.Into)) (formed key.Name given_form)

  abbrev pub delete_act : Option Act
  delete_act = option_map act.Delete (term_at key.Name)

  -- two terms
  abbrev pub both_at : Key → Key → Option (Term × Term)
  both_at first second = option_and_then (λ a. option_map (λ b. (a, b)) (term_at second)) (term_at first)

  abbrev pub assign_act : Option Act
  assign_act = option_map (λ ends. act.Assign ends.0 ends.1) (both_at key.From key.To)

  abbrev pub deassign_act : Option Act
  deassign_act = option_map (λ ends. act.Deassign ends.0 ends.1) (both_at key.From key.To)

  -- the rights as they stand, repeats too
  abbrev pub rights_listed : Option (List (List ℕ))
  rights_listed = formed key.Rights listed_form

  abbrev pub associate_act : Option Act
  associate_act =
      option_and_then (λ ends. option_map (λ rights. act.Associate ends.0 rights ends.1) rights_listed) (both_at key.Ua key.At)

  abbrev pub dissociate_act : Option Act
  dissociate_act = option_map (λ ends. act.Dissociate ends.0 ends.1) (both_at key.Ua key.At)

  abbrev pub subject_term : Option (Subject Term ProcessTerm)
  subject_term = formed key.Subject (subject_by term_form process_form)

  -- the sets `inc` and `exc`
  abbrev pub term_sets : Option (List Term × List Term)
  term_sets =
      option_and_then (λ inc. option_map (λ exc. (inc, exc)) (option_and_then (if_few_terms inc) (formed key.Exc terms_form)))
      (formed key.Inc terms_form)

  abbrev pub prohibit_act : Option Act
  prohibit_act =
      option_and_then (λ name.
      option_and_then (λ subject.
      option_and_then (λ rights.
      option_and_then (λ sets.
      option_map (λ mode. act.Prohibit name subject rights sets.0 sets.1 mode)
      (formed key.Mode mode_form))
      term_sets)
      rights_listed)
      subject_term)
      (formed key.Name given_form)

  -- a prohibition's name
  abbrev pub lift_act : Option Act
  lift_act = option_map act.Lift (formed key.Name name_form)

  -- the act of the word, where a response may have it
  abbrev pub act_of : List ℕ → Option Act
  act_of w =
      if bytes_eq w (word_text word.CreateUser) then create_act User
      else (if bytes_eq w (word_text word.CreateUa) then create_act Ua
      else (if bytes_eq w (word_text word.CreateOa) then create_act Oa
      else (if bytes_eq w (word_text word.CreateObject) then create_act Object
      else (if bytes_eq w (word_text word.Delete) then delete_act
      else (if bytes_eq w (word_text word.Assign) then assign_act
      else (if bytes_eq w (word_text word.Deassign) then deassign_act
      else (if bytes_eq w (word_text word.Associate) then associate_act
      else (if bytes_eq w (word_text word.Dissociate) then dissociate_act
      else (if bytes_eq w (word_text word.Prohibit) then prohibit_act
      else (if bytes_eq w (word_text word.Lift) then lift_act
      else None))))))))))

  abbrev pub action_by : Option Action
  action_by =
      option_and_then (λ guards. option_map (λ a. record { guards = guards; act = a }) (option_and_then act_of (formed key.Cmd as_str)))
      (guards_if (look (key_text key.If)))

abbrev pub action_form : Data → Option Action
action_form d = action_by (looking d)

-- ---- responses

-- rights are read as a set
abbrev pub act_as_set : Act → Act
act_as_set (act.Associate ua rights at) = act.Associate ua (distinct rights) at
act_as_set (act.Prohibit name subject rights inc exc mode) = act.Prohibit name subject (distinct rights) inc exc mode
act_as_set a = a

abbrev pub as_set : Action → Action
as_set a = record { guards = a.guards; act = act_as_set a.act }

abbrev pub if_allowed : Option ResponseError → List Action → Option (List Action)
if_allowed (Some e) actions = None
if_allowed None actions = Some (map as_set actions)

-- a list of actions within the limits of a response, in which a right that stands twice counts twice
abbrev pub do_form : Data → Option (List Action)
do_form d =
    option_and_then (λ actions. if_allowed (response_refusal actions) actions)
    (option_and_then (list_of action_form) (as_array d))
