-- What obligations wait for and their responses, and what they read as.
use Rattle.std.specs.Prelude.{◌≡◌, ℕ, zero, suc, Bool, true, false, List, [], ◌∷◌, ◌++◌, codes, Option, None, Some, option_and_then}
use Rattle.serde_json.specs.Read.{read}
use Rattle.pm_model.specs.ResponseForms.{do_form, when_form}
use Rattle.pm_model.specs.declared.elements.Kind.TheVariants.{Oa}
use Rattle.pm_model.specs.declared.events.When.{When}
use Rattle.pm_model.specs.declared.prohibitions.Mode.TheVariants.{Any}
use Rattle.pm_model.specs.declared.prohibitions.Subject.TheVariants.{Process}
use Rattle.pm_model.specs.declared.actions.Term.{Term}
use Rattle.pm_model.specs.declared.actions.Term.TheVariants.{Named, EventUser, EventTarget, Fresh}
use Rattle.pm_model.specs.declared.actions.ProcessTerm.TheVariants.{EventProcess}
use Rattle.pm_model.specs.declared.actions.Guard.{Guard}
use Rattle.pm_model.specs.declared.actions.Act.{Act}
use Rattle.pm_model.specs.declared.actions.Act.TheVariants.{Create, Associate, Prohibit, Lift}
use Rattle.pm_model.specs.declared.actions.Action.{Action}

-- a text, and what it reads as
pub record Reading (A : Type 0) : Type 0 where
  pub text : List ℕ
  pub means : Option A

abbrev pub Responds : Reading (List Action) → Type 0
Responds r = option_and_then do_form (read r.text) ≡ r.means

abbrev pub Awaits : Reading When → Type 0
Awaits r = option_and_then when_form (read r.text) ≡ r.means

-- ---- responses

abbrev pub guard : Bool → Term → Term → Guard
guard within inner outer = record { within = within; inner = inner; outer = outer }

abbrev pub action : List Guard → Act → Action
action guards a = record { guards = guards; act = a }

-- Each word stands for a name where it may, and rights are a set in the order of their first places.
abbrev pub words_for_names : Reading (List Action)
words_for_names = record {
  text =
      codes "[{\"cmd\":\"create_oa\",\"if\":[[\"in\",\"$user\",\"staff\"],[\"not_in\",\"memo\",\"$target\"]],\"into\":\"$target\",\"name\":\"$fresh\"},"
      ++ codes "{\"cmd\":\"prohibit\",\"exc\":[\"$target\",\"$target\"],\"inc\":[\"docs\"],\"mode\":\"any\",\"name\":\"$fresh\","
      ++ codes "\"rights\":[\"write\",\"read\",\"write\"],\"subject\":{\"process\":\"$process\"}},"
      ++ codes "{\"cmd\":\"lift\",\"name\":\"p\"}]";
  means = Some (
      action (guard true EventUser (Named (codes "staff")) ∷ guard false (Named (codes "memo")) EventTarget ∷ []) (Create Oa Fresh EventTarget)
      ∷ action [] (Prohibit Fresh (Process EventProcess) (codes "write" ∷ codes "read" ∷ []) (Named (codes "docs") ∷ []) (EventTarget ∷ EventTarget ∷ []) Any)
      ∷ action [] (Lift (codes "p")) ∷ []);
}

abbrev pub no_actions : Reading (List Action)
no_actions = record { text = codes "[]"; means = None }

-- a word where a name has to stand
abbrev pub fresh_element : Reading (List Action)
fresh_element = record { text = codes "[{\"cmd\":\"delete\",\"name\":\"$fresh\"}]"; means = None }

-- the right once more, so many times
abbrev pub more_rights : ℕ → List ℕ
more_rights zero = []
more_rights (suc n) = codes ",\"read\"" ++ more_rights n

-- an association with 1 right more than that
abbrev pub association : ℕ → List ℕ
association n = codes "{\"at\":\"docs\",\"cmd\":\"associate\",\"rights\":[\"read\"" ++ (more_rights n ++ codes "],\"ua\":\"staff\"}")

abbrev pub associated : Action
associated = action [] (Associate (Named (codes "staff")) (codes "read" ∷ []) (Named (codes "docs")))

-- three associations, of which the first two have 34 names each
abbrev pub associations : ℕ → List ℕ
associations n = codes "[" ++ (association 31 ++ (codes "," ++ (association 31 ++ (codes "," ++ (association n ++ codes "]")))))

-- 100 names, and 101: a right counts each time
abbrev pub most_names : Reading (List Action)
most_names = record { text = associations 29; means = Some (associated ∷ associated ∷ associated ∷ []) }

abbrev pub too_many_names : Reading (List Action)
too_many_names = record { text = associations 30; means = None }

abbrev pub responses : List (Reading (List Action))
responses = words_for_names ∷ no_actions ∷ fresh_element ∷ most_names ∷ too_many_names ∷ []

-- ---- what is waited for

abbrev pub awaited : List (Reading When)
awaited =
    record { text = codes "{\"on\":\"read\"}"; means = Some (record { on = codes "read"; user = None; target = None }) }
    ∷ record {
      text = codes "{\"on\":\"delete\",\"target\":\"docs\",\"user\":\"ann\",\"x\":0}";
      means = Some (record { on = codes "delete"; user = Some (codes "ann"); target = Some (codes "docs") });
    }
    ∷ record { text = codes "{\"on\":\"read\",\"user\":null}"; means = None }
    ∷ record { text = codes "{\"target\":\"docs\"}"; means = None } ∷ []
