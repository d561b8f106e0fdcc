-- Two small worked examples of responses, with the graphs that they lead to.
use Rattle.std.specs.Prelude.{ℕ, Bool, true, false, List, [], ◌∷◌, ◌++◌, codes, Option, None, Some}
use Rattle.pm_model.specs.State.{Graph, element, opening_graph, opening_elements, opening_assigned}
use Rattle.pm_model.specs.Resolve.{prohibition}
use Rattle.pm_model.specs.Responses.{Stopped}
use Rattle.pm_model.specs.declared.elements.Element.{Element}
use Rattle.pm_model.specs.declared.elements.Kind.TheVariants.{User, Ua, Object, Oa, Pc}
use Rattle.pm_model.specs.declared.events.Event.{Event}
use Rattle.pm_model.specs.declared.events.EventNames.{EventNames}
use Rattle.pm_model.specs.declared.events.Pattern.{Pattern}
use Rattle.pm_model.specs.declared.actions.Term.{Term}
use Rattle.pm_model.specs.declared.actions.Term.TheVariants.{Named, EventUser, EventTarget, Fresh}
use Rattle.pm_model.specs.declared.actions.ProcessTerm.TheVariants.{EventProcess}
use Rattle.pm_model.specs.declared.actions.Guard.{Guard}
use Rattle.pm_model.specs.declared.actions.Act.{Act}
use Rattle.pm_model.specs.declared.actions.Act.TheVariants as act
use Rattle.pm_model.specs.declared.actions.Action.{Action}
use Rattle.pm_model.specs.declared.obligations.Obligation.{Obligation}
use Rattle.pm_model.specs.declared.prohibitions.Mode.TheVariants.{All}
use Rattle.pm_model.specs.declared.prohibitions.Subject.TheVariants.{Process}
use Rattle.pm_model.specs.declared.replies.Reason.TheVariants.{Class}
use Rattle.pm_model.specs.declared.replies.Refusal.TheVariants.{Denied}

-- a class with the user `ann` of `staff` and the object `p1` of `papers`, and a place `seen`
abbrev pub office_elements : List Element
office_elements =
    opening_elements
    ++ element 3 Pc (codes "office") ∷ element 4 Ua (codes "staff") ∷ element 5 User (codes "ann")
    ∷ element 6 Oa (codes "papers") ∷ element 7 Object (codes "p1") ∷ element 8 Oa (codes "seen") ∷ []

abbrev pub office_assigned : List (ℕ × ℕ)
office_assigned = opening_assigned ++ (4, 3) ∷ (5, 4) ∷ (6, 3) ∷ (7, 6) ∷ (8, 3) ∷ []

abbrev pub office : Graph
office = record opening_graph { elements = office_elements; assigned = office_assigned }

-- ann reads p1
abbrev pub reading : Event
reading = record { user = 5; process = 0; operation = codes "read"; target = 7 }

abbrev pub reading_names : EventNames
reading_names = record { user = codes "ann"; target = codes "p1"; process = 0 }

abbrev pub pattern : List ℕ → Option ℕ → Option ℕ → Pattern
pattern on user target = record { on = on; user = user; target = target }

abbrev pub guard : Bool → Term → Term → Guard
guard within inner outer = record { within = within; inner = inner; outer = outer }

abbrev pub action : List Guard → Act → Action
action guards act = record { guards = guards; act = act }

abbrev pub obligation : List ℕ → ℕ → Pattern → List Action → Obligation
obligation name author pattern response = record { name = name; author = author; pattern = pattern; response = response }

-- what staff has read goes to `seen` too, and a note of it; who is a paper would be deleted
abbrev pub keeps_track : Obligation
keeps_track =
    obligation (codes "track") 2 (pattern (codes "read") (Some 4) (Some 6)) (
    action (guard true EventTarget (Named (codes "papers")) ∷ []) (act.Assign EventTarget (Named (codes "seen")))
    ∷ action (guard true EventUser (Named (codes "papers")) ∷ guard true EventUser (Named (codes "nobody")) ∷ []) (act.Delete EventUser)
    ∷ action (guard false EventTarget (Named (codes "staff")) ∷ []) (act.Create Object Fresh (Named (codes "seen"))) ∷ []
    )

-- a process that has read may no longer write what is seen
abbrev pub bars_writing : Obligation
bars_writing =
    obligation (codes "bar") 2 (pattern (codes "read") None None) (
    action [] (act.Prohibit Fresh (Process EventProcess) (codes "write" ∷ []) (Named (codes "seen") ∷ []) [] All) ∷ []
    )

-- waits for another operation
abbrev pub waits_for_writing : Obligation
waits_for_writing = obligation (codes "writes") 2 (pattern (codes "write") None None) (action [] (act.Delete EventTarget) ∷ [])

-- ann may not assign
abbrev pub acts_for_ann : Obligation
acts_for_ann =
    obligation (codes "ann_acts") 5 (pattern (codes "read") None (Some 7)) (
    action (guard false EventUser (Named (codes "staff")) ∷ []) (act.Delete (Named (codes "nobody")))
    ∷ action [] (act.Assign EventTarget (Named (codes "papers"))) ∷ []
    )

abbrev pub obligations : List Obligation
obligations = waits_for_writing ∷ keeps_track ∷ bars_writing ∷ []

-- as the seventh entry: the two that match make the note `x7.1.3` and the prohibition `x7.2.1`
abbrev pub office_after : Graph
office_after =
    record opening_graph {
      elements = office_elements ++ element 9 Object (codes "x7.1.3") ∷ [];
      assigned = opening_assigned ++ (4, 3) ∷ (5, 4) ∷ (6, 3) ∷ (7, 6) ∷ (7, 8) ∷ (8, 3) ∷ (9, 8) ∷ [];
      prohibitions = prohibition (codes "x7.2.1") (Process 0) 2 (8 ∷ []) [] All ∷ [];
    }

abbrev pub stopped : Stopped
stopped = record { obligation = codes "ann_acts"; action = 2; why = Denied (codes "assign") 7 (Class 3) }
