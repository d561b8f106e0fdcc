-- Small histories by hand: which are legal, and what the replay of one is.
use Rattle.std.specs.Prelude.{ℕ, List, [], ◌∷◌, ◌++◌, codes, Option, None, Some}
use Rattle.pm_model.specs.State.{State, element, opening_graph, opening_elements, opening_assigned}
use Rattle.pm_model.specs.Sessions.{session, process}
use Rattle.pm_model.specs.declared.elements.Kind.TheVariants.{Ua, Pc}
use Rattle.pm_model.specs.declared.requests.Command.TheVariants.{CreatePc, Create, Assign, DefineRight}
use Rattle.pm_model.specs.declared.requests.Body.{Body}
use Rattle.pm_model.specs.declared.requests.Body.TheVariants.{Version, StartProcess, Access, Admin}
use Rattle.pm_model.specs.declared.requests.Entry.{Entry}

-- an entry of the only caller
abbrev pub entry : ℕ → Option ℕ → Body → Entry
entry n since body = record { seat = 0; nth = n; request = record { after = since; body = body } }

abbrev pub make_files : Body
make_files = Admin 0 (CreatePc (codes "files"))

-- a class is made, and then a process started
abbrev pub two_entries : List Entry
two_entries = entry 1 None make_files ∷ entry 2 (Some 1) (StartProcess 0) ∷ []

abbrev pub after_two : State
after_two =
    record {
      graph = record opening_graph {
        elements = opening_elements ++ element 3 Pc (codes "files") ∷ [];
        procs = record { sessions = session 0 2 ∷ []; processes = process 0 0 ∷ process 1 0 ∷ []; next_session = 1; next_process = 2 };
      };
      version = 2;
    }

-- two attributes are made in a class, and then the first of them is assigned to the second: what one element is assigned
-- to stands together
abbrev pub late_assignment : List Entry
late_assignment =
    entry 1 None (Admin 0 (Create Ua (codes "staff") (codes "pm")))
    ∷ entry 2 None (Admin 0 (Create Ua (codes "team") (codes "pm")))
    ∷ entry 3 None (Admin 0 (Assign (codes "staff") (codes "team"))) ∷ []

abbrev pub after_late : State
after_late =
    record {
      graph = record opening_graph {
        elements = opening_elements ++ element 3 Ua (codes "staff") ∷ element 4 Ua (codes "team") ∷ [];
        assigned = opening_assigned ++ (3, 0) ∷ (3, 4) ∷ (4, 0) ∷ [];
      };
      version = 3;
    }

-- the seats and the numbers of a seat are the callers' matter: no answer hangs on them
abbrev pub legal : List (List Entry)
legal = [] ∷ two_entries ∷ (entry 7 None (StartProcess 0) ∷ []) ∷ []

-- what is refused, and what changes nothing, is no entry
abbrev pub illegal : List (List Entry)
illegal =
    (entry 1 None Version ∷ [])
    ∷ (entry 1 None (Access 0 (codes "read") (codes "pm")) ∷ [])
    ∷ (entry 1 (Some 1) make_files ∷ [])
    ∷ (entry 1 None make_files ∷ entry 2 None make_files ∷ [])
    ∷ (entry 1 None (Admin 1 (CreatePc (codes "files"))) ∷ [])
    ∷ (entry 1 None (Admin 0 (DefineRight (codes "read"))) ∷ []) ∷ []
