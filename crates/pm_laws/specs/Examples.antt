-- Small graphs by hand: what changes make of them and refuse, and graphs that aren't well formed.
use Rattle.std.specs.Prelude.{ℕ, ◌^◌, List, [], ◌∷◌, ◌++◌, codes, Option, None, Some, Result, Ok, Err}
use Rattle.pm_model.specs.State.{Graph, element, opening, opening_graph, opening_elements, opening_assigned}
use Rattle.pm_model.specs.RightSet.{opening_rights}
use Rattle.pm_model.specs.Sessions.{Procs, session, process}
use Rattle.pm_model.specs.Resolve.{prohibition}
use Rattle.pm_model.specs.KeptReviews.{KeptReview, new_review}
use Rattle.pm_model.specs.LastChanges.{changed}
use Rattle.pm_model.specs.declared.elements.Kind.TheVariants.{User, Ua, Object, Pc}
use Rattle.pm_model.specs.declared.elements.Element.{Element}
use Rattle.pm_model.specs.declared.requests.Command.{Command}
use Rattle.pm_model.specs.declared.requests.Command.TheVariants as command
use Rattle.pm_model.specs.declared.requests.Change.{Change}
use Rattle.pm_model.specs.declared.requests.Change.TheVariants.{Create, Delete, Assign, Deassign, Associate, Dissociate, OpenSession, CloseSession, StartProcess, EndProcess, Prohibit, Lift, Oblige, Withdraw, DefineRight, Keep, DropReview}
use Rattle.pm_model.specs.declared.rights.Association.{Association}
use Rattle.pm_model.specs.declared.prohibitions.Prohibition.{Prohibition}
use Rattle.pm_model.specs.declared.prohibitions.Mode.TheVariants.{All}
use Rattle.pm_model.specs.declared.prohibitions.Subject.TheVariants as subject
use Rattle.pm_model.specs.declared.events.When.{When}
use Rattle.pm_model.specs.declared.obligations.Obligation.{Obligation}
use Rattle.pm_model.specs.declared.actions.Term.TheVariants.{EventTarget}
use Rattle.pm_model.specs.declared.actions.Act.TheVariants as act
use Rattle.pm_model.specs.declared.sessions.Session.{Session}
use Rattle.pm_model.specs.declared.sessions.Process.{Process}
use Rattle.pm_model.specs.declared.reviews.ReviewOf.TheVariants.{Caps, Entries}
use Rattle.pm_model.specs.declared.replies.Refusal.{Refusal}
use Rattle.pm_model.specs.declared.replies.Refusal.TheVariants.{UnknownProcess, UnknownSession, UnknownName, Denied, BadKinds, NameTaken, Already, Absent, Cycle, Occupied, LastContainer, Builtin, EmptyRange, InUse}
use Rattle.pm_model.specs.declared.replies.Reason.TheVariants as reason

-- the opening graph, and more
abbrev pub opening_with : List Element → List (ℕ × ℕ) → Graph
opening_with es pairs = record opening_graph { elements = opening_elements ++ es; assigned = opening_assigned ++ pairs }

abbrev pub doctors : Element
doctors = element 3 Ua (codes "doctors")

abbrev pub surgeons : Element
surgeons = element 4 Ua (codes "surgeons")

-- doctors in the class `pm`, and surgeons in the doctors
abbrev pub staffed : Graph
staffed = opening_with (doctors ∷ surgeons ∷ []) ((3, 0) ∷ (4, 3) ∷ [])

-- the same, and surgeons in the class itself too
abbrev pub held_twice : Graph
held_twice = opening_with (doctors ∷ surgeons ∷ []) ((3, 0) ∷ (4, 3) ∷ (4, 0) ∷ [])

-- doctors have these rights on what is in surgeons
abbrev pub joint : ℕ → Association
joint rights = record { ua = 3; rights = rights; at = 4 }

abbrev pub associated : Graph
associated = record staffed { associations = joint 1 ∷ [] }

abbrev pub procs : List Session → List Process → ℕ → ℕ → Procs
procs sessions processes next_session next_process =
    record { sessions = sessions; processes = processes; next_session = next_session; next_process = next_process }

-- the opening graph with other sessions and processes, and with these prohibitions
abbrev pub working : Procs → List Prohibition → Graph
working P ps = record opening_graph { procs = P; prohibitions = ps }

-- root has opened a session
abbrev pub opened : Graph
opened = working (procs (session 0 2 ∷ session 1 2 ∷ []) (process 0 0 ∷ []) 2 1) []

-- and has started a process in it
abbrev pub started : Procs
started = procs (session 0 2 ∷ session 1 2 ∷ []) (process 0 0 ∷ process 1 1 ∷ []) 2 2

-- the process, and root, are denied `read` on what is in the administrators
abbrev pub hold : Prohibition
hold = prohibition (codes "hold") (subject.Process 1) 1 (1 ∷ []) [] All

abbrev pub lock : Prohibition
lock = prohibition (codes "lock") (subject.User 2) 1 (1 ∷ []) [] All

abbrev pub held : Graph
held = working started (hold ∷ lock ∷ [])

-- what these do to that is deleted, by the authority of the author
abbrev pub obligation : List ℕ → ℕ → Option ℕ → Option ℕ → Obligation
obligation name author user target = record {
  name = name;
  author = author;
  pattern = record { on = codes "read"; user = user; target = target };
  response = record { guards = []; act = act.Delete EventTarget } ∷ [];
}

-- of ann, for what surgeons read of the chart
abbrev pub watch : Obligation
watch = obligation (codes "watch") 5 (Some 4) (Some 6)

-- of root, for all that is read
abbrev pub log : Obligation
log = obligation (codes "log") 2 None None

-- doctors and surgeons, ann who is a doctor, and a chart, with these obligations
abbrev pub watching : List Obligation → Graph
watching obligations =
    record (opening_with (doctors ∷ surgeons ∷ element 5 User (codes "ann") ∷ element 6 Object (codes "chart") ∷ [])
    ((3, 0) ∷ (4, 3) ∷ (5, 3) ∷ (6, 0) ∷ [])) { obligations = obligations }

-- the same with no obligation, and with these kept reviews
abbrev pub keeping : List KeptReview → Graph
keeping ks = record (watching []) { kept = ks }

-- the same without the chart
abbrev pub without_chart : List KeptReview → Graph
without_chart ks =
    record (opening_with (doctors ∷ surgeons ∷ element 5 User (codes "ann") ∷ []) ((3, 0) ∷ (4, 3) ∷ (5, 3) ∷ [])) { kept = ks }

-- what ann may do, which no entry has changed
abbrev pub of_ann : KeptReview
of_ann = new_review 0 (Caps 5)

-- who may do something to the chart, which the seventh entry has changed last
abbrev pub of_chart : KeptReview
of_chart = record { number = 1; of = Entries 6; at = 7; changed = changed (codes "ann") 0 1 ∷ [] }

-- a graph, a change of it, and what the change makes
abbrev pub made : List (Graph × Change × Graph)
made =
    (opening.graph, Create 3 Ua (codes "doctors") (Some 0), opening_with (doctors ∷ []) ((3, 0) ∷ []))
    ∷ (opening_with (doctors ∷ []) ((3, 0) ∷ []), Create 4 Ua (codes "surgeons") (Some 3), staffed)
    -- the least unused number is below another
    ∷ (
      opening_with (surgeons ∷ []) ((4, 0) ∷ []),
      Create 3 Ua (codes "doctors") (Some 4),
      opening_with (doctors ∷ surgeons ∷ []) ((3, 4) ∷ (4, 0) ∷ []),
    )
    ∷ (opening.graph, Create 3 Pc (codes "wards") None, opening_with (element 3 Pc (codes "wards") ∷ []) [])
    ∷ (staffed, Assign 4 0, held_twice)
    -- an assignment comes before those of a higher element, however late it is made
    ∷ (
      opening_with (doctors ∷ surgeons ∷ []) ((3, 0) ∷ (4, 0) ∷ []),
      Assign 3 4,
      opening_with (doctors ∷ surgeons ∷ []) ((3, 0) ∷ (3, 4) ∷ (4, 0) ∷ []),
    )
    ∷ (held_twice, Deassign 4 3, opening_with (doctors ∷ surgeons ∷ []) ((3, 0) ∷ (4, 0) ∷ []))
    ∷ (staffed, Associate 3 1 4, associated)
    ∷ (associated, Dissociate 3 4, staffed)
    -- an element goes with its assignments, and its number comes back
    ∷ (staffed, Delete 4, opening_with (doctors ∷ []) ((3, 0) ∷ []))
    ∷ (held_twice, Delete 4, opening_with (doctors ∷ []) ((3, 0) ∷ []))
    ∷ (opening_with (element 3 Pc (codes "wards") ∷ []) [], Delete 3, opening.graph)
    ∷ (opening.graph, OpenSession 2, opened)
    ∷ (opened, StartProcess 1, working started [])
    ∷ (working started [], Prohibit hold, working started (hold ∷ []))
    ∷ (working started (hold ∷ []), Prohibit lock, held)
    -- what is closed or ended takes the prohibition on its process along, and no number comes back
    ∷ (held, CloseSession 1, working (procs (session 0 2 ∷ []) (process 0 0 ∷ []) 2 2) (lock ∷ []))
    ∷ (held, EndProcess 1, working (procs (session 0 2 ∷ session 1 2 ∷ []) (process 0 0 ∷ []) 2 2) (lock ∷ []))
    ∷ (held, Lift 0, working started (lock ∷ []))
    ∷ (watching [], Oblige watch, watching (watch ∷ []))
    ∷ (watching (watch ∷ []), Oblige log, watching (watch ∷ log ∷ []))
    ∷ (watching (watch ∷ log ∷ []), Withdraw 1, watching (watch ∷ []))
    -- without its obligation an author may go
    ∷ (
      watching (log ∷ []),
      Delete 5,
      record (opening_with (doctors ∷ surgeons ∷ element 6 Object (codes "chart") ∷ [])
          ((3, 0) ∷ (4, 3) ∷ (6, 0) ∷ [])) { obligations = log ∷ [] },
    )
    ∷ (keeping [], Keep (Caps 5), keeping (of_ann ∷ []))
    ∷ (keeping (of_ann ∷ []), Keep (Entries 6), keeping (of_ann ∷ new_review 1 (Entries 6) ∷ []))
    -- entries are of any element, and of a user beside what the user may do
    ∷ (keeping (of_ann ∷ of_chart ∷ []), Keep (Entries 5), keeping (of_ann ∷ of_chart ∷ new_review 2 (Entries 5) ∷ []))
    -- a review that is dropped leaves the others, and its number comes back
    ∷ (keeping (of_ann ∷ of_chart ∷ []), DropReview 0, keeping (of_chart ∷ []))
    ∷ (keeping (of_chart ∷ []), Keep (Caps 5), keeping (of_ann ∷ of_chart ∷ []))
    -- without a review of it the chart may go
    ∷ (keeping (of_ann ∷ []), Delete 6, without_chart (of_ann ∷ []))
    ∷ (opening.graph, DefineRight (codes "sign"), record opening_graph { rights = opening_rights ++ codes "sign" ∷ [] }) ∷ []

-- a change of `staffed`, and why it is refused
abbrev pub refused : List (Change × Refusal)
refused =
    (Assign 3 4, Cycle)
    ∷ (Assign 3 3, Cycle)
    ∷ (Assign 4 3, Already)
    ∷ (Assign 2 0, BadKinds)
    ∷ (Assign 0 1, BadKinds)
    ∷ (Deassign 4 0, Absent)
    ∷ (Deassign 4 3, LastContainer)
    ∷ (Deassign 2 1, Builtin)
    ∷ (Delete 0, Builtin)
    ∷ (Delete 2, Builtin)
    ∷ (Delete 3, Occupied)
    ∷ (Create 5 Ua (codes "root") (Some 3), NameTaken)
    ∷ (Create 5 Pc (codes "wards") (Some 0), BadKinds)
    ∷ (Create 5 Object (codes "chart") (Some 3), BadKinds)
    ∷ (Associate 2 1 3, BadKinds)
    ∷ (Associate 3 1 0, BadKinds)
    ∷ (Dissociate 3 4, Absent) ∷ []

-- a change of `held`, and why it is refused
abbrev pub refused_at_work : List (Change × Refusal)
refused_at_work =
    (OpenSession 1, BadKinds)
    ∷ (CloseSession 0, Builtin)
    ∷ (CloseSession 2, UnknownSession)
    ∷ (StartProcess 2, UnknownSession)
    ∷ (EndProcess 0, Builtin)
    ∷ (EndProcess 2, UnknownProcess)
    -- a user attribute as a user, a user or a class in a set, a name that stands, and no range
    ∷ (Prohibit (prohibition (codes "bar") (subject.User 1) 1 (1 ∷ []) [] All), BadKinds)
    ∷ (Prohibit (prohibition (codes "bar") (subject.User 2) 1 (2 ∷ []) [] All), BadKinds)
    ∷ (Prohibit (prohibition (codes "bar") (subject.User 2) 1 [] (0 ∷ []) All), BadKinds)
    ∷ (Prohibit (prohibition (codes "lock") (subject.Process 1) 1 (1 ∷ []) [] All), NameTaken)
    ∷ (Prohibit (prohibition (codes "bar") (subject.Process 1) 1 [] [] All), EmptyRange)
    -- the name of a right, and the word of a command
    ∷ (DefineRight (codes "read"), NameTaken)
    ∷ (DefineRight (codes "lift"), NameTaken) ∷ []

-- a change where ann's obligation stands, and why it is refused
abbrev pub refused_at_watch : List (Change × Refusal)
refused_at_watch =
    -- a chart in place of a user, and a name that stands
    (Oblige (obligation (codes "bar") 5 (Some 6) None), BadKinds)
    ∷ (Oblige (obligation (codes "watch") 2 None None), NameTaken)
    -- the author, the user and the target
    ∷ (Delete 5, InUse)
    ∷ (Delete 4, InUse)
    ∷ (Delete 6, InUse) ∷ []

-- a change where two reviews are kept, and why it is refused
abbrev pub refused_at_review : List (Change × Refusal)
refused_at_review =
    -- what the chart may do, and what is kept
    (Keep (Caps 6), BadKinds)
    ∷ (Keep (Caps 5), Already)
    ∷ (Keep (Entries 6), Already)
    -- what a review is of
    ∷ (Delete 5, InUse)
    ∷ (Delete 6, InUse) ∷ []

-- element 4 is at an end of an association, named by a prohibition, or the user of a session
abbrev pub in_use : List Graph
in_use =
    associated
    ∷ record staffed { associations = record { ua = 4; rights = 1; at = 3 } ∷ [] }
    ∷ record staffed { prohibitions = prohibition (codes "bar") (subject.Ua 4) 1 (3 ∷ []) [] All ∷ [] }
    ∷ record staffed { prohibitions = prohibition (codes "bar") (subject.User 2) 1 (3 ∷ 4 ∷ []) [] All ∷ [] }
    ∷ record staffed { prohibitions = prohibition (codes "bar") (subject.User 2) 1 [] (4 ∷ []) All ∷ [] }
    ∷ record (opening_with (doctors ∷ element 4 User (codes "ann") ∷ []) ((3, 0) ∷ (4, 3) ∷ [])) {
      procs = procs (session 0 2 ∷ session 1 4 ∷ []) (process 0 0 ∷ []) 2 1;
    } ∷ []

-- ---- a delegate

-- two wards in a class; ann heads the first, where she may create users. A prohibition denies it to her process 2, and one
-- denies it to root on the second ward. Root's obligation waits for all that is read.
abbrev pub wards : Graph
wards = record (opening_with (element 3 Pc (codes "wards") ∷ element 4 Ua (codes "east") ∷ element 5 Ua (codes "west")
    ∷ element 6 Ua (codes "heads") ∷ element 7 User (codes "ann") ∷ []) ((4, 3) ∷ (5, 3) ∷ (6, 3) ∷ (7, 6) ∷ [])) {
      associations = record { ua = 6; rights = 4; at = 4 } ∷ [];
      prohibitions = prohibition (codes "hold") (subject.Process 2) 4 (4 ∷ []) [] All
          ∷ prohibition (codes "lock") (subject.User 2) 4 (5 ∷ []) [] All ∷ [];
      obligations = log ∷ [];
      procs = procs (session 0 2 ∷ session 1 7 ∷ []) (process 0 0 ∷ process 1 1 ∷ process 2 1 ∷ []) 2 3;
    }

-- all that the heads read of the first ward
abbrev pub read_by_heads : When
read_by_heads = record { on = codes "read"; user = Some (codes "heads"); target = Some (codes "east") }

-- a user, a process and a command, and the ruling
abbrev pub ruled : List (ℕ × Option ℕ × Command × Result Change Refusal)
ruled =
    (7, Some 1, command.Create User (codes "bob") (codes "east"), Ok (Create 8 User (codes "bob") (Some 4)))
    ∷ (7, Some 1, command.Create User (codes "bob") (codes "west"), Err (Denied (codes "create_user") 5 (reason.Class 3)))
    ∷ (7, Some 1, command.Create Ua (codes "team") (codes "east"), Err (Denied (codes "create_ua") 4 (reason.Class 3)))
    ∷ (7, Some 2, command.Create User (codes "bob") (codes "east"), Err (Denied (codes "create_user") 4 (reason.Prohibition (codes "hold"))))
    ∷ (7, Some 1, command.CreatePc (codes "labs"), Err (Denied (codes "create_ua") 0 (reason.Class 0)))
    ∷ (7, Some 1, command.Delete (codes "west"), Err (Denied (codes "delete") 5 (reason.Class 3)))
    -- a name that isn't found comes before any capability
    ∷ (7, Some 1, command.Delete (codes "north"), Err (UnknownName (codes "north")))
    -- the user that is waited for comes before the target; for any target the class `pm` is asked
    ∷ (7, Some 1, command.Oblige (codes "watch") read_by_heads [], Err (Denied (codes "oblige") 6 (reason.Class 3)))
    ∷ (7, Some 1, command.Withdraw (codes "log"), Err (Denied (codes "oblige") 0 (reason.Class 0)))
    -- root may do all, and no prohibition denies it
    ∷ (2, Some 0, command.Create User (codes "bob") (codes "west"), Ok (Create 8 User (codes "bob") (Some 5)))
    ∷ (2, Some 0, command.Delete (codes "west"), Ok (Delete 5)) ∷ []

-- ---- not well formed

-- each breaks one rule
abbrev pub unformed : List Graph
unformed =
    -- two attributes, each assigned to the other
    opening_with (doctors ∷ surgeons ∷ []) ((3, 0) ∷ (4, 3) ∷ (3, 4) ∷ [])
    -- an attribute that leads to no class
    ∷ opening_with (doctors ∷ []) []
    -- an assignment twice
    ∷ opening_with (doctors ∷ []) ((3, 0) ∷ (3, 0) ∷ [])
    -- a user assigned to a class
    ∷ opening_with [] ((2, 0) ∷ [])
    -- an assignment to nothing
    ∷ opening_with (doctors ∷ []) ((3, 0) ∷ (3, 4) ∷ [])
    -- a number twice
    ∷ opening_with (doctors ∷ element 3 Ua (codes "nurses") ∷ []) ((3, 0) ∷ [])
    -- a name twice
    ∷ opening_with (doctors ∷ element 4 Ua (codes "doctors") ∷ []) ((3, 0) ∷ (4, 0) ∷ [])
    -- without an assignment of the opening
    ∷ record opening_graph { elements = opening_elements ++ doctors ∷ []; assigned = (1, 0) ∷ (3, 0) ∷ (2, 3) ∷ [] }
    -- an association with a right that has no name
    ∷ record staffed { associations = joint (2 ^ 17) ∷ [] }
    -- two prohibitions of one name
    ∷ working started (hold ∷ hold ∷ [])
    -- a prohibition on a process that has ended
    ∷ working (procs (session 0 2 ∷ []) (process 0 0 ∷ []) 2 2) (hold ∷ [])
    -- a prohibition without a range
    ∷ working started (prohibition (codes "bar") (subject.Process 1) 1 [] [] All ∷ [])
    -- two obligations of one name
    ∷ watching (watch ∷ watch ∷ [])
    -- an obligation by an attribute, one that waits for what a chart does, and one on nothing
    ∷ watching (obligation (codes "bar") 4 None None ∷ [])
    ∷ watching (obligation (codes "bar") 5 (Some 6) None ∷ [])
    ∷ watching (obligation (codes "bar") 5 None (Some 7) ∷ [])
    -- two kept reviews of the same, and two of one number
    ∷ keeping (of_ann ∷ new_review 1 (Caps 5) ∷ [])
    ∷ keeping (of_ann ∷ new_review 0 (Entries 6) ∷ [])
    -- a number that is too high
    ∷ keeping (new_review 256 (Caps 5) ∷ [])
    -- a review of nothing, and one of what a chart may do
    ∷ keeping (new_review 0 (Entries 7) ∷ [])
    ∷ keeping (new_review 0 (Caps 6) ∷ [])
    -- a process of no session
    ∷ working (procs (session 0 2 ∷ []) (process 0 0 ∷ process 1 1 ∷ []) 2 2) []
    -- a session of no element, of a class, of a user attribute
    ∷ working (procs (session 0 2 ∷ session 1 9 ∷ []) (process 0 0 ∷ []) 2 1) []
    ∷ working (procs (session 0 2 ∷ session 1 0 ∷ []) (process 0 0 ∷ []) 2 1) []
    ∷ working (procs (session 0 2 ∷ session 1 1 ∷ []) (process 0 0 ∷ []) 2 1) []
    -- a session whose number may be given once more
    ∷ working (procs (session 0 2 ∷ session 1 2 ∷ []) (process 0 0 ∷ []) 1 1) []
    -- without the session of the opening
    ∷ working (procs [] [] 1 1) []
    -- a right's name twice
    ∷ record opening_graph { rights = opening_rights ++ codes "read" ∷ [] } ∷ []
