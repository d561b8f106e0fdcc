-- A small hospital by hand: what is denied there and why, and reasons that don't hold.
use Rattle.std.specs.Prelude.{ℕ, List, [], ◌∷◌, codes, None, Some}
use Rattle.pm_model.specs.State.{Graph, element}
use Rattle.pm_model.specs.Sessions.{session, process}
use Rattle.pm_model.specs.Resolve.{prohibition}
use Rattle.pm_model.specs.declared.elements.Kind.TheVariants.{User, Ua, Object, Oa, Pc}
use Rattle.pm_model.specs.declared.prohibitions.Prohibition.{Prohibition}
use Rattle.pm_model.specs.declared.prohibitions.Mode.TheVariants.{All}
use Rattle.pm_model.specs.declared.prohibitions.Subject.TheVariants as subject
use Rattle.pm_model.specs.declared.obligations.Obligation.{Obligation}
use Rattle.pm_model.specs.declared.actions.Act.{Act}
use Rattle.pm_model.specs.declared.actions.Act.TheVariants as act
use Rattle.pm_model.specs.declared.actions.Term.TheVariants.{Named, EventTarget}
use Rattle.pm_model.specs.declared.requests.Body.{Body}
use Rattle.pm_model.specs.declared.requests.Body.TheVariants.{Access, Admin, Review}
use Rattle.pm_model.specs.declared.requests.Command.TheVariants as command
use Rattle.pm_model.specs.declared.requests.Question.TheVariants as question
use Rattle.pm_model.specs.declared.replies.Reason.{Reason}
use Rattle.pm_model.specs.declared.replies.Reason.TheVariants.{Class}
use Rattle.pm_model.specs.declared.replies.Reason.TheVariants as reason
use Rattle.pm_model.specs.declared.replies.Refusal.TheVariants.{Denied}
use Rattle.pm_model.specs.declared.replies.Reply.{Reply}
use Rattle.pm_model.specs.declared.replies.Reply.TheVariants.{Refused, ResponseRefused}
use Rattle.pm_laws.specs.Examples.{opening_with, procs}

-- ann is denied `read` on what is sealed
abbrev pub seal : Prohibition
seal = prohibition (codes "seal") (subject.User 6) 1 (10 ∷ []) [] All

-- by this author, where the draft is read
abbrev pub on_draft : List ℕ → ℕ → Act → Obligation
on_draft name author done = record {
  name = name;
  author = author;
  pattern = record { on = codes "read"; user = None; target = Some 9 };
  response = record { guards = []; act = done } ∷ [];
}

-- what is read goes into the archive too, by root; and ann's obligation would delete it
abbrev pub archiving : Obligation
archiving = on_draft (codes "archiving") 2 (act.Assign EventTarget (Named (codes "archive")))

abbrev pub clearing : Obligation
clearing = on_draft (codes "clearing") 6 (act.Delete EventTarget)

-- the class `wards` beside `pm`, and in it nurses, who may read what is among the charts, and what is sealed. The archive is
-- in `pm`. The chart is among the charts and in the archive, the draft among the charts, and the will among them and
-- sealed. Ann is a nurse; process 1 acts for her.
abbrev pub hospital : Graph
hospital = record (opening_with
    (element 3 Pc (codes "wards") ∷ element 4 Ua (codes "nurses") ∷ element 5 Oa (codes "charts") ∷ element 6 User (codes "ann")
    ∷ element 7 Object (codes "chart") ∷ element 8 Oa (codes "archive") ∷ element 9 Object (codes "draft")
    ∷ element 10 Oa (codes "sealed") ∷ element 11 Object (codes "will") ∷ [])
    ((4, 3) ∷ (5, 3) ∷ (6, 4) ∷ (7, 5) ∷ (7, 8) ∷ (8, 0) ∷ (9, 5) ∷ (10, 3) ∷ (11, 5) ∷ (11, 10) ∷ [])) {
      associations = record { ua = 4; rights = 1; at = 5 } ∷ [];
      prohibitions = seal ∷ [];
      obligations = archiving ∷ clearing ∷ [];
      procs = procs (session 0 2 ∷ session 1 6 ∷ []) (process 0 0 ∷ process 1 1 ∷ []) 2 2;
    }

-- what is asked, and the denial that is told
abbrev pub denials : List (Body × Reply)
denials =
    -- the nurses may read among the charts, which aren't in `pm`
    (Access 1 (codes "read") (codes "chart"), Refused (Denied (codes "read") 7 (Class 0)))
    -- in both classes nobody may write: the first is told
    ∷ (Access 1 (codes "write") (codes "chart"), Refused (Denied (codes "write") 7 (Class 0)))
    ∷ (Access 1 (codes "write") (codes "draft"), Refused (Denied (codes "write") 9 (Class 3)))
    ∷ (Access 1 (codes "read") (codes "will"), Refused (Denied (codes "read") 11 (reason.Prohibition (codes "seal"))))
    ∷ (Admin 1 (command.Delete (codes "draft")), Refused (Denied (codes "delete") 9 (Class 3)))
    ∷ (Review 1 (question.Entries (codes "draft")), Refused (Denied (codes "review") 9 (Class 3)))
    -- the response before has put the draft into the archive, and so into `pm`
    ∷ (Access 1 (codes "read") (codes "draft"), ResponseRefused (codes "clearing") 1 (Denied (codes "delete") 9 (Class 0))) ∷ []

-- a right and an element that are denied to ann's process, and the reason
abbrev pub causes : List (ℕ × ℕ × Reason)
causes = (0, 7, Class 0) ∷ (0, 11, reason.Prohibition (codes "seal")) ∷ []

-- a reason that doesn't hold
abbrev pub no_causes : List (ℕ × ℕ × Reason)
no_causes =
    -- in this class the right is given
    (0, 7, Class 3)
    -- this class doesn't contain the draft, and this is no class
    ∷ (0, 9, Class 0)
    ∷ (1, 7, Class 5)
    -- the second class in which the right is not given
    ∷ (1, 7, Class 3)
    -- the prohibition covers what is sealed alone, and of it `read` alone
    ∷ (0, 9, reason.Prohibition (codes "seal"))
    ∷ (1, 11, reason.Prohibition (codes "seal"))
    -- no prohibition has this name
    ∷ (0, 11, reason.Prohibition (codes "lock"))
    -- a class comes before a prohibition
    ∷ (0, 11, Class 3) ∷ []
