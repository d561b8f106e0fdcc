-- The requests that a line can ask for.
use Rattle.std.specs.Prelude.{◌≡◌, ◌<◌, ◌≤◌, ◌+◌, ◌^◌, ℕ, List, length, Option, None, IfSome, IsTrue}
use Rattle.pm_model.specs.Actions.{response_refusal}
use Rattle.pm_model.specs.Formed.{Each}
use Rattle.pm_model.specs.Forms.{distinct}
use Rattle.pm_model.specs.Name.{is_name}
use Rattle.pm_model.specs.declared.actions.Act.{Act}
use Rattle.pm_model.specs.declared.actions.Act.TheVariants as act
use Rattle.pm_model.specs.declared.actions.Action.{Action}
use Rattle.pm_model.specs.declared.actions.Guard.{Guard}
use Rattle.pm_model.specs.declared.actions.ProcessTerm.{ProcessTerm}
use Rattle.pm_model.specs.declared.actions.ProcessTerm.TheVariants.{Number, EventProcess}
use Rattle.pm_model.specs.declared.actions.Term.{Term}
use Rattle.pm_model.specs.declared.actions.Term.TheVariants.{Named, EventUser, EventTarget, Fresh}
use Rattle.pm_model.specs.declared.elements.Kind.{Kind}
use Rattle.pm_model.specs.declared.elements.Kind.TheVariants as kind
use Rattle.pm_model.specs.declared.events.When.{When}
use Rattle.pm_model.specs.declared.prohibitions.Subject.{Subject}
use Rattle.pm_model.specs.declared.prohibitions.Subject.TheVariants.{User, Ua, Process}
use Rattle.pm_model.specs.declared.requests.Asked.{Asked}
use Rattle.pm_model.specs.declared.requests.Body.{Body}
use Rattle.pm_model.specs.declared.requests.Body.TheVariants as body
use Rattle.pm_model.specs.declared.requests.Command.{Command}
use Rattle.pm_model.specs.declared.requests.Command.TheVariants as command
use Rattle.pm_model.specs.declared.requests.Question.{Question}
use Rattle.pm_model.specs.declared.requests.Question.TheVariants as question
use Rattle.pm_model.specs.declared.requests.Request.{Request}
use Rattle.pm_model.specs.declared.requests.What.TheVariants as what
use Rattle.pm_model.specs.declared.reviews.ReviewOf.{ReviewOf}
use Rattle.pm_model.specs.declared.reviews.ReviewOf.TheVariants as of

abbrev pub IsNamed : List ℕ → Type 0
IsNamed name = IsTrue (is_name name)

abbrev pub AreNamed : List (List ℕ) → Type 0
AreNamed names = Each IsNamed names

-- 1 to 32 names
pub record AreListed (names : List (List ℕ)) : Type 0 where
  pub named : AreNamed names
  pub some : 0 < length names
  pub few : length names ≤ 32

-- the same, each once
pub record AreRights (rights : List (List ℕ)) : Type 0 where
  pub listed : AreListed rights
  pub once : distinct rights ≡ rights

-- a number of 32 bits
abbrev pub IsShort : ℕ → Type 0
IsShort n = n < 2 ^ 32

abbrev pub IsSubject : {N P : Type 0} → (N → Type 0) → (P → Type 0) → Subject N P → Type 0
IsSubject IsElement IsProcess (User u) = IsElement u
IsSubject IsElement IsProcess (Ua a) = IsElement a
IsSubject IsElement IsProcess (Process p) = IsProcess p

-- the kind of what is made in a container
abbrev pub IsContained : Kind → Type 0
IsContained kind.User = Unit {0}
IsContained kind.Ua = Unit {0}
IsContained kind.Oa = Unit {0}
IsContained kind.Object = Unit {0}
IsContained kind.Pc = ⊥

-- ---- responses

-- what stands for an element, and what is given to what is made
abbrev pub IsTerm : Term → Type 0
IsTerm (Named name) = IsNamed name
IsTerm EventUser = Unit {0}
IsTerm EventTarget = Unit {0}
IsTerm Fresh = ⊥

abbrev pub IsGiven : Term → Type 0
IsGiven (Named name) = IsNamed name
IsGiven EventUser = ⊥
IsGiven EventTarget = ⊥
IsGiven Fresh = Unit {0}

abbrev pub IsProcessTerm : ProcessTerm → Type 0
IsProcessTerm (Number n) = IsShort n
IsProcessTerm EventProcess = Unit {0}

abbrev pub IsGuard : Guard → Type 0
IsGuard g = IsTerm g.inner × IsTerm g.outer

-- where rights are as this says
module _ (AreFit : List (List ℕ) → Type 0) where
  pub record AreBars (name : Term) (subject : Subject Term ProcessTerm) (rights : List (List ℕ)) (inc exc : List Term) : Type 0 where
    pub given : IsGiven name
    pub subject_is : IsSubject IsTerm IsProcessTerm subject
    pub rights_are : AreFit rights
    pub included : Each IsTerm inc
    pub excluded : Each IsTerm exc
    pub few : length inc + length exc ≤ 32

  abbrev pub IsAct : Act → Type 0
  IsAct (act.Create kind name into) = IsContained kind × IsGiven name × IsTerm into
  IsAct (act.Delete name) = IsTerm name
  IsAct (act.Assign from to) = IsTerm from × IsTerm to
  IsAct (act.Deassign from to) = IsTerm from × IsTerm to
  IsAct (act.Associate ua rights at) = IsTerm ua × AreFit rights × IsTerm at
  IsAct (act.Dissociate ua at) = IsTerm ua × IsTerm at
  IsAct (act.Prohibit name subject rights inc exc mode) = AreBars name subject rights inc exc
  IsAct (act.Lift name) = IsNamed name

  pub record IsAction (a : Action) : Type 0 where
    pub guarded : Each IsGuard a.guards
    pub few : length a.guards ≤ 4
    pub acts : IsAct a.act

pub record AreActions (actions : List Action) : Type 0 where
  pub each : Each (IsAction AreRights) actions
  pub fit : response_refusal actions ≡ None

pub record IsWhen (w : When) : Type 0 where
  pub on_named : IsNamed w.on
  pub user_named : IfSome w.user IsNamed
  pub target_named : IfSome w.target IsNamed

-- ---- requests

pub record AreSets (name : List ℕ) (subject : Subject (List ℕ) ℕ) (rights inc exc : List (List ℕ)) : Type 0 where
  pub named : IsNamed name
  pub subject_is : IsSubject IsNamed IsShort subject
  pub rights_are : AreRights rights
  pub included : AreNamed inc
  pub excluded : AreNamed exc
  pub few : length inc + length exc ≤ 32

abbrev pub IsKept : ReviewOf (List ℕ) → Type 0
IsKept (of.Caps name) = IsNamed name
IsKept (of.Entries name) = IsNamed name

abbrev pub IsCommand : Command → Type 0
IsCommand (command.CreatePc name) = IsNamed name
IsCommand (command.Create kind name into) = IsContained kind × IsNamed name × IsNamed into
IsCommand (command.Delete name) = IsNamed name
IsCommand (command.Assign from to) = IsNamed from × IsNamed to
IsCommand (command.Deassign from to) = IsNamed from × IsNamed to
IsCommand (command.Associate ua rights at) = IsNamed ua × AreRights rights × IsNamed at
IsCommand (command.Dissociate ua at) = IsNamed ua × IsNamed at
IsCommand (command.Prohibit name subject rights inc exc mode) = AreSets name subject rights inc exc
IsCommand (command.Lift name) = IsNamed name
IsCommand (command.DefineRight name) = IsNamed name
IsCommand (command.Oblige name when response) = IsNamed name × IsWhen when × AreActions response
IsCommand (command.Withdraw name) = IsNamed name
IsCommand (command.Keep review) = IsKept review
IsCommand (command.DropReview review) = IsShort review

abbrev pub IsQuestion : Question → Type 0
IsQuestion (question.Caps user) = IsNamed user
IsQuestion (question.Entries element) = IsNamed element
IsQuestion (question.Survey users) = AreListed users
IsQuestion (question.Kept review) = IsShort review
IsQuestion (question.Changes review) = IsShort review

abbrev pub IsBody : Body → Type 0
IsBody body.Version = Unit {0}
IsBody (body.OpenSession user) = IsNamed user
IsBody (body.CloseSession session) = IsShort session
IsBody (body.StartProcess session) = IsShort session
IsBody (body.EndProcess process) = IsShort process
IsBody (body.Access process right target) = IsShort process × IsNamed right × IsNamed target
IsBody (body.Admin process c) = IsShort process × IsCommand c
IsBody (body.Review process q) = IsShort process × IsQuestion q

-- a number of 64 bits, where there is one
abbrev pub IsWholeIf : Option ℕ → Type 0
IsWholeIf n = IfSome n (λ m. m < 2 ^ 64)

pub record IsAskable (request : Request) : Type 0 where
  pub after_fits : IsWholeIf request.after
  pub asks : IsBody request.body

-- a line with this id, or none, asks for the request
abbrev pub asking : Option ℕ → Request → Asked
asking id request = record { id = id; what = what.Request request }
