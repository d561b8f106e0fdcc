-- What a decision may ask about: elements that are live.
use Rattle.std.specs.Prelude.{ℕ, Bool, true, List, IsTrue, All}
use Rattle.pm_model.specs.Containment.{Relation}
use Rattle.pm_model.specs.declared.prohibitions.Prohibition.{Prohibition}
use Rattle.pm_model.specs.declared.prohibitions.Subject.{Subject}
use Rattle.pm_model.specs.declared.prohibitions.Subject.TheVariants.{User, Ua, Process}
use Rattle.pm_model.specs.declared.rights.Grant.{Grant}
use Rattle.pm_model.specs.declared.rights.Grantee.{Grantee}

abbrev pub IsLive : Relation → ℕ → Type 0
IsLive relation x = IsTrue (relation.live x)

abbrev pub AllLive : Relation → List ℕ → Type 0
AllLive relation xs = All (IsLive relation) xs

-- both ends of each association of the user attribute
pub record GranteeLive (relation : Relation) (g : Grantee) : Type 0 where
  pub ua : IsLive relation g.ua
  pub places : All (λ (h : Grant). IsLive relation h.at) g.grants

-- both ends of each association
abbrev pub EndsLive : Relation → List Grantee → Type 0
EndsLive relation gs = All (GranteeLive relation) gs

-- the subject, where it is an element
abbrev pub is_subject_live : Relation → Subject ℕ ℕ → Bool
is_subject_live relation (User x) = relation.live x
is_subject_live relation (Ua x) = relation.live x
is_subject_live relation (Process p) = true

abbrev pub SubjectLive : Relation → Subject ℕ ℕ → Type 0
SubjectLive relation s = IsTrue (is_subject_live relation s)

-- all that the prohibition names
pub record NamesLive (relation : Relation) (p : Prohibition) : Type 0 where
  pub subject : SubjectLive relation p.subject
  pub inc : AllLive relation p.inc
  pub exc : AllLive relation p.exc

-- all that each prohibition names
abbrev pub BarsLive : Relation → List Prohibition → Type 0
BarsLive relation ps = All (NamesLive relation) ps

-- ---- questions

-- a question about one class: the user, the element, the class, and both ends of each association
pub record IsAskedIn (relation : Relation) (gs : List Grantee) (u e pc : ℕ) : Type 0 where
  pub user : IsLive relation u
  pub element : IsLive relation e
  pub class : IsLive relation pc
  pub grants : EndsLive relation gs

-- the same about a list of classes
pub record IsAsked (relation : Relation) (gs : List Grantee) (pcs : List ℕ) (u e : ℕ) : Type 0 where
  pub user : IsLive relation u
  pub element : IsLive relation e
  pub classes : AllLive relation pcs
  pub grants : EndsLive relation gs
