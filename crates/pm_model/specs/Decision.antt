-- Privileges, prohibitions and the reason of a denial, over any test of containment. Source: the report's derived
-- privileges (u, r, e): in each policy class that contains e some association gives r on it to an attribute that contains
-- u; and its prohibitions on users, user attributes and processes, with inclusion and exclusion sets. Which class or which
-- prohibition is told is the project's own.
use Rattle.std.specs.Prelude.{ℕ, Bool, false, not, ◌==◌, ◌&&◌, ◌||◌, List, [], ◌∷◌, ◌++◌, map, Option, None, Some, filter, find}
use Rattle.std.specs.List.{list_any, list_all, position_from}
use Rattle.pm_model.specs.RightSet.{has_right, from_bits, right_bits}
use Rattle.pm_model.specs.declared.prohibitions.Prohibition.{Prohibition}
use Rattle.pm_model.specs.declared.prohibitions.Subject.{Subject}
use Rattle.pm_model.specs.declared.prohibitions.Subject.TheVariants.{User, Ua, Process}
use Rattle.pm_model.specs.declared.prohibitions.Mode.{Mode}
use Rattle.pm_model.specs.declared.prohibitions.Mode.TheVariants.{All, Any}
use Rattle.pm_model.specs.declared.rights.Association.{Association}
use Rattle.pm_model.specs.declared.rights.Grant.{Grant}
use Rattle.pm_model.specs.declared.rights.Grantee.{Grantee}

module _ (below : ℕ → ℕ → Bool) where
  -- the classes that contain e, by rising number
  abbrev pub classes_of : List ℕ → ℕ → List ℕ
  classes_of classes e = filter (λ pc. below e pc) classes

  -- the association gives u the right r on e in the class pc
  abbrev pub meets : ℕ → ℕ → ℕ → ℕ → Association → Bool
  meets u r e pc a = has_right a.rights r && below u a.ua && below e a.at && below a.at pc

  abbrev pub is_met : List Association → ℕ → ℕ → ℕ → ℕ → Bool
  is_met associations u r e pc = list_any (meets u r e pc) associations

  -- in each class that contains e some association gives u the right
  abbrev pub privilege : List Association → List ℕ → ℕ → ℕ → ℕ → Bool
  privilege associations classes u r e = list_all (is_met associations u r e) (classes_of classes e)

  -- the first class that contains e in which none does
  abbrev pub lacking : List Association → List ℕ → ℕ → ℕ → ℕ → Option ℕ
  lacking associations classes u r e = find (λ pc. not (is_met associations u r e pc)) (classes_of classes e)

  -- ---- prohibitions

  -- mode all: e is contained in every inclusion attribute and in no exclusion attribute;
  -- mode any: e is contained in some inclusion attribute, or isn't contained in some exclusion attribute
  abbrev pub range_by : Mode → List ℕ → List ℕ → ℕ → Bool
  range_by All inc exc e = list_all (below e) inc && not (list_any (below e) exc)
  range_by Any inc exc e = list_any (below e) inc || list_any (λ a. not (below e a)) exc

  -- r is among the rights of the prohibition, and e lies in its range
  abbrev pub covers : ℕ → ℕ → Prohibition → Bool
  covers r e p = has_right p.rights r && range_by p.mode p.inc p.exc e

  -- the subject is the user u, a user attribute that contains u, or the process q; with no process the last part is false
  abbrev pub applies_by : ℕ → Option ℕ → Subject ℕ ℕ → Bool
  applies_by u q (User x) = u == x
  applies_by u q (Ua x) = below u x
  applies_by u None (Process p) = false
  applies_by u (Some q) (Process p) = q == p

  -- the prohibition applies to u and q, and covers r on e
  abbrev pub forbids : ℕ → Option ℕ → ℕ → ℕ → Prohibition → Bool
  forbids u q r e p = applies_by u q p.subject && covers r e p

  -- the first prohibition, in order of creation, that does
  abbrev pub forbidding : List Prohibition → ℕ → Option ℕ → ℕ → ℕ → Option Prohibition
  forbidding prohibitions u q r e = find (forbids u q r e) prohibitions

  -- its place
  abbrev pub first_applying : List Prohibition → ℕ → Option ℕ → ℕ → ℕ → Option ℕ
  first_applying prohibitions u q r e = position_from (forbids u q r e) 0 prohibitions

  -- u has the privilege, and no prohibition that applies with no process covers it
  abbrev pub has_right_on : List Association → List Prohibition → List ℕ → ℕ → ℕ → ℕ → Bool
  has_right_on associations prohibitions classes u e r =
      privilege associations classes u r e && not (list_any (forbids u None r e) prohibitions)

  -- the set of the rights that u has on e
  abbrev pub rights_on : List Association → List Prohibition → List ℕ → ℕ → ℕ → ℕ
  rights_on associations prohibitions classes u e = from_bits (has_right_on associations prohibitions classes u e) right_bits

-- what a judge goes by: which elements are live, and the set of the rights that a user has on an element
pub record Judgement : Type 0 where
  pub live : ℕ → Bool
  pub rights : ℕ → ℕ → ℕ

abbrev pub is_grantee : ℕ → Grantee → Bool
is_grantee ua g = g.ua == ua

-- the associations of a user attribute
abbrev pub of_grantee : Grantee → List Association
of_grantee g = map (λ (h : Grant). let a : Association = record { ua = g.ua; rights = h.rights; at = h.at } in a) g.grants

-- the associations of all
abbrev pub associations_of : List Grantee → List Association
associations_of [] = []
associations_of (g ∷ gs) = of_grantee g ++ associations_of gs
