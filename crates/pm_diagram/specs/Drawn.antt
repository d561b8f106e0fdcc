-- What a diagram keeps: its rows tell the containment of its assignments, which join live elements.
use Rattle.std.specs.Prelude.{◌≡◌, ◌<◌, ℕ, List, Option, is_some}
use Rattle.pm_model.specs.State.{element_at}
use Rattle.pm_model.specs.Formed.{Each, AreRising, IsLive}
use Rattle.pm_model.specs.declared.elements.Element.{Element}
use Rattle.pm_reach.specs.Rows.{has, most}
use Rattle.pm_reach.specs.Changes.{TellContainment}
use Rattle.pm_diagram.specs.Shape.{Shape}
use Rattle.pm_diagram.specs.declared.diagram.Diagram.TheInside.{Inside}

abbrev pub shape_of : Inside → Shape
shape_of d = record { elements = d.elements.elements; assigned = d.elements.assigned }

-- both ends are live
abbrev pub JoinsLive : List Element → (ℕ × ℕ) → Type 0
JoinsLive es pair = IsLive es pair.0 × IsLive es pair.1

pub record Drawn (es : List Element) (assigned : List (ℕ × ℕ)) (rows : List (List (Option (List ℕ)))) : Type 0 where
  -- the live elements have rows, and no others
  pub live : (x : ℕ) → has rows x ≡ is_some (element_at es x)
  pub told : TellContainment assigned rows
  pub joined : Each (JoinsLive es) assigned
  -- the numbers rise, so the least unused one is no live element's
  pub rising : AreRising 0 es
  pub few : (x : ℕ) → IsLive es x → x < most

abbrev pub IsDrawn : Inside → Type 0
IsDrawn d = Drawn d.elements.elements d.elements.assigned d.rows.rows

-- the rows are of the live elements, and tell the containment of the assignments
pub record IsTold (d : Shape) (rows : List (List (Option (List ℕ)))) : Type 0 where
  pub live : (x : ℕ) → has rows x ≡ is_some (element_at d.elements x)
  pub told : TellContainment d.assigned rows
