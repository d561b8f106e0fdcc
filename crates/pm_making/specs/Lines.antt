-- The lines of commands. The project's own.
use Rattle.std.specs.Prelude.{◌≡◌, ℕ, ◌<◌, List, [], ◌∷◌, ◌++◌, length, map, Option, None, Some, Contains}
use Rattle.pm_model.specs.declared.requests.Command.{Command}
use Rattle.pm_model.specs.declared.requests.Command.TheVariants as command
use Rattle.pm_order.specs.Ranked.{turn}
use Rattle.pm_order.specs.declared.creation.Turn.{Turn}
use Rattle.pm_policy.specs.Order.{order, sorted}
use Rattle.pm_policy.specs.Requests.{asked, by_name, commands, joins_before, others}
use Rattle.pm_policy.specs.declared.policy.DocElement.{DocElement}
use Rattle.pm_policy.specs.declared.policy.Policy.{Policy}
use Rattle.pm_print.specs.Requested.{request_text}
use Rattle.pm_making.specs.declared.lines.Parts.{Parts}
use Rattle.pm_by_name.specs.Keyed.{association_in}

-- the lines of these, one after another, without ids
abbrev pub lines_of : List Command → List ℕ
lines_of [] = []
lines_of (c ∷ cs) = request_text None (asked c) ++ lines_of cs

-- those of a document
abbrev pub document_lines : Policy → List ℕ
document_lines D = lines_of (commands D)

abbrev pub created_into : DocElement → Option (List ℕ) → Command
created_into e None = command.CreatePc e.name
created_into e (Some into) = command.Create e.kind e.name into

abbrev pub creating : Turn → Command
creating t = created_into t.element t.into

-- what stands in another order in the document, or is told otherwise
pub record ArePartsOf (D : Policy) (p : Parts) : Type 0 where
  pub turns : p.making.turns.items ≡ map (turn (by_name D)) (order (by_name D) D.elements)
  pub others : p.making.others.items ≡ others D.elements (by_name D)
  -- the associations by their places
  pub associations : map (association_in D.associations) p.associations.items ≡ sorted joins_before D.associations
  pub places : (k : ℕ) → Contains p.associations.items k → k < length D.associations
