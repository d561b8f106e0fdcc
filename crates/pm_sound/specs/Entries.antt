-- The element of an entry of a map from names to kinds.
use Rattle.std.specs.Prelude.{ℕ, List}
use Rattle.pm_model.specs.declared.elements.Kind.{Kind}
use Rattle.pm_policy.specs.Policy.{doc_element}
use Rattle.pm_policy.specs.declared.policy.DocElement.{DocElement}

abbrev pub element : List ℕ × Kind → DocElement
element entry = doc_element entry.1 entry.0
