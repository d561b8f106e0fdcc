-- What holds of the commands of each part of a document holds of all its commands.
use Rattle.std.proofs.Common.{Contains, not}
use Rattle.pm_laws.proofs.Items.{each-append, each-at, each-from, each-map, filter-contains}
use Rattle.pm_model.specs.Formed.{Each}
use Rattle.pm_model.specs.declared.requests.Command.{Command}
use Rattle.pm_model.specs.declared.requests.Command.TheVariants as command
use Rattle.pm_policy.specs.Order.{leads_before, order, sorted, stands_before}
use Rattle.pm_policy.specs.Policy.{opening_docs}
use Rattle.pm_policy.specs.Requests.{assign, associate, by_name, commands, create, is_first, joins_before, others, prohibit}
use Rattle.pm_policy.specs.declared.policy.DocElement.{DocElement}
use Rattle.pm_policy.specs.declared.policy.Policy.{Policy}
use Rattle.pm_policy.proofs.Ordered.{ordered-within}
use Rattle.pm_policy.proofs.Sorted.{has-sorted}

module _ (D : Policy) (P : Command → Type 0) where
  within : (e : DocElement) → Contains (order (by_name D) D.elements) e → Contains D.elements e
  within e c = has-sorted stands_before D.elements e (ordered-within (by_name D) _ opening_docs (sorted stands_before D.elements) e c)

  pub each_command : Each (λ r. P (command.DefineRight r)) D.rights
      → ((e : DocElement) → Contains D.elements e → P (create (by_name D) e))
      → Each (λ p. P (assign p)) D.assignments → Each (λ a. P (associate a)) D.associations → Each (λ h. P (prohibit h)) D.prohibitions
      → Each P (commands D)
  each_command rights creates assigns associates prohibits = each-append P _ _
      (each-append P _ _
      (each-append P _ _
      (each-append P _ _
      (each-map P command.DefineRight D.rights rights)
      (each-map P (create (by_name D)) (order (by_name D) D.elements)
      (each-from (λ e. P (create (by_name D) e)) (order (by_name D) D.elements) (λ e c. creates e (within e c)))))
      (each-map P assign (others D.elements (by_name D))
      (each-from (λ p. P (assign p)) (others D.elements (by_name D)) (λ p c.
      each-at (λ p. P (assign p)) D.assignments p assigns
      (has-sorted leads_before D.assignments p (filter-contains (λ q. not (is_first D.elements (by_name D) q)) (by_name D) p c).0)))))
      (each-map P associate (sorted joins_before D.associations)
      (each-from (λ a. P (associate a)) (sorted joins_before D.associations) (λ a c.
      each-at (λ a. P (associate a)) D.associations a associates (has-sorted joins_before D.associations a c)))))
      (each-map P prohibit D.prohibitions prohibits)
