-- The requests of a document, in their order: rights, elements, other assignments, associations, prohibitions. The project's
-- own.
use Rattle.std.specs.Prelude.{ℕ, Bool, true, false, not, ◌&&◌, List, ◌++◌, map, filter, find, Option, None, Some}
use Rattle.pm_model.specs.declared.requests.Command.{Command}
use Rattle.pm_model.specs.declared.requests.Command.TheVariants as command
use Rattle.pm_model.specs.declared.requests.Body.TheVariants as body
use Rattle.pm_model.specs.declared.requests.Request.{Request}
use Rattle.pm_policy.specs.Policy.{is_assigned, is_same}
use Rattle.pm_policy.specs.declared.policy.Policy.{Policy}
use Rattle.pm_policy.specs.Order.{sorted, order, is_made, leads_before, is_below}
use Rattle.std.specs.Ordering.{nat_cmp, match_ordering}
use Rattle.std.specs.Cmp.Lexicographic.{slice_cmp}
use Rattle.pm_policy.specs.declared.policy.DocElement.{DocElement}
use Rattle.pm_policy.specs.declared.policy.DocAssignment.{DocAssignment}
use Rattle.pm_policy.specs.declared.policy.DocAssociation.{DocAssociation}
use Rattle.pm_policy.specs.declared.policy.DocProhibition.{DocProhibition}

-- the assignment of an element with which it is made: of those by name, its first
abbrev pub first_assignment : List DocAssignment → List ℕ → Option DocAssignment
first_assignment pairs name = find (is_assigned name) pairs

abbrev pub is_first_of : DocAssignment → Option DocAssignment → Bool
is_first_of p None = false
is_first_of p (Some q) = is_same p q

-- one of these elements is made with this assignment; those of the opening's elements are none such
abbrev pub is_first : List DocElement → List DocAssignment → DocAssignment → Bool
is_first es pairs p = is_made es p.from && is_first_of p (first_assignment pairs p.from)

-- the others
abbrev pub others : List DocElement → List DocAssignment → List DocAssignment
others es pairs = filter (λ p. not (is_first es pairs p)) pairs

abbrev pub created_in : DocElement → Option DocAssignment → Command
created_in e None = command.CreatePc e.name
created_in e (Some p) = command.Create e.kind e.name p.to

abbrev pub create : List DocAssignment → DocElement → Command
create pairs e = created_in e (first_assignment pairs e.name)

abbrev pub assign : DocAssignment → Command
assign p = command.Assign p.from p.to

abbrev pub associate : DocAssociation → Command
associate a = command.Associate a.ua a.rights a.at

abbrev pub prohibit : DocProhibition → Command
prohibit p = command.Prohibit p.name p.subject p.rights p.inc p.exc p.mode

-- by ua, then at
abbrev pub joins_before : DocAssociation → DocAssociation → Bool
joins_before a b = match_ordering (slice_cmp nat_cmp a.ua b.ua) true (is_below a.at b.at) false

-- the assignments by name
abbrev pub by_name : Policy → List DocAssignment
by_name D = sorted leads_before D.assignments

abbrev pub commands : Policy → List Command
commands D =
    map command.DefineRight D.rights
    ++ map (create (by_name D)) (order (by_name D) D.elements)
    ++ map assign (others D.elements (by_name D))
    ++ map associate (sorted joins_before D.associations)
    ++ map prohibit D.prohibitions

-- by process 0, whose user is root
abbrev pub asked : Command → Request
asked c = record { after = None; body = body.Admin 0 c }

abbrev pub requests : Policy → List Request
requests D = map asked (commands D)
