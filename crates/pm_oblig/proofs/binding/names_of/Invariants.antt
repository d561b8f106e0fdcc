use Rattle.std.proofs.Common.{◌≡◌, map, take}
use Rattle.pm_model.specs.Responses.{name_of}
use Rattle.pm_oblig.proofs.binding.names_of.Given as goal

abbrev pub invariant-loop-term : goal.invariant-loop-term
invariant-loop-term l = l.list ≡ map (name_of l.fn.names l.fn.fresh) (take l.term-index l.fn.terms)
