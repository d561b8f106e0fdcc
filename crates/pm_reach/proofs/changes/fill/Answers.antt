-- The row of z has z; where no container of z has a higher number, no search is left.
use Rattle.std.proofs.Common.{inl, inr}
use Rattle.std.proofs.lemmas.Bool.{false≢true}
use Rattle.pm_model.proofs.ContainmentLaws.{contained-itself}
use Rattle.pm_reach.proofs.changes.fill.Goals as goal

pub gather-requires-clause-z : goal.gather-requires-clause-z
gather-requires-clause-z g c = c.requires.wide c.args.z (contained-itself (g.P.Parents.assigned c.args.parents.now) c.args.z)

pub search-requires-clause-fits : goal.search-requires-clause-fits
search-requires-clause-fits g c = elim c.requires.fits [
  | inl last ↦ absurd (false≢true (c.if-not-gather.ensures.last last))
  | inr fits ↦ fits
]

pub search-requires-clause-within : goal.search-requires-clause-within
search-requires-clause-within g c q h = rw c.if-not-gather.ensures.long (c.requires.wide q h)
