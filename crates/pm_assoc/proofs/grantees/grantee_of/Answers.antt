use Rattle.pm_assoc.proofs.Holding.{one-at}
use Rattle.pm_assoc.proofs.Places.{located, told-place, at-within}
use Rattle.pm_assoc.proofs.grantees.grantee_of.Goals as goal

pub at-requires : goal.at-requires
at-requires c =
    let gs = c.args.grantees.now.items in
    let place = told-place c.args.ua c.args.holders.now gs c.place.result (λ n l. c.requires.told n) (rw c.number.ensures at c.place.ensures) in
    at-within c.args.ua gs c.place.result (rw place (located c.args.ua 0 gs c.requires.ordered c.requires.there))

pub returns : goal.returns
returns c =
    let gs = c.args.grantees.now.items in
    let place = told-place c.args.ua c.args.holders.now gs c.place.result (λ n l. c.requires.told n) (rw c.number.ensures at c.place.ensures) in
    one-at c.args.ua 0 gs c.place.result c.at.result.now c.requires.ordered (rw place (located c.args.ua 0 gs c.requires.ordered c.requires.there)) c.at.ensures
