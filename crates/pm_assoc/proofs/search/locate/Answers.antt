use Rattle.std.proofs.Common.{◌∙◌, sym}
use Rattle.pm_assoc.proofs.Places.{stands-at, stands-not, told-place, at-within, gap-within}
use Rattle.pm_assoc.proofs.search.locate.Goals as goal

pub returns-then-stands_at : goal.returns-then-stands_at
returns-then-stands_at c =
    let gs = c.args.grantees.now.items in
    let place = told-place c.args.ua c.args.holders.now gs c.place-i.result c.requires.lower (rw c.number.ensures at c.place-i.ensures) in
    let there = stands-at c.args.ua gs c.place-i.result c.requires.ordered place (sym c.stands_at.ensures ∙ c.if-stands_at.true) in
    record { bound = at-within c.args.ua gs c.place-i.result there; found = there; absent = tt }

pub returns-else-stands_at : goal.returns-else-stands_at
returns-else-stands_at c =
    let gs = c.args.grantees.now.items in
    let place = told-place c.args.ua c.args.holders.now gs c.place-i.result c.requires.lower (rw c.number.ensures at c.place-i.ensures) in
    let gap = stands-not c.args.ua gs c.place-i.result c.requires.ordered place (sym c.stands_at.ensures ∙ c.if-stands_at.false) in
    record { bound = gap-within c.args.ua gs c.place-i.result gap; found = tt; absent = gap }
