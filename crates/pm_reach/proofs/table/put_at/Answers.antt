-- A page behind the others has the row alone.
use Rattle.pm_reach.specs.NewRows.{IsBehind}
use Rattle.pm_reach.specs.Table.{tabled}
use Rattle.pm_reach.proofs.Pages.{pushed-others, short-pages}
use Rattle.pm_reach.proofs.table.put_at.Goals as goal

pub returns-in-Beyond-clause-others : goal.returns-in-Beyond-clause-others
returns-in-Beyond-clause-others c =
    let fits : IsBehind (tabled c.args.pages.now) c.args.x c.in-Beyond.page = rw c.in-Beyond.is at c.requires.fits in
    pushed-others c.args.x c.push_page.ensures (short-pages c.args.pages.now.items _ fits.behind) fits.alone
