use Rattle.pm_print.proofs.Appending.{adds-as}
use Rattle.pm_print.proofs.Members.{quoted-plain, plain-name}
use Rattle.pm_print.proofs.put.add_quoted.Goals as goal

pub returns : goal.returns
returns c =
    let text = c.args.text.now in adds-as _ _ _ _ _ (quoted-plain text (plain-name text c.requires)) c.add_between_quotes.ensures
