use Rattle.std.proofs.Common.{◌∙◌, sym}
use Rattle.pm_assoc.specs.Grantees.{is_of}
use Rattle.pm_assoc.proofs.Places.{passes-read, passes-none}
use Rattle.pm_assoc.proofs.search.stands_at.Goals as goal

pub returns-in-Some : goal.returns-in-Some
returns-in-Some c =
    c.eq.ensures ∙ sym (passes-read (is_of c.args.ua) c.args.grantees.now.items c.args.i c.in-Some.grantee.now (sym c.in-Some.ensures))

pub returns-in-None : goal.returns-in-None
returns-in-None c = sym (passes-none (is_of c.args.ua) c.args.grantees.now.items c.args.i (sym c.in-None.ensures))
