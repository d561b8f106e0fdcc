-- The rights at the element and its mark are joined with those of the grant.
use Rattle.std.proofs.Common.{◌≡◌}
use Rattle.pm_given.proofs.Tells.{put-told}
use Rattle.pm_given.proofs.puts.put.Goals as goal

pub returns-clause-told : goal.returns-clause-told
returns-clause-told c =
    let rights : c.grant.inside.0.0.0 ≡ c.args.grant.rights = cc in
    let at : c.grant.inside.0.1.0 ≡ c.args.grant.at = cc in
    rw (c.number-n.ensures, at, rights) (put-told c.args.own.now c.args.marks.now c.args.grant c.requires.within c.requires.long)
