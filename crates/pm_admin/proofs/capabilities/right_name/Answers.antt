use Rattle.pm_admin.proofs.FirstDenied.{right-named}
use Rattle.pm_admin.proofs.capabilities.right_name.Goals as goal

pub unwrap-requires : goal.unwrap-requires
unwrap-requires c = rw c.right_name.ensures (right-named c.args.graph.now c.args.right c.formed.ensures c.requires)
