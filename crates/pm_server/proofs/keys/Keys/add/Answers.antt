use Rattle.std.proofs.Common.{rules, ◌<◌, ◌/◌, length}
use Rattle.pm_server.proofs.KeyBits.{added}
use Rattle.pm_server.proofs.keys.Keys.add.Goals as goal

pub returns-then-key-lt-MOST : goal.returns-then-key-lt-MOST
returns-then-key-lt-MOST c =
    let within : c.args.key / 64 < length c.self.inside.words = search rules in
    rw (← c.self.view_is) (added c.self.inside.words c.args.key within)
