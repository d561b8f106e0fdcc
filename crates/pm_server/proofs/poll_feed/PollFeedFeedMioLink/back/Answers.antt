use Rattle.std.proofs.Common.{rules, ◌≡◌, ℕ, Some, refl, subst}
use Rattle.slab.specs.Slab.{Updates}
use Rattle.pm_worker.specs.declared.turns.Turn.TheVariants.{Idle}
use Rattle.pm_server.proofs.poll_feed.PollFeedFeedMioLink.back.Goals as goal

pub returns-in-Idle-clause-exact : goal.returns-in-Idle-clause-exact
returns-in-Idle-clause-exact g c =
    let turn : c.args.served.turn ≡ Idle = search rules in
    rw (← c.self.view_is, turn) (
      record {
        rest = record { conn = c.into_conn-conn.result; since = c.self.inside.time };
        is = c.into_conn-conn.ensures;
        put = subst (λ (k : ℕ). Updates c.self.inside.conns c.insert_reserved.new.self k (Some (record { conn = c.into_conn-conn.result; since = c.self.inside.time }))) c.insert_reserved.ensures.key c.insert_reserved.ensures.updates;
      },
      refl,
    )
