-- The project's own: how an end keeps what it knows in its pass of the queue.
use Rattle.std.specs.Prelude.{◌≡◌, true, []}
use Rattle.crossbeam_queue.specs.Passes.{Pass, view}
use Rattle.pm_handoff.specs.declared.rule.Known.{Known}
use Rattle.pm_handoff.specs.Ends.{End}

module _ {T : Type 0} where
  abbrev pub end_of : Pass T Known → End
  end_of p = record { place = p.table_id; given = (view p).given; taken = (view p).taken }

  -- it gives, and has given back each slot of the queue
  abbrev pub IsGiving : Pass T Known → Type 0
  IsGiving p = ((view p).gives ≡ true) × (p.me.1 ≡ [])

  -- it takes, and has given back each slot of the queue
  abbrev pub IsTaking : Pass T Known → Type 0
  IsTaking p = ((view p).takes ≡ true) × (p.me.1 ≡ [])
