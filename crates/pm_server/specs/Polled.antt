-- What is known of a feed of polled connections. The project's own.
use Rattle.std.specs.Prelude.{ℕ, ◌≡◌, ◌≤◌, ◌<◌, ◌+◌, ◌-◌, ◌*◌, Bool, Option, Some, None, IfSome}
use mathlib.Core.Logic.{◌⊎◌}
use Rattle.slab.specs.Slab.{Slab, slab_len, get, Updates}
use Rattle.pm_handoff.specs.Ends.{End}
use Rattle.pm_worker.specs.Feeding.{count_out}
use Rattle.pm_worker.specs.declared.turns.Turn.{Turn}
use Rattle.pm_worker.specs.declared.turns.Turn.TheVariants.{Idle, More}
use Rattle.pm_server.specs.KeySets.{KeySet, HasKey, HasAdded, HasTaken}

-- the connections, each at its key, but for the one that is out, whose key is the vacant one; the keys of those that are to
-- have a turn in this round, and in the next; the number of the one that is out; whether it has said that there are no more,
-- whether polling has failed, and whether the server is at its end; the end of the hand-off that its connections
-- come by; and the time of this round, in nanoseconds
pub record Polled (A : Type 0) : Type 0 where
  pub conns : Slab A
  pub round : KeySet
  pub later : KeySet
  pub out : Option ℕ
  pub stopped : Bool
  pub failed : Bool
  pub over : Bool
  pub taker : End
  pub time : ℕ

-- there are 1,024 places, of which the one that is out keeps its own
pub record HasPlaces {A : Type 0} (out : Option ℕ) (conns : Slab A) : Type 0 where
  pub taken : slab_len conns + count_out out ≤ 1024
  pub room : 1024 ≤ conns.capacity

-- of the keys of this round this one is the lowest with a connection, and this is the connection there
pub record IsFirst {A : Type 0} (f : Polled A) (key : ℕ) (rest : A) : Type 0 where
  pub due : HasKey f.round key
  pub held : get f.conns key ≡ Some rest
  pub lowest : (k : ℕ) → k < key → HasKey f.round k → get f.conns k ≡ None

-- the connection at this key went out, and no other
pub record GoesOut {A : Type 0} (f g : Polled A) (key : ℕ) : Type 0 where
  pub gone : Updates f.conns g.conns key None
  pub place : g.conns.vacant_key ≡ key
  pub later : g.later ≡ f.later

-- the lowest key of the round was taken, at which this connection rested, and it went out
pub record TakesOut {A C : Type 0} (f g : Polled A) (conn : C) (conn_of : A → C) : Type 0 where
  pub key : ℕ
  pub rest : A
  pub taken : HasTaken f.round g.round (Some key)
  pub held : get f.conns key ≡ Some rest
  pub is : conn ≡ conn_of rest
  pub goes : GoesOut f g key

-- the lowest key of the round was taken, at which no connection rests, or there was none
pub record TakesNone {A : Type 0} (f g : Polled A) : Type 0 where
  pub key : Option ℕ
  pub taken : HasTaken f.round g.round key
  pub none : IfSome key (λ k. get f.conns k ≡ None)
  pub conns : g.conns ≡ f.conns
  pub later : g.later ≡ f.later

-- the connection that was out rests at its key again
pub record IsBack {A C : Type 0} (f g : Polled A) (conn : C) (conn_of : A → C) : Type 0 where
  pub rest : A
  pub is : conn_of rest ≡ conn
  pub put : Updates f.conns g.conns f.conns.vacant_key (Some rest)

-- one that is to go on rests at its key; where its turn left something to do it has another in the next round; any other goes
abbrev pub TakesBack : {A C : Type 0} → Polled A → Polled A → Turn → C → (A → C) → Type 0
TakesBack f g Idle conn conn_of = IsBack f g conn conn_of × (g.later ≡ f.later)
TakesBack f g More conn conn_of = IsBack f g conn conn_of × HasAdded f.later g.later f.conns.vacant_key
TakesBack f g _ conn conn_of = (g.conns ≡ f.conns) × (g.later ≡ f.later)

-- there was no turn since then for 60 seconds
abbrev pub IsSilent : ℕ → ℕ → Type 0
IsSilent now since = 60 * 1_000_000_000 ≤ now - since

-- each connection that rested does so still, but for those that have come to be silent
pub record Stays {A : Type 0} (since_of : A → ℕ) (f g : Polled A) : Type 0 where
  pub later : f.time ≤ g.time
  pub place : g.taker.place ≡ f.taker.place
  pub rests : (key : ℕ) (rest : A) → get f.conns key ≡ Some rest → (get g.conns key ≡ Some rest) ⊎ IsSilent g.time (since_of rest)
