-- Bytes of the output that go to a link, piece after piece, and the link's counts.
use Rattle.std.proofs.Common.{◌≡◌, ℕ, List, [], ◌++◌, take, drop, refl, sym, ◌∙◌, ap, arith, append_assoc}
use Rattle.std.proofs.lemmas.List.{take-append-drop}
use Rattle.std.specs.Io.KnownBytes.{Appends, Keeps}
use Rattle.pm_model.specs.Causes.{Rose}
use Rattle.pm_session.specs.Streams.{Streams}
use Rattle.pm_io.specs.Wires.{Wire, IsLater, IsQuiet, HasFailed, HasNoneToRead, HasNoRoom}
use Rattle.pm_io.proofs.Known.{Appends-nil, Appends-append, Appends-kept}
use Rattle.pm_worker.specs.Turns.{Sends}

pub later-self : (v : Wire) → IsLater v v
later-self v = record { faults = omega arith; reads = omega arith; writes = omega arith }

pub later-then : (u v w : Wire) → IsLater u v → IsLater v w → IsLater u w
later-then u v w a b =
    let af = a.faults in let ar = a.reads in let aw = a.writes in
    let bf = b.faults in let br = b.reads in let bw = b.writes in
    record { faults = omega arith; reads = omega arith; writes = omega arith }

pub quiet-self : (v : Wire) → IsQuiet v v
quiet-self v = record { faults = refl; reads = refl; writes = refl }

pub quiet-then : (u v w : Wire) → IsQuiet u v → IsQuiet v w → IsQuiet u w
quiet-then u v w a b = record { faults = b.faults ∙ a.faults; reads = b.reads ∙ a.reads; writes = b.writes ∙ a.writes }

rose-by : (a b c : ℕ) → b ≡ a → Rose b c → Rose a c
rose-by a b c e r = rw e at r

pub failed-then : (u v w : Wire) → IsQuiet u v → HasFailed v w → HasFailed u w
failed-then u v w a b = record { rose = rose-by _ _ _ a.faults b.rose; reads = b.reads ∙ a.reads; writes = b.writes ∙ a.writes }

pub none-then : (u v w : Wire) → IsQuiet u v → HasNoneToRead v w → HasNoneToRead u w
none-then u v w a b = record { rose = rose-by _ _ _ a.reads b.rose; faults = b.faults ∙ a.faults; writes = b.writes ∙ a.writes }

pub room-then : (u v w : Wire) → IsQuiet u v → HasNoRoom v w → HasNoRoom u w
room-then u v w a b = record { rose = rose-by _ _ _ a.writes b.rose; faults = b.faults ∙ a.faults; reads = b.reads ∙ a.reads }

-- what was sent so far, no count having risen
pub record Sending (v w : Wire) (a b : Streams) : Type 0 where
  pub sends : Sends v w a b
  pub quiet : IsQuiet v w

pub sends-none : (v : Wire) (a : Streams) → Sends v v a a
sends-none v a = record {
  bytes = [];
  appended = Appends-nil v.taken;
  split = refl;
  left = refl;
  later = later-self v;
  waiting = refl;
}

pub sending-begin : (v : Wire) (a : Streams) → Sending v v a a
sending-begin v a = record { sends = sends-none v a; quiet = quiet-self v }

-- so many bytes more were taken
pub sends-more : (u v w : Wire) (a b c : Streams) (n : ℕ) → Sends u v a b → Appends v.taken w.taken (take n b.output) → c.output ≡ drop n b.output
    → w.left ≡ v.left → IsLater v w → c.waiting ≡ b.waiting → Sends u w a c
sends-more u v w a b c n h app is left later waits = record {
  bytes = h.bytes ++ take n b.output;
  appended = Appends-append u.taken v.taken w.taken h.bytes (take n b.output) h.appended app;
  split =
      h.split
      ∙ ap (λ (l : List ℕ). h.bytes ++ l) (sym (take-append-drop n b.output) ∙ ap (λ (l : List ℕ). take n b.output ++ l) (sym is))
      ∙ sym (append_assoc h.bytes (take n b.output) c.output);
  left = left ∙ h.left;
  later = later-then u v w h.later later;
  waiting = waits ∙ h.waiting;
}

-- nothing more was taken
pub sends-kept : (u v w : Wire) (a b : Streams) → Sends u v a b → Keeps v.taken w.taken → w.left ≡ v.left → IsLater v w → Sends u w a b
sends-kept u v w a b h k left later = record {
  bytes = h.bytes;
  appended = Appends-kept u.taken v.taken w.taken h.bytes h.appended k;
  split = h.split;
  left = left ∙ h.left;
  later = later-then u v w h.later later;
  waiting = h.waiting;
}
