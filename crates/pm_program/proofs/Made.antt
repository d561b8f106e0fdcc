-- How the lines of a document come to be written, or not.
use Rattle.std.proofs.Common.{◌≡◌, ◌<◌, ◌≤◌, ℕ, List, [], false, Option, arith, refl, length, subst}
use Rattle.std.specs.Io.KnownBytes.{Consumes}
use Rattle.pm_io.proofs.Known.{Appends-nil}
use Rattle.pm_program.specs.Making.{AreLinesDue, AreReady, Made, is_of_all}
use Rattle.pm_program.specs.Reading.{Seen}
use Rattle.pm_run.specs.Statuses.{status_number}
use Rattle.pm_run.specs.Wrote.{WrotePart}
use Rattle.pm_run.specs.declared.statuses.Status.{Status}
use Rattle.pm_run.specs.declared.statuses.Status.TheVariants.{Done, Usage, ReadFault, WriteFault, Memory, TooMuch, Serve, ListenFault, ServeFault, ServeJournal, JournalFault, NotJournal, Damaged, Illegal, DocumentRefused}

-- nothing was written, and not all was read
pub unread_told : (limit : ℕ) (left rest : Option (List ℕ)) (before now : ℕ) (taken : Option (List ℕ)) (bytes : List ℕ) (status : Status)
    → Consumes left rest bytes → length bytes < limit → AreLinesDue status bytes [] → is_of_all status ≡ false → (status ≡ TooMuch → ⊥)
    → Made limit left rest before now taken taken status
unread_told limit left rest before now taken bytes status consumed short due part other = record {
  bytes = bytes;
  written = [];
  consumed = consumed;
  appended = Appends-nil taken;
  due = due;
  whole = λ all. absurd (cc (part, all));
  within = omega (arith, short);
  at_limit = (λ much. absurd (other much), λ all. absurd (omega (arith, short, all)));
}

-- a front of the lines was written, of all that the source had
pub part_told : (limit : ℕ) (old new : Seen) (taken grown : Option (List ℕ)) (lines : List ℕ) → AreReady limit old new lines → WrotePart taken grown (λ _. lines)
    → Made limit old.left new.left old.ends new.ends taken grown WriteFault
part_told limit old new taken grown lines ready part =
    let all = ready.1 in
    let short = all.short in
    record {
      bytes = ready.0;
      written = part.written;
      consumed = all.consumed;
      appended = part.appended;
      due = (lines, ready.2, part.told []);
      whole = λ _. (all.at_end, all.ended);
      within = omega (arith, short);
      at_limit = (λ much. cc, λ same. absurd (omega (arith, short, same)));
    }

-- ---- no other status is told

pub no_other : (limit : ℕ) (left rest : Option (List ℕ)) (before now : ℕ) (taken grown : Option (List ℕ)) (status other : Status)
    → Made limit left rest before now taken grown status → ((bytes written : List ℕ) → AreLinesDue other bytes written → ⊥) → status ≡ other → ⊥
no_other limit left rest before now taken grown status other made none is =
    none made.bytes made.written (subst (λ s. AreLinesDue s made.bytes made.written) is made.due)

pub small_number : (limit : ℕ) (left rest : Option (List ℕ)) (before now : ℕ) (taken grown : Option (List ℕ)) (status : Status)
    → Made limit left rest before now taken grown status → (status ≡ DocumentRefused → ⊥) → status_number status ≤ 6
small_number limit left rest before now taken grown status made unrefused = by_status status made.due unrefused
  where
    by_status : (s : Status) → AreLinesDue s made.bytes made.written → (s ≡ DocumentRefused → ⊥) → status_number s ≤ 6
    by_status Done due other = omega arith
    by_status Usage due other = absurd due
    by_status ReadFault due other = omega arith
    by_status WriteFault due other = omega arith
    by_status Memory due other = omega arith
    by_status TooMuch due other = omega arith
    by_status (Serve port workers) due other = absurd due
    by_status ListenFault due other = absurd due
    by_status ServeFault due other = absurd due
    by_status (ServeJournal port workers) due other = absurd due
    by_status JournalFault due other = absurd due
    by_status NotJournal due other = absurd due
    by_status (Damaged at) due other = absurd due
    by_status (Illegal at) due other = absurd due
    by_status DocumentRefused due other = absurd (other refl)
