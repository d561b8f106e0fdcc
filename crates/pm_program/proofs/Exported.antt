-- How the document of a machine comes to be written, or not.
use Rattle.std.proofs.Common.{◌≡◌, ◌≤◌, ◌∙◌, ℕ, List, [], ◌∷◌, Option, arith, refl, sym, ap, subst}
use Rattle.pm_document_text.specs.Text.{document_text}
use Rattle.pm_io.proofs.Known.{Appends-nil, Consumes-nil}
use Rattle.pm_laws.proofs.Recorded.{Records, records-next}
use Rattle.pm_model.specs.Causes.{Rose, raised}
use Rattle.pm_model.specs.History.{Machine, replay, state_of}
use Rattle.pm_model.specs.Lines.{Event, events}
use Rattle.pm_model.specs.Recorded.{history_after, recorded}
use Rattle.pm_model.specs.Solo.{asked_at, state_after}
use Rattle.pm_model.specs.State.{State, opening}
use Rattle.pm_model.specs.declared.requests.Entry.{Entry}
use Rattle.pm_policy.specs.Drawn.{policy_in_order}
use Rattle.pm_program.specs.Exporting.{Exported, IsExport, IsExportDue}
use Rattle.pm_program.specs.Reading.{Seen}
use Rattle.pm_run.specs.Coming.{state_past}
use Rattle.pm_run.specs.Ended.{Ended, Sides}
use Rattle.pm_run.specs.Reached.{Reached}
use Rattle.pm_run.specs.Statuses.{status_number}
use Rattle.pm_run.specs.Wrote.{WrotePart}
use Rattle.pm_run.specs.declared.statuses.Status.{Status}
use Rattle.pm_run.specs.declared.statuses.Status.TheVariants.{Done, Usage, ReadFault, WriteFault, Memory, TooMuch, Serve, ListenFault, ServeFault, ServeJournal, JournalFault, NotJournal, Damaged, Illegal, DocumentRefused}

-- the state after these lines is the replay of the history that they make
past-recorded : (H : List Entry) (S : State) (es : List Event) → Records H S → replay (history_after H es) ≡ state_past S es
past-recorded H S [] h = h.state
past-recorded H S (e ∷ es) h = past-recorded (recorded H (asked_at e).what) (state_after S e) es (records-next H S (asked_at e).what h)

-- the document of the machine that has answered all
pub reached-export : (limit : ℕ) (old new : Seen) (M : Machine) (text : List ℕ) → Reached limit old.left new.left (state_of M) → new.ends ≡ raised old.ends
    → text ≡ document_text (policy_in_order M.graph) → IsExport limit old new text
reached-export limit old new M text reached ended is = record {
  bytes = reached.bytes;
  consumed = reached.consumed;
  at_end = reached.at_end;
  ended = ended;
  short = reached.short;
  text_is = is
      ∙ ap (λ (S : State). document_text (policy_in_order S.graph))
      (reached.state ∙ sym (past-recorded [] opening (events reached.bytes) (record { legal = tt; state = refl })));
}

-- ---- nothing was written

-- a sink that never fails has no fault
pub never_rose : Rose 0 0 → ⊥
never_rose rose = omega (arith, rose)

-- the run has not come to the end of the source
pub unreached : (limit : ℕ) (old new : Sides) (taken : Option (List ℕ)) (status : Status) → Ended limit old new status → (status ≡ Done → ⊥) → (status ≡ WriteFault → ⊥)
    → Exported limit old.left new.left old.ends new.ends taken taken status
unreached limit old new taken Done e done write = absurd (done refl)
unreached limit old new taken Usage e done write = absurd (e.usage refl)
unreached limit old new taken ReadFault e done write = record {
  bytes = e.ran.bytes;
  written = [];
  consumed = e.ran.consumed;
  appended = Appends-nil taken;
  due = refl;
  whole = λ all. cc;
  within = e.ran.within;
  at_limit = λ other. (λ much. cc, λ full. (e.ran.at_limit other).1 (full, e.ran.due));
}
unreached limit old new taken WriteFault e done write = absurd (write refl)
unreached limit old new taken Memory e done write = record {
  bytes = e.ran.bytes;
  written = [];
  consumed = e.ran.consumed;
  appended = Appends-nil taken;
  due = refl;
  whole = λ all. cc;
  within = e.ran.within;
  at_limit = λ other. absurd (other refl);
}
unreached limit old new taken TooMuch e done write = record {
  bytes = e.ran.bytes;
  written = [];
  consumed = e.ran.consumed;
  appended = Appends-nil taken;
  due = refl;
  whole = λ all. cc;
  within = e.ran.within;
  at_limit = λ other. (λ much. ((e.ran.at_limit other).0 much).0, λ full. refl);
}
unreached limit old new taken (Serve port workers) e done write = absurd (e.serve port workers refl)
unreached limit old new taken ListenFault e done write = absurd e.ran.due
unreached limit old new taken ServeFault e done write = absurd e.ran.due
unreached limit old new taken (ServeJournal port workers) e done write = absurd (e.journal port workers refl)
unreached limit old new taken JournalFault e done write = absurd e.ran.due
unreached limit old new taken NotJournal e done write = absurd e.ran.due
unreached limit old new taken (Damaged at) e done write = absurd e.ran.due
unreached limit old new taken (Illegal at) e done write = absurd e.ran.due
unreached limit old new taken DocumentRefused e done write = absurd e.ran.due

-- there was no memory for a machine
pub unbegun : (limit before : ℕ) (left taken : Option (List ℕ)) → Exported limit left left before before taken taken Memory
unbegun limit before left taken = record {
  bytes = [];
  written = [];
  consumed = Consumes-nil left;
  appended = Appends-nil taken;
  due = refl;
  whole = λ all. cc;
  within = omega arith;
  at_limit = λ other. absurd (other refl);
}

-- ---- a front of the document was written

pub part_exported : (limit : ℕ) (old new : Seen) (taken grown : Option (List ℕ)) (text : List ℕ) → IsExport limit old new text → WrotePart taken grown (λ _. text)
    → Exported limit old.left new.left old.ends new.ends taken grown WriteFault
part_exported limit old new taken grown text all part = record {
  bytes = all.bytes;
  written = part.written;
  consumed = all.consumed;
  appended = part.appended;
  due = rw (sym all.text_is) (part.told []);
  whole = λ _. (all.at_end, all.ended);
  within = let short = all.short in omega (arith, short);
  at_limit = λ _. (λ much. cc, λ full. let short = all.short in absurd (omega (arith, short, full)));
}

-- ---- no other status is told

pub no_other : (limit before now : ℕ) (left rest taken grown : Option (List ℕ)) (status other : Status)
    → Exported limit left rest before now taken grown status → ((bytes written : List ℕ) → IsExportDue other bytes written → ⊥) → status ≡ other → ⊥
no_other limit before now left rest taken grown status other done none is =
    none done.bytes done.written (subst (λ s. IsExportDue s done.bytes done.written) is done.due)

pub small_number : (limit before now : ℕ) (left rest taken grown : Option (List ℕ)) (status : Status)
    → Exported limit left rest before now taken grown status → status_number status ≤ 6
small_number limit before now left rest taken grown Done e = omega arith
small_number limit before now left rest taken grown Usage e = omega arith
small_number limit before now left rest taken grown ReadFault e = omega arith
small_number limit before now left rest taken grown WriteFault e = omega arith
small_number limit before now left rest taken grown Memory e = omega arith
small_number limit before now left rest taken grown TooMuch e = omega arith
small_number limit before now left rest taken grown (Serve port workers) e = omega arith
small_number limit before now left rest taken grown ListenFault e = absurd e.due
small_number limit before now left rest taken grown ServeFault e = absurd e.due
small_number limit before now left rest taken grown (ServeJournal port workers) e = omega arith
small_number limit before now left rest taken grown JournalFault e = absurd e.due
small_number limit before now left rest taken grown NotJournal e = absurd e.due
small_number limit before now left rest taken grown (Damaged at) e = absurd e.due
small_number limit before now left rest taken grown (Illegal at) e = absurd e.due
small_number limit before now left rest taken grown DocumentRefused e = absurd e.due
