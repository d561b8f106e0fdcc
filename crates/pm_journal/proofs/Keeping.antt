-- What a keeper keeps, and why it fails.
use Rattle.std.proofs.Common.{◌≡◌, inl, inr, ⊎_elim, ℕ, ◌+◌, ◌-◌, ◌≤◌, ◌^◌, Bool, true, false, List, [], ◌∷◌, ◌++◌, map, Option, None, Some, min, refl, sym, ◌∙◌, ap, arith}
use Rattle.std.specs.Prelude.{Result, Ok, Err, option_map, IfSome, OnOk, OnErr}
use Rattle.std.proofs.lemmas.List.{map-append}
use Rattle.pm_model.specs.Causes.{HasKeepCause, Rose, raised}
use Rattle.pm_model.specs.declared.outside.KeepError.{KeepError}
use Rattle.pm_model.specs.declared.outside.KeepError.TheVariants as error
use Rattle.pm_model.specs.declared.requests.Entry.{Entry}
use Rattle.pm_model.specs.declared.requests.Request.{Request}
use Rattle.pm_model.specs.declared.requests.What.{What}
use Rattle.pm_model.specs.declared.requests.What.TheVariants as what
use Rattle.pm_model.specs.Asked.{asked}
use Rattle.pm_journal.specs.Notes.{Note, entry_of, request_in}
use Rattle.pm_journal.specs.Journals.{written}
use Rattle.pm_disk.specs.Disks.{Each, Leaves}
use Rattle.pm_journal.specs.Journals.{StandsFor, StandsForAny}
use Rattle.pm_journal.specs.Kept.{IsRecovered, StandsForEntry, told_entries}
use Rattle.pm_journal.proofs.Moments.{weakly}

-- the note of an entry, by a line that asks its request
pub same_entry : (e : Entry) (line : List ℕ) → (asked line).what ≡ what.Request e.request → entry_of (written e.seat e.nth line) ≡ e
same_entry e line is = ap (λ (w : What). let f : Entry = record { seat = e.seat; nth = e.nth; request = request_in w } in f) is

pub keeps_one : (tells : Bool) (old new : List Note) (note : Note) (e : Entry) → (tells ≡ true → new ≡ old ++ note ∷ []) → entry_of note ≡ e
    → told_entries tells new ≡ option_map (λ (es : List Entry). es ++ e ∷ []) (told_entries tells old)
keeps_one true old new note e more same =
    ap (λ (ns : List Note). Some (map entry_of ns)) (more refl) ∙ ap (λ (es : List Entry). Some es) (map-append entry_of old (note ∷ []))
    ∙ ap (λ (f : Entry). Some (map entry_of old ++ f ∷ [])) same
keeps_one false old new note e more same = refl

pub keeps_same : (tells : Bool) (old new : List Note) → (tells ≡ true → new ≡ old) → told_entries tells new ≡ told_entries tells old
keeps_same true old new same = ap (λ (ns : List Note). Some (map entry_of ns)) (same refl)
keeps_same false old new same = refl

-- ---- counts that are added up

rose_more : (before now more : ℕ) → Rose before now → Rose (before + more) (now + more)
rose_more before now more rose = omega (arith, rose)

pub cause_more : {T : Type 0} (before now more : ℕ) (r : Result T KeepError) → HasKeepCause before now r → HasKeepCause (before + more) (now + more) r
cause_more before now more (Ok x) c = record {
  later = omega (arith, c.later);
  failed = λ is. absurd (cc (is));
  memory = λ is. absurd (cc (is));
  kept = ap (λ n. n + more) c.kept;
}
cause_more before now more (Err error.Failed) c = record {
  later = omega (arith, c.later);
  failed = λ is. rose_more before now more (c.failed refl);
  memory = λ is. absurd (cc (is));
  kept = tt;
}
cause_more before now more (Err error.Memory) c = record {
  later = omega (arith, c.later);
  failed = λ is. absurd (cc (is));
  memory = λ is. ap (λ n. n + more) (c.memory refl);
  kept = tt;
}

pub cause_refused : {T : Type 0} (faults before now : ℕ) → now ≡ raised before → before ≤ now → HasKeepCause {T = T} (faults + before) (faults + now) (Err error.Failed)
cause_refused faults before now is le = record {
  later = omega (arith, le);
  failed = λ same. omega (arith, is);
  memory = λ same. absurd (cc (same));
  kept = tt;
}

-- ---- what a crash leaves while an entry is kept

module _ {D : Type 0} (moment : D → ℕ) (left_since : D → ℕ → List ℕ → Type 0) (old new : D) (kept : List Note) (lost : Option Note) (e : Entry) where
  pub leaves_still : Leaves moment left_since old new (StandsFor kept lost) → Leaves moment left_since old new (StandsForEntry kept lost e)
  leaves_still run = weakly moment left_since old new (StandsFor kept lost) (StandsForEntry kept lost e) (λ c stands. inl stands) run

  pub leaves_entry : (note : Note) → entry_of note ≡ e → Leaves moment left_since old new (StandsForAny kept lost note) → Leaves moment left_since old new (StandsForEntry kept lost e)
  leaves_entry note same run =
      weakly moment left_since old new (StandsForAny kept lost note) (StandsForEntry kept lost e) (λ c stands. ⊎_elim (λ s. inl s) (λ s. inr (note, same, s)) stands) run

-- ---- what a crash leaves of what is told

stands_entries : (kept : List Note) (lost : Option Note) (c : List ℕ) → StandsFor kept lost c → IsRecovered (map entry_of kept) c
stands_entries kept lost c (inl stands) = (kept, stands, inl refl)
stands_entries kept None c (inr none) = absurd none
stands_entries kept (Some note) c (inr stands) = (kept ++ note ∷ [], stands, inr (entry_of note, map-append entry_of kept (note ∷ [])))

pub recovers : (tells : Bool) (kept : List Note) (lost : Option Note) (may : List ℕ → Type 0) → tells ≡ true → Each may (StandsFor kept lost)
    → IfSome (told_entries tells kept) (λ es. Each may (IsRecovered es))
recovers true kept lost may is each = λ c left. stands_entries kept lost c (each c left)
recovers false kept lost may is each = tt
