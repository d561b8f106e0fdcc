-- What a house goes on from, and why none does, told by the history that the bytes stand for.
use Rattle.std.proofs.Common.{◌≡◌, ◌⊎◌, inl, inr, ◌<◌, ℕ, zero, suc, Bool, true, false, List, [], ◌∷◌, ◌++◌, length, take, map, Option, Some, refl, sym, ◌∙◌, ap, subst, arith, append_assoc, length-append}
use Rattle.std.specs.Prelude.{IfErr, IfSome, Result, Ok, Err, slice_get}
use Rattle.std.proofs.lemmas.List.{append-nil, get_or_append_left, take-append-le}
use Rattle.std.proofs.lemmas.Option.{get_or_from_slice_get, slice_get-get_or, slice_get_within}
use Rattle.pm_model.specs.declared.requests.Entry.{Entry}
use Rattle.pm_world.specs.Restored.{AreNext, IsMade, IsNext}
use Rattle.pm_house.specs.Restored.{IsIllegalAt, machine_of}
use Rattle.pm_house.specs.Seated.{AreBeginning, Seated}
use Rattle.pm_house.specs.declared.restored.RestoreError.TheVariants as unmade
use Rattle.pm_journal.specs.Heads.{HasStood}
use Rattle.pm_journal.specs.Kept.{IsRecovered, told_entries}
use Rattle.pm_journal.specs.Notes.{Note, entry_of}
use Rattle.pm_journal.specs.Opens.{ComesTo, Tells}
use Rattle.pm_journal.specs.declared.opened.OpenError.{OpenError}
use Rattle.pm_journal.specs.declared.opened.OpenError.TheVariants as open_fault
use Rattle.pm_recovery.specs.Recovered.{BeginWith, GoesOn, GoesOnFrom, IsExcused, IsUnrecovered, StandsForOnly}
use Rattle.pm_recovery.specs.declared.recovering.RecoverError.{RecoverError}
use Rattle.pm_recovery.specs.declared.recovering.RecoverError.TheVariants as unrecovered

-- the keeper of a journal that was opened has its entries, where it tells them
pub keeps : (tells : Bool) (kept : List Note) (entries : List Entry) → (tells ≡ true → entries ≡ map entry_of kept) → IfSome (told_entries tells kept) (λ es. es ≡ entries)
keeps true kept entries same = sym (same refl)
keeps false kept entries same = tt

pub goes_on : (content : List ℕ) (seats : ℕ) (places : List (Option Seated)) (notes : List Note) (entries : List Entry) → HasStood notes content
    → ((out : Result (List Note) OpenError) → ComesTo content out → out ≡ Ok notes) → entries ≡ map entry_of notes
    → IsMade seats entries → AreBeginning (machine_of entries) seats places → GoesOn content seats places
goes_on content seats places notes entries stood only same made begin =
    (notes, record { stood = stood; only = only }, subst (λ (es : List Entry). BeginWith es seats places) same (record { made = made; begin = begin }))

-- ---- the entries that are recovered

abbrev IsOrOneMore : List Entry → List Entry → Type 0
IsOrOneMore history entries = (entries ≡ history) ⊎ ((e : Entry) × (entries ≡ history ++ e ∷ []))

is-or-one-more : (notes : List Note) (content : List ℕ) (history : List Entry) → StandsForOnly notes content → IsRecovered history content → IsOrOneMore history (map entry_of notes)
is-or-one-more notes content history stands back =
    let one = stands.only (Ok back.0) (inl back.1) in
    let same : back.0 ≡ notes = cc in
    subst (λ (ns : List Note). IsOrOneMore history (map entry_of ns)) same back.2

begins-so : (entries history : List Entry) (seats : ℕ) (places : List (Option Seated)) → IsOrOneMore history entries → BeginWith entries seats places → GoesOnFrom history seats places
begins-so entries history seats places (inl same) begins = inl (subst (λ (es : List Entry). BeginWith es seats places) same begins)
begins-so entries history seats places (inr more) begins = inr (more.0, subst (λ (es : List Entry). BeginWith es seats places) more.1 begins)

pub goes_on_from : (content : List ℕ) (seats : ℕ) (places : List (Option Seated)) (history : List Entry) → GoesOn content seats places → IsRecovered history content → GoesOnFrom history seats places
goes_on_from content seats places history goes back =
    begins-so (map entry_of goes.0) history seats places (is-or-one-more goes.0 content history goes.1 back) goes.2

-- ---- why none is

next-at : (seats : ℕ) (before es : List Entry) (at : ℕ) (e : Entry) → AreNext seats before es → slice_get es at ≡ Some e → IsNext seats (before ++ take at es) e
next-at seats before [] at e all there = absurd (cc (there))
next-at seats before (x ∷ es) zero e all there =
    let same : x ≡ e = cc in
    subst (λ (l : List Entry). IsNext seats l e) (sym (append-nil before)) (subst (IsNext seats before) same all.0)
next-at seats before (x ∷ es) (suc at) e all there =
    subst (λ (l : List Entry). IsNext seats l e) (append_assoc before (x ∷ []) (take at es)) (next-at seats (before ++ x ∷ []) es at e all.1 there)

front-at : (xs : List Entry) (y : Entry) (at : ℕ) (e : Entry) → at < length xs → slice_get (xs ++ y ∷ []) at ≡ Some e → slice_get xs at ≡ Some e
front-at xs y at e within there =
    slice_get-get_or xs at e within ∙ ap (λ (x : Entry). Some x) (sym (get_or_append_left xs (y ∷ []) e at within) ∙ get_or_from_slice_get (xs ++ y ∷ []) at e e there)

-- in a history that is made no entry is illegal
made-legal : (seats : ℕ) (history : List Entry) (at : ℕ) → IsMade seats history → IsIllegalAt seats history at → ⊥
made-legal seats history at made wrong = wrong.not (next-at seats [] history at wrong.entry made wrong.there)

-- and none before the one more
not-before : (seats : ℕ) (history : List Entry) (more : Entry) (at : ℕ) → IsMade seats history → IsIllegalAt seats (history ++ more ∷ []) at → at < length history → ⊥
not-before seats history more at made wrong within =
    let there = front-at history more at wrong.entry within wrong.there in
    let same : take at (history ++ more ∷ []) ≡ take at history = take-append-le at history (more ∷ []) (omega (arith, within)) in
    wrong.not (subst (λ (l : List Entry). IsNext seats l wrong.entry) (sym same) (next-at seats [] history at wrong.entry made there))

illegal-last : (seats : ℕ) (history entries : List Entry) (at : ℕ) → IsMade seats history → IsOrOneMore history entries → IsIllegalAt seats entries at → at ≡ length history
illegal-last seats history entries at made (inl same) wrong = absurd (made-legal seats history at made (subst (λ (es : List Entry). IsIllegalAt seats es at) same wrong))
illegal-last seats history entries at made (inr more) wrong =
    let here = subst (λ (es : List Entry). IsIllegalAt seats es at) more.1 wrong in
    let within = slice_get_within (history ++ more.0 ∷ []) at here.entry here.there in
    let size = length-append history (more.0 ∷ []) in
    let late = not-before seats history more.0 at made here in
    omega (arith, within, size, late)

open-excused : (notes : List Note) (why : OpenError) → Tells (Ok notes) why → (why ≡ open_fault.Failed) ⊎ (why ≡ open_fault.Memory)
open-excused notes open_fault.Failed tells = inl refl
open-excused notes open_fault.Memory tells = inr refl
open-excused notes open_fault.NotJournal tells = absurd (cc (tells))
open-excused notes (open_fault.Damaged at) tells = absurd (cc (tells))

excused : {D : Type 0} (content : D → List ℕ) (disk : D) (seats : ℕ) (history : List Entry) (e : RecoverError D) → IsUnrecovered content disk seats e
    → IsRecovered history (content disk) → IsMade seats history → IsExcused (length history) e
excused content disk seats history (unrecovered.Unopened u) not back made = open-excused back.0 u.why (not.1 (Ok back.0) (inl back.1))
excused content disk seats history (unrecovered.Unmade (unmade.Illegal at)) not back made =
    illegal-last seats history (map entry_of not.0) at made (is-or-one-more not.0 (content disk) history not.1 back) not.2
excused content disk seats history (unrecovered.Unmade unmade.Memory) not back made = tt

pub error_excused : {T D : Type 0} (content : D → List ℕ) (disk : D) (seats : ℕ) (history : List Entry) (r : Result T (RecoverError D)) → IfErr r (IsUnrecovered content disk seats)
    → IsRecovered history (content disk) → IsMade seats history → IfErr r (IsExcused (length history))
error_excused content disk seats history (Ok made) not back legal = tt
error_excused content disk seats history (Err e) not back legal = excused content disk seats history e not back legal
