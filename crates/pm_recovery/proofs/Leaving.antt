-- What a crash leaves of a journal, told by the history of the desk over it.
use Rattle.std.proofs.Common.{◌≡◌, inl, inr, ⊎_elim, ℕ, Bool, true, false, List, [], ◌∷◌, ◌++◌, map, Option, None, Some, refl, subst}
use Rattle.std.specs.Prelude.{IfSome}
use Rattle.std.proofs.lemmas.List.{map-append}
use Rattle.pm_disk.specs.Disks.{Each, Leaves}
use Rattle.pm_model.specs.declared.requests.Entry.{Entry}
use Rattle.pm_journal.specs.Images.{Stands}
use Rattle.pm_journal.specs.Kept.{IsRecovered, StandsForEntry, told_entries}
use Rattle.pm_journal.specs.Notes.{Note, entry_of}

-- the notes of a history, or these and one more, are recovered as that history
one-more : (kept : List Note) (note : Note) (c : List ℕ) → Stands (kept ++ note ∷ []) c → IsRecovered (map entry_of kept) c
one-more kept note c stands = (kept ++ note ∷ [], stands, inr (entry_of note, map-append entry_of kept (note ∷ [])))

any-more : (kept : List Note) (lost : Option Note) (e : Entry) (c : List ℕ) → StandsForEntry kept lost e c → IsRecovered (map entry_of kept) c
any-more kept lost e c (inl (inl stands)) = (kept, stands, inl refl)
any-more kept None e c (inl (inr none)) = absurd none
any-more kept (Some note) e c (inl (inr stands)) = one-more kept note c stands
any-more kept lost e c (inr now) = one-more kept now.0 c now.2

pub rest_recovers : (tells : Bool) (kept : List Note) (history : List Entry) (may : List ℕ → Type 0) → tells ≡ true
    → IfSome (told_entries tells kept) (λ es. es ≡ history) → IfSome (told_entries tells kept) (λ es. Each may (IsRecovered es)) → Each may (IsRecovered history)
rest_recovers true kept history may is same each = subst (λ (es : List Entry). Each may (IsRecovered es)) same each
rest_recovers false kept history may is same each = absurd (cc (is))

pub are_told : (tells : Bool) (kept : List Note) (history : List Entry) → tells ≡ true → IfSome (told_entries tells kept) (λ es. es ≡ history) → map entry_of kept ≡ history
are_told true kept history is same = same
are_told false kept history is same = absurd (cc (is))

pub way_recovers : {D : Type 0} (moment : D → ℕ) (left_since : D → ℕ → List ℕ → Type 0) (old new : D) (kept : List Note) (lost : Option Note) (e : Entry) (history : List Entry)
    → map entry_of kept ≡ history → Leaves moment left_since old new (StandsForEntry kept lost e) → Leaves moment left_since old new (IsRecovered history)
way_recovers moment left_since old new kept lost e history same run =
    let told = λ (c : List ℕ) (stands : StandsForEntry kept lost e c). subst (λ (es : List Entry). IsRecovered es c) same (any-more kept lost e c stands) in
    record {
      later = run.later;
      each = λ c left. told c (run.each c left);
      before = λ t c le left. ⊎_elim (λ was. inl was) (λ stands. inr (told c stands)) (run.before t c le left);
    }
