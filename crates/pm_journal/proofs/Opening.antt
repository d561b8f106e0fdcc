-- What a crash leaves while a journal is opened.
use Rattle.std.proofs.Common.{inl, inr, ◌≡◌, ℕ, ◌+◌, List, [], ◌∷◌, ◌++◌, Option, None, Some, ◌∙◌, sym, subst, arith}
use Rattle.pm_disk.specs.Disks.{Each, Elapses, Leaves, Stays}
use Rattle.pm_journal.specs.Notes.{Note}
use Rattle.pm_journal.specs.Images.{Stands}
use Rattle.pm_journal.specs.Journals.{StandsFor}
use Rattle.pm_journal.specs.Opens.{LeavesSynced}
use Rattle.pm_journal.proofs.Moments.{started, goes_on, and_then, weakly}

-- a run that leaves what the bytes stand for, whatever that is
pub for_either : {D : Type 0} (moment : D → ℕ) (left_since : D → ℕ → List ℕ → Type 0) (old new : D) (content : List ℕ) (kept : List Note) (lost : Option Note)
    → ((notes : List Note) → Stands notes content → Leaves moment left_since old new (Stands notes)) → StandsFor kept lost content → Leaves moment left_since old new (StandsFor kept lost)
for_either moment left_since old new content kept lost run (inl stands) = weakly moment left_since old new (Stands kept) (StandsFor kept lost) (λ c s. inl s) (run kept stands)
for_either moment left_since old new content kept None run (inr none) = absurd none
for_either moment left_since old new content kept (Some note) run (inr stands) =
    weakly moment left_since old new (Stands (kept ++ note ∷ [])) (StandsFor kept (Some note)) (λ c s. inr s) (run (kept ++ note ∷ []) stands)

module _ {D : Type 0} (content : D → List ℕ) (may : D → List ℕ → Type 0) (moment : D → ℕ) (left_since : D → ℕ → List ℕ → Type 0) where
  pub opens_through : (old synced looked new : D) (kept : List Note) (lost : Option Note) → Each (left_since old (moment old)) (may old) → may old (content old)
      → content synced ≡ content old → Each (may synced) (may old) → Elapses (moment old) (moment synced) (left_since old) (left_since synced) (may synced)
      → Stays content may moment left_since synced looked
      → ((notes : List Note) → Stands notes (content looked) → Leaves moment left_since looked new (Stands notes))
      → Each (may old) (StandsFor kept lost) → Leaves moment left_since old new (StandsFor kept lost)
  opens_through old synced looked new kept lost only image same less time stays run each =
      let P : List ℕ → Type 0 = StandsFor kept lost in
      let after_sync : Each (may synced) P = λ c left. each c (less c left) in
      let first = goes_on moment left_since old old synced P (may synced) (started moment left_since old P (λ c left. each c (only c left))) time after_sync in
      let second = weakly moment left_since synced looked (may synced) P after_sync stays.moments in
      let here : StandsFor kept lost (content looked) = subst P (sym (stays.content ∙ same)) (each (content old) image) in
      let third = for_either moment left_since looked new (content looked) kept lost run here in
      and_then moment left_since old looked new P (and_then moment left_since old synced looked P first second) third

  -- from the first sync on

  pub not_synced : (old new : D) (P : List ℕ → Type 0) → moment new ≡ moment old → LeavesSynced moment left_since old new P
  not_synced old new P still later c left = absurd (omega (arith, still, later))

  pub synced_on : (old synced new : D) (P : List ℕ → Type 0) → moment synced ≡ moment old + 1 → Leaves moment left_since synced new P → LeavesSynced moment left_since old new P
  synced_on old synced new P took run later c left = run.each c (subst (λ (t : ℕ). left_since new t c) (sym took) left)

  pub synced_looked : (old synced looked : D) (notes : List Note) → moment synced ≡ moment old + 1 → Each (may synced) (λ c. c ≡ content old)
      → Stays content may moment left_since synced looked → Stands notes (content old) → LeavesSynced moment left_since old looked (Stands notes)
  synced_looked old synced looked notes took only stays stands =
      synced_on old synced looked (Stands notes) took
      (weakly moment left_since synced looked (may synced) (Stands notes) (λ c left. subst (Stands notes) (sym (only c left)) stands) stays.moments)

  pub synced_through : (old synced looked new : D) (notes : List Note) → moment synced ≡ moment old + 1 → Each (may synced) (λ c. c ≡ content old)
      → content synced ≡ content old → Stays content may moment left_since synced looked
      → ((ns : List Note) → Stands ns (content looked) → Leaves moment left_since looked new (Stands ns))
      → Stands notes (content old) → LeavesSynced moment left_since old new (Stands notes)
  synced_through old synced looked new notes took only same stays run stands =
      let first = weakly moment left_since synced looked (may synced) (Stands notes) (λ c left. subst (Stands notes) (sym (only c left)) stands) stays.moments in
      let here : Stands notes (content looked) = subst (Stands notes) (sym (stays.content ∙ same)) stands in
      synced_on old synced new (Stands notes) took (and_then moment left_since synced looked new (Stands notes) first (run notes here))
