-- A journal stays sound through its steps.
use Rattle.std.proofs.Common.{◌≡◌, ◌⊎◌, inl, inr, ℕ, zero, suc, ◌+◌, ◌-◌, ◌*◌, ◌<◌, ◌≤◌, List, [], ◌∷◌, ◌++◌, length, get_or, take, drop, Option, None, Some, refl, sym, ◌∙◌, ap, subst, arith, append_assoc, length-append, take-append-drop, length-take}
use Rattle.std.proofs.lemmas.List.{take_at}
use Rattle.pm_disk.specs.Disks.{Each, Holds}
use Rattle.pm_journal.specs.Notes.{Note, note_of, notes_in}
use Rattle.pm_journal.specs.Images.{Stands, Rests, Doubts, IsBody, IsFront}
use Rattle.pm_journal.specs.Journals.{found, kept_in, lost_in, IsSound, IsPiece, noted, StandsFor}
use Rattle.pm_journal.proofs.Records.{as_many}
use Rattle.pm_journal.proofs.Shapes.{shorter}
use Rattle.pm_journal.proofs.Standing.{gate_there, rests_stands, doubts_stands, staged, turned_shut, turned_open, front_more, front_room, front_kept}

-- nothing is in doubt where nothing is lost
pub no_doubt : (n : ℕ) (behind : List ℕ) → lost_in n behind ≡ None → n ≡ 0
no_doubt zero behind is = refl
no_doubt (suc n) behind is = absurd (cc (is))

pub one_less : (n : ℕ) → (n ≡ 0 → ⊥) → n ≡ suc (n - 1)
one_less zero not = absurd (not refl)
one_less (suc n) not = omega arith

-- ---- from what a crash leaves

pub sound_of_rests : (e k : ℕ) (begin : List ℕ) (notes : List Note) (may : List ℕ → Type 0) (content : List ℕ) → IsFront e k begin notes → Each may (Rests e begin) → may content
    → IsSound content may e k 0 × (kept_in k (take e content) ≡ notes)
sound_of_rests e k begin notes may content front each image =
    let same : take e content ≡ begin = (each content image).begins in
    let kept : kept_in k (take e content) ≡ notes = ap (kept_in k) same ∙ front_kept e k begin notes front in
    let front_now : IsFront e k (take e content) notes = subst (λ (l : List ℕ). IsFront e k l notes) (sym same) front in (
      record {
        front = subst (λ (ns : List Note). IsFront e k (take e content) ns) (sym kept) front_now;
        images = subst (λ (l : List ℕ). Each may (Rests e l)) (sym same) each;
        room = tt;
      },
      kept,
    )

pub sound_of_doubts : (e k : ℕ) (begin b : List ℕ) (notes : List Note) (may : List ℕ → Type 0) (content : List ℕ) → IsFront e k begin notes → IsBody b → k < 262144 → Each may (Doubts e begin b) → may content
    → IsSound content may e k (suc (length b)) × (kept_in k (take e content) ≡ notes) × (lost_in (suc (length b)) (drop (e + 1) content) ≡ Some (note_of b))
sound_of_doubts e k begin b notes may content front body room each image =
    let this = each content image in
    let same : take e content ≡ begin = this.begins in
    let kept : kept_in k (take e content) ≡ notes = ap (kept_in k) same ∙ front_kept e k begin notes front in
    let front_now : IsFront e k (take e content) notes = subst (λ (l : List ℕ). IsFront e k l notes) (sym same) front in
    let here : take (length b) (drop (e + 1) content) ≡ b =
    shorter (length b) (length b + 1) (drop (e + 1) content) (b ++ 0 ∷ []) (omega arith) (this.body ∙ sym (take_at_all b)) ∙ take_at b (0 ∷ []) (length b) refl in (
      record {
        front = subst (λ (ns : List Note). IsFront e k (take e content) ns) (sym kept) front_now;
        images = (
          subst IsBody (sym here) body,
          ap length here,
          subst (λ (l : List ℕ). Each may (Doubts e l (take (length b) (drop (e + 1) content)))) (sym same) (subst (λ (l : List ℕ). Each may (Doubts e begin l)) (sym here) each),
        );
        room = room;
      },
      kept,
      ap (λ (l : List ℕ). Some (note_of l)) here,
    )
  where
    use_all : (l : List ℕ) (n : ℕ) → length l ≡ n → take n l ≡ l
    use_all [] zero is = refl
    use_all [] (suc n) is = refl
    use_all (x ∷ l) zero is = absurd (omega (arith, is))
    use_all (x ∷ l) (suc n) is = ap (λ (m : List ℕ). x ∷ m) (use_all l n (omega (arith, is)))

    take_at_all : (l : List ℕ) → take (length l + 1) (l ++ 0 ∷ []) ≡ l ++ 0 ∷ []
    take_at_all l = use_all (l ++ 0 ∷ []) (length l + 1) (length-append l (0 ∷ []))

-- ---- what a sound one stands for

pub sound_stands : (e k n : ℕ) (content : List ℕ) (may : List ℕ → Type 0) → IsSound content may e k n → Each may (StandsFor (kept_in k (take e content)) (lost_in n (drop (e + 1) content)))
sound_stands e k zero content may sound c left = inl (rests_stands e k (take e content) (kept_in k (take e content)) c sound.front (sound.images c left))
sound_stands e k (suc n) content may sound c left =
    doubts_stands e k (take e content) (take n (drop (e + 1) content)) (kept_in k (take e content)) c sound.front sound.images.0 sound.room (sound.images.2 c left)

pub sound_count : (e k n : ℕ) (content : List ℕ) (may : List ℕ → Type 0) → IsSound content may e k n → k ≡ length (kept_in k (take e content))
sound_count e k n content may sound = sym (as_many k (drop 8 (take e content)) (kept_in k (take e content)) sound.front.records)

-- ---- a record is entered

pub piece_size : (piece : List ℕ) → IsPiece piece → length piece ≡ suc (length (take (length piece - 1) piece))
piece_size piece is = omega (arith, ap length is.split, length-append (take (length piece - 1) piece) (0 ∷ []))

module _ (e k : ℕ) (c0 piece : List ℕ) (may0 : List ℕ → Type 0) (sound : IsSound c0 may0 e k 0) (piece_is : IsPiece piece) (room : k < 262144) where
  abbrev b : List ℕ
  b = take (length piece - 1) piece

  abbrev start : List ℕ
  start = take e c0

  abbrev notes : List Note
  notes = kept_in k start

  size : length piece ≡ length b + 1
  size = omega (arith, piece_size piece piece_is)

  pub stage_failed : (may1 : List ℕ → Type 0) (c1 : List ℕ) → Each may1 (Rests e start) → may1 c1 → IsSound c1 may1 e k 0 × (kept_in k (take e c1) ≡ notes)
  stage_failed may1 c1 each image = sound_of_rests e k start notes may1 c1 sound.front each image

  pub stage_done : (c1 : List ℕ) (may1 : List ℕ → Type 0) → may0 c0 → Holds c0 (e + 1) piece c1 → Each may1 (λ c. c ≡ c1) → Doubts e start b c1 × Each may1 (Doubts e start b)
  stage_done c1 may1 image holds only =
      let holds_b : Holds c0 (e + 1) (b ++ 0 ∷ []) c1 = subst (λ (p : List ℕ). Holds c0 (e + 1) p c1) piece_is.split holds in
      let here : Doubts e start b c1 = staged e start b c0 c1 (sound.images c0 image) sound.front.long holds_b in
      (here, λ c left. subst (Doubts e start b) (sym (only c left)) here)

  pub turn_failed : (may2 : List ℕ → Type 0) (c2 : List ℕ) → Each may2 (Doubts e start b) → may2 c2
      → IsSound c2 may2 e k (length piece) × (kept_in k (take e c2) ≡ notes) × (lost_in (length piece) (drop (e + 1) c2) ≡ Some (noted piece))
  turn_failed may2 c2 each image =
      subst (λ (n : ℕ). IsSound c2 may2 e k n × (kept_in k (take e c2) ≡ notes) × (lost_in n (drop (e + 1) c2) ≡ Some (noted piece))) (sym (piece_size piece piece_is))
      (sound_of_doubts e k start b notes may2 c2 sound.front piece_is.body room each image)

  pub turn_done : (c1 c2 : List ℕ) (may2 : List ℕ → Type 0) → Doubts e start b c1 → Holds c1 e (1 ∷ []) c2 → Each may2 (λ c. c ≡ c2) → may2 c2
      → IsSound c2 may2 (e + length piece) (k + 1) 0 × (kept_in (k + 1) (take (e + length piece) c2) ≡ notes ++ noted piece ∷ [])
  turn_done c1 c2 may2 doubts holds only image =
      let end : e + length piece ≡ e + (length b + 1) = omega (arith, size) in
      let count : k + 1 ≡ suc k = omega arith in
      let rests : Rests (e + (length b + 1)) (start ++ 1 ∷ b) c2 = turned_open e start b c1 c2 doubts sound.front.long holds in
      let front = front_more 0 e k start b notes (front_room e k start notes sound.front) sound.front piece_is.body room in
      let each : Each may2 (Rests (e + (length b + 1)) (start ++ 1 ∷ b)) = λ c left. subst (Rests (e + (length b + 1)) (start ++ 1 ∷ b)) (sym (only c left)) rests in
      subst (λ (m : ℕ). IsSound c2 may2 (e + length piece) m 0 × (kept_in m (take (e + length piece) c2) ≡ notes ++ noted piece ∷ [])) (sym count)
      (subst (λ (m : ℕ). IsSound c2 may2 m (suc k) 0 × (kept_in (suc k) (take m c2) ≡ notes ++ noted piece ∷ [])) (sym end)
      (sound_of_rests (e + (length b + 1)) (suc k) (start ++ 1 ∷ b) (notes ++ note_of b ∷ []) may2 c2 front each image))

  pub rests_for : (c : List ℕ) → Rests e start c → StandsFor notes (Some (noted piece)) c
  rests_for c rests = inl (rests_stands e k start notes c sound.front rests)

  pub doubts_for : (c : List ℕ) → Doubts e start b c → StandsFor notes (Some (noted piece)) c
  doubts_for c doubts = doubts_stands e k start b notes c sound.front piece_is.body room doubts

-- ---- a gate in doubt is closed

module _ (e k m : ℕ) (c0 : List ℕ) (may0 : List ℕ → Type 0) (sound : IsSound c0 may0 e k (suc m)) where
  abbrev doubted : List ℕ
  doubted = take m (drop (e + 1) c0)

  abbrev begun : List ℕ
  begun = take e c0

  abbrev noted_so_far : List Note
  noted_so_far = kept_in k begun

  pub shut_failed : (may1 : List ℕ → Type 0) (c1 : List ℕ) → Each may1 (Doubts e begun doubted) → may1 c1
      → IsSound c1 may1 e k (suc m) × (kept_in k (take e c1) ≡ noted_so_far) × (lost_in (suc m) (drop (e + 1) c1) ≡ Some (note_of doubted))
  shut_failed may1 c1 each image =
      subst (λ (n : ℕ). IsSound c1 may1 e k (suc n) × (kept_in k (take e c1) ≡ noted_so_far) × (lost_in (suc n) (drop (e + 1) c1) ≡ Some (note_of doubted))) sound.images.1
      (sound_of_doubts e k begun doubted noted_so_far may1 c1 sound.front sound.images.0 sound.room each image)

  pub shut_done : (c1 : List ℕ) (may1 : List ℕ → Type 0) → may0 c0 → Holds c0 e (0 ∷ []) c1 → Each may1 (λ c. c ≡ c1) → may1 c1
      → IsSound c1 may1 e k 0 × (kept_in k (take e c1) ≡ noted_so_far)
  shut_done c1 may1 image holds only now =
      let rests : Rests e begun c1 = turned_shut e begun doubted c0 c1 (sound.images.2 c0 image) sound.front.long holds in
      sound_of_rests e k begun noted_so_far may1 c1 sound.front (λ c left. subst (Rests e begun) (sym (only c left)) rests) now

  pub doubted_for : (c : List ℕ) → Doubts e begun doubted c → StandsFor noted_so_far (Some (note_of doubted)) c
  doubted_for c doubts = doubts_stands e k begun doubted noted_so_far c sound.front sound.images.0 sound.room doubts
