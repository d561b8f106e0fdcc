-- One more moment joins those that a file has had.
use Rattle.std.proofs.Common.{◌≡◌, ◌⊎◌, inl, inr, ⊎_elim, ℕ, zero, suc, ◌≤◌, List, [], ◌∷◌, ◌++◌, length, drop, refl, sym, subst, arith, length-append}
use Rattle.pm_disk.specs.Disks.{Elapses}
use Rattle.pm_disk.specs.Steps.{Moment, MayLeave}
use Rattle.pm_disk.specs.Past.{HadBeen}

keeps : (past : List Moment) (m : Moment) (c : List ℕ) → HadBeen past c → HadBeen (past ++ m ∷ []) c
keeps [] m c had = absurd had
keeps (p ∷ past) m c (inl here) = inl here
keeps (p ∷ past) m c (inr there) = inr (keeps past m c there)

adds : (past : List Moment) (m : Moment) (c : List ℕ) → HadBeen (past ++ m ∷ []) c → HadBeen past c ⊎ MayLeave m c
adds [] m c (inl here) = inr here
adds [] m c (inr none) = absurd none
adds (p ∷ past) m c (inl here) = inl (inl here)
adds (p ∷ past) m c (inr there) = ⊎_elim (λ had. inl (inr had)) (λ new. inr new) (adds past m c there)

newest : (past : List Moment) (m : Moment) (c : List ℕ) → MayLeave m c → HadBeen (past ++ m ∷ []) c
newest [] m c is = inl is
newest (p ∷ past) m c is = inr (newest past m c is)

drop_push : (t : ℕ) (past : List Moment) (m : Moment) → t ≤ length past → drop t (past ++ m ∷ []) ≡ drop t past ++ m ∷ []
drop_push zero past m le = refl
drop_push (suc t) [] m le = absurd (omega arith)
drop_push (suc t) (p ∷ past) m le = drop_push t past m (omega arith)

-- what a crash since t might have left
abbrev pub Since : List Moment → Moment → ℕ → List ℕ → Type 0
Since past now t c = MayLeave now c ⊎ HadBeen (drop t past) c

pub elapses_same : (past : List Moment) (now : Moment) → Elapses (length past) (length past) (Since past now) (Since past now) (MayLeave now)
elapses_same past now = record { later = omega arith; nothing_else = λ t c le left. inl left; keeps = λ t c le left. left }

elapses_push : (past : List Moment) (old new : Moment) → Elapses (length past) (length (past ++ old ∷ [])) (Since past old) (Since (past ++ old ∷ []) new) (MayLeave new)
elapses_push past old new = record {
  later = omega (arith, length-append past (old ∷ []));
  nothing_else = λ t c le left. ⊎_elim (λ now. inr now) (λ had. inl (was t c (adds (drop t past) old c (subst (λ (l : List Moment). HadBeen l c) (drop_push t past old le) had)))) left;
  keeps = λ t c le left. inr (subst (λ (l : List Moment). HadBeen l c) (sym (drop_push t past old le)) (⊎_elim (λ now. newest (drop t past) old c now) (keeps (drop t past) old c) left));
}
  where
    was : (t : ℕ) (c : List ℕ) → HadBeen (drop t past) c ⊎ MayLeave old c → Since past old t c
    was t c (inl had) = inr had
    was t c (inr new) = inl new

pub elapses_to : (past later : List Moment) (old new : Moment) → later ≡ past ++ old ∷ [] → Elapses (length past) (length later) (Since past old) (Since later new) (MayLeave new)
elapses_to past later old new same =
    subst (λ (l : List Moment). Elapses (length past) (length l) (Since past old) (Since l new) (MayLeave new)) (sym same) (elapses_push past old new)
