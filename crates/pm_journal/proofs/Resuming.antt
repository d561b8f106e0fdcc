-- What a crash leaves while the end of a journal is cut off.
use Rattle.std.proofs.Common.{◌≡◌, ℕ, ◌+◌, ◌≤◌, List, length, get_or, take, refl, sym, ◌∙◌, ap, subst, arith}
use Rattle.std.proofs.lemmas.List.{take-take, get_or-take}
use Rattle.pm_disk.specs.Disks.{Cut, Each, Follows}
use Rattle.pm_journal.specs.Images.{Rests}
use Rattle.pm_journal.proofs.Standing.{gate_there}

pub rests_here : (e : ℕ) (content : List ℕ) → get_or content e 1 ≡ 0 → Rests e (take e content) content
rests_here e content shut = record { begins = refl; shut = shut }

pub cut_rests : (e : ℕ) (content c : List ℕ) → get_or content e 1 ≡ 0 → Cut (e + 1) content c → Rests e (take e content) c
cut_rests e content c shut cut = record {
  begins = ap (take e) (sym cut.front) ∙ take-take e (length c) content (omega (arith, cut.no_shorter, gate_there e content shut));
  shut = ap (λ (l : List ℕ). get_or l e 1) (sym cut.front) ∙ get_or-take (length c) content e 1 (omega (arith, cut.no_shorter, gate_there e content shut)) ∙ shut;
}

-- each image of the cut
pub cut_each : (e : ℕ) (content : List ℕ) (old new : List ℕ → Type 0) → get_or content e 1 ≡ 0 → Each old (λ c. c ≡ content) → Follows (Cut (e + 1)) old new → Each new (Rests e (take e content))
cut_each e content old new shut only from c left =
    let f = from c left in cut_rests e content c shut (subst (λ (d : List ℕ). Cut (e + 1) d c) (only f.0 f.1) f.2)

-- what stands before the gate stays
pub cut_same_front : (e : ℕ) (content read cut synced : List ℕ) → read ≡ content → cut ≡ take (e + 1) read → synced ≡ cut → take e synced ≡ take e content
cut_same_front e content read cut synced same is after =
    ap (take e) after ∙ ap (take e) is ∙ ap (λ (l : List ℕ). take e (take (e + 1) l)) same ∙ take-take e (e + 1) content (omega arith)
