-- What a crash leaves in each of the two steps.
use Rattle.std.proofs.Common.{◌≡◌, ℕ, ◌+◌, ◌<◌, ◌≤◌, List, [], ◌∷◌, ◌++◌, length, get_or, take, drop, refl, sym, ◌∙◌, ap, subst, arith}
use Rattle.std.proofs.lemmas.List.{take-take, get_or-take, take_all}
use Rattle.pm_disk.specs.Disks.{Torn, Follows, Each}
use Rattle.pm_journal.specs.Images.{Rests, Doubts}

-- a front of two that begin alike
pub shorter : (m n : ℕ) (c d : List ℕ) → m ≤ n → take n c ≡ take n d → take m c ≡ take m d
shorter m n c d le same = sym (take-take m n c le) ∙ (ap (λ (l : List ℕ). take m l) same ∙ take-take m n d le)

pub same_at : (m n : ℕ) (c d : List ℕ) (x : ℕ) → m < n → take n c ≡ take n d → get_or c m x ≡ get_or d m x
same_at m n c d x lt same = sym (get_or-take n c m x lt) ∙ (ap (λ (l : List ℕ). get_or l m x) same ∙ get_or-take n d m x lt)

-- what is written behind a closed gate leaves it closed
pub rests_on : (e n : ℕ) (begin d c : List ℕ) → Torn (e + 1) n d c → Rests e begin d → Rests e begin c
rests_on e n begin d c torn rests = record {
  begins = shorter e (e + 1) c d (omega arith) torn.before ∙ rests.begins;
  shut = same_at e (e + 1) c d 1 (omega arith) torn.before ∙ rests.shut;
}

-- a gate that is written leaves all else
pub doubts_on : (e : ℕ) (begin behind d c : List ℕ) → Torn e 1 d c → Doubts e begin behind d → Doubts e begin behind c
doubts_on e begin behind d c torn doubts = record {
  begins = torn.before ∙ doubts.begins;
  gate = omega (arith, torn.no_shorter, doubts.gate);
  body = ap (λ (l : List ℕ). take (length behind + 1) l) torn.after ∙ doubts.body;
}

pub follows : (step : List ℕ → List ℕ → Type 0) (old new P : List ℕ → Type 0) → ((d c : List ℕ) → step d c → P d → P c) → Follows step old new → Each old P → Each new P
follows step old new P keeps from each c left = let f = from c left in keeps f.0 c f.2 (each f.0 f.1)
