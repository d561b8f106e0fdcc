-- What a seat comes to that meets others one after another.
use Rattle.std.proofs.Common.{◌≡◌, ◌+◌, ◌<◌, ◌≤◌, ℕ, zero, suc, List, ◌∷◌, length, refl, ◌∙◌, ap, subst, sym, arith, slice_index_or, slice_set}
use mathlib.Core.List.{IsPrefix}
use mathlib.Core.Logic.{inl, inr}
use Rattle.std.proofs.lemmas.Bool.{cases_order}
use Rattle.std.proofs.lemmas.List.{get_or-set_other, get_or_default}
use Rattle.std.proofs.lemmas.Grind.{get_or-set_at}
use Rattle.pm_world.proofs.Prefixes.{prefix-self, prefix-trans}
use Rattle.pm_house.specs.Seated.{Seated, Rests, Meets}
use Rattle.pm_model.specs.declared.requests.Entry.{Entry}
use Rattle.pm_worker.specs.Feeding.{HasMet}

-- the seat goes on
pub met_later : {F : Type 0} (s t a b : Seated) (f g : F) → HasMet s a b f g → Rests s t → HasMet t a b f g
met_later s t a b f g h r = record {
  rests = h.rests;
  front = prefix-trans b.machine.history s.machine.history t.machine.history h.front r.hears.grows;
  feed = h.feed;
}

-- it meets this one
pub met_now : {F : Type 0} (s a b : Seated) (f g : F) → g ≡ f → Rests a b → Meets s b → HasMet s a b f g
met_now s a b f g same r m = record {
  rests = r;
  front = subst (λ (l : List Entry). IsPrefix l s.machine.history) (sym (ap (λ k. k.history) m.one)) (prefix-self s.machine.history);
  feed = same;
}

-- it meets the one at this place, which has not been met before
pub met_at : {F X : Type 0} (seat : X → Seated) (feed : X → F) (s b : Seated) (before now : List X) (place : ℕ) (x d : X)
    → place < length now → slice_index_or now place d ≡ slice_index_or before place d
    → Rests (seat (slice_index_or now place x)) b → Meets s b
    → HasMet s (seat (slice_index_or before place d)) b (feed (slice_index_or before place d)) (feed (slice_index_or now place x))
met_at {X = X} seat feed s b before now place x d within old r m =
    let same : slice_index_or now place x ≡ slice_index_or before place d = get_or_default now place x d within ∙ old in
    met_now s (seat (slice_index_or before place d)) b (feed (slice_index_or before place d)) (feed (slice_index_or now place x))
    (ap feed same) (subst (λ (y : X). Rests (seat y) b) same r) m

-- one member more has been met, at this place of the list
pub met_one_more : {F X : Type 0} (seat : X → Seated) (feed : X → F) (s t : Seated) (before now : List X) (place : ℕ) (x : X)
    → place < length now → Rests s t
    → ((d : X) → HasMet t (seat (slice_index_or before place d)) (seat x) (feed (slice_index_or before place d)) (feed x))
    → ((i : ℕ) (d : X) → i < place → HasMet s (seat (slice_index_or before i d)) (seat (slice_index_or now i d)) (feed (slice_index_or before i d)) (feed (slice_index_or now i d)))
    → (i : ℕ) (d : X) → i < place + 1
    → HasMet t (seat (slice_index_or before i d)) (seat (slice_index_or (slice_set now place x) i d)) (feed (slice_index_or before i d)) (feed (slice_index_or (slice_set now place x) i d))
met_one_more {F = F} {X = X} seat feed s t before now place x within r new old i d below = elim (cases_order i place) [
  | inl same ↦
      let at : slice_index_or (slice_set now place x) i d ≡ x = get_or-set_at now place i x d same within in
      subst (λ (y : X). HasMet t (seat (slice_index_or before i d)) (seat y) (feed (slice_index_or before i d)) (feed y)) (sym at)
      (subst (λ (k : ℕ). HasMet t (seat (slice_index_or before k d)) (seat x) (feed (slice_index_or before k d)) (feed x)) (sym same) (new d))
  | inr (inl less) ↦
      let at : slice_index_or (slice_set now place x) i d ≡ slice_index_or now i d = get_or-set_other now place i x d (λ same. omega (arith, same, less)) in
      subst (λ (y : X). HasMet t (seat (slice_index_or before i d)) (seat y) (feed (slice_index_or before i d)) (feed y)) (sym at)
      (met_later s t (seat (slice_index_or before i d)) (seat (slice_index_or now i d)) (feed (slice_index_or before i d)) (feed (slice_index_or now i d)) (old i d less) r)
  | inr (inr more) ↦ absurd (omega (arith, below, more))
]

-- those behind it haven't
pub rest_left : {X : Type 0} (before now : List X) (place : ℕ) (x : X) → ((i : ℕ) (d : X) → place ≤ i → slice_index_or now i d ≡ slice_index_or before i d)
    → (i : ℕ) (d : X) → place + 1 ≤ i → slice_index_or (slice_set now place x) i d ≡ slice_index_or before i d
rest_left before now place x old i d behind =
    get_or-set_other now place i x d (λ same. omega (arith, same, behind)) ∙ old i d (omega (arith, behind))

-- the first member itself, and all others
pub met_all_of : {F X : Type 0} (seat : X → Seated) (feed : X → F) (before after : X) (xs ys : List X) → Rests (seat before) (seat after) → feed after ≡ feed before
    → ((i : ℕ) (d : X) → i < length xs → HasMet (seat after) (seat (slice_index_or xs i d)) (seat (slice_index_or ys i d)) (feed (slice_index_or xs i d)) (feed (slice_index_or ys i d)))
    → (i : ℕ) (d : X) → i < length (before ∷ xs)
    → HasMet (seat after) (seat (slice_index_or (before ∷ xs) i d)) (seat (slice_index_or (after ∷ ys) i d)) (feed (slice_index_or (before ∷ xs) i d)) (feed (slice_index_or (after ∷ ys) i d))
met_all_of seat feed before after xs ys r same others zero d below =
    record { rests = r; front = prefix-self (seat after).machine.history; feed = same }
met_all_of seat feed before after xs ys r same others (suc i) d below = others i d (omega (arith, below))
