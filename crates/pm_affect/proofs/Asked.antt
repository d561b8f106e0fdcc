-- The elements and users of a well formed graph may be asked about, and are few.
use Rattle.std.proofs.Common.{◌≤◌, ◌*◌, ℕ, length, filter, All, IsTrue, arith}
use Rattle.std.proofs.lemmas.List.{length-map}
use Rattle.std.proofs.lemmas.List.Elements.{All-map, All-filter, All-contains_itself}
use Rattle.pm_model.specs.Containment.{Relation}
use Rattle.pm_model.specs.Decision.{Judgement}
use Rattle.pm_model.specs.Formed.{IsLive, IsWellFormed}
use Rattle.pm_model.specs.Reviews.{is_user, numbers_in, users_in}
use Rattle.pm_model.specs.State.{Graph}
use Rattle.pm_model.specs.declared.elements.Element.{Element}
use Rattle.pm_laws.proofs.Items.{length-filter}
use Rattle.pm_laws.proofs.Numbers.{stands-at, live-some}
use Rattle.pm_affect.specs.Live.{AreAsked}

module _ (G : Graph) (f : IsWellFormed G) where
  -- each has a number that is live
  numbers-are : (P : ℕ → Type 0) → ((n : ℕ) → IsLive G.elements n → P n) → All (λ (e : Element). P e.number) G.elements
  numbers-are P h k d below =
      let c = All-contains_itself G.elements k d below in h _ (live-some G.elements _ _ (stands-at 0 G.elements _ f.elements.rising c))

  all-are : (P : ℕ → Type 0) → ((n : ℕ) → IsLive G.elements n → P n) → All P (numbers_in G.elements)
  all-are P h = All-map P (λ (e : Element). e.number) G.elements (numbers-are P h)

  users-are : (P : ℕ → Type 0) → ((n : ℕ) → IsLive G.elements n → P n) → All P (users_in G.elements)
  users-are P h = All-map P (λ (e : Element). e.number) (filter is_user G.elements) (All-filter is_user (λ (e : Element). P e.number) G.elements (numbers-are P h))

product : (a b : ℕ) → a ≤ 16384 → b ≤ 16384 → a * b ≤ 268435456
product a b h k = grind arith

pub elements_asked : (G : Graph) (relation : Relation) (judgement : Judgement) → IsWellFormed G → ((n : ℕ) → IsLive G.elements n → IsTrue (relation.live n)) →
    ((n : ℕ) → IsLive G.elements n → IsTrue (judgement.live n)) → AreAsked relation judgement (numbers_in G.elements)
elements_asked G relation judgement f h k = record { search = all-are G f (λ n. IsTrue (relation.live n)) h; judge = all-are G f (λ n. IsTrue (judgement.live n)) k }

pub users_asked : (G : Graph) (relation : Relation) (judgement : Judgement) → IsWellFormed G → ((n : ℕ) → IsLive G.elements n → IsTrue (relation.live n)) →
    ((n : ℕ) → IsLive G.elements n → IsTrue (judgement.live n)) → AreAsked relation judgement (users_in G.elements)
users_asked G relation judgement f h k = record { search = users-are G f (λ n. IsTrue (relation.live n)) h; judge = users-are G f (λ n. IsTrue (judgement.live n)) k }

pub few_asked : (G : Graph) → IsWellFormed G → length (users_in G.elements) * length (numbers_in G.elements) ≤ 268435456
few_asked G f =
    let all = length-map G.elements (λ (e : Element). e.number) in
    let some = length-map (filter is_user G.elements) (λ (e : Element). e.number) in
    let fewer = length-filter is_user G.elements in
    let few = f.elements.few in
    product (length (users_in G.elements)) (length (numbers_in G.elements)) (omega (arith, some, fewer, few)) (omega (arith, all, few))
