-- Which pairs of a user and an element are judged again after a change. The project's own.
use Rattle.std.specs.Prelude.{ℕ, Bool, ◌&&◌, ◌||◌, List, [], ◌∷◌, ◌++◌, map, filter}
use Rattle.pm_affect.specs.Lists.{Lists, subjects, is_among}

-- the capabilities of the user are kept, or the entries of the element
abbrev pub is_kept : List ℕ → List ℕ → ℕ → ℕ → Bool
is_kept caps entries u e = is_among caps u || is_among entries e

-- the pair lies in the scope of a kept review
abbrev pub in_scope : Lists → ℕ → ℕ → Bool
in_scope L u e = is_kept (subjects L.caps) (subjects L.entries) u e

-- each user with each element
abbrev pub pairs_of : List ℕ → List ℕ → List (ℕ × ℕ)
pairs_of [] elements = []
pairs_of (u ∷ users) elements = map (λ e. (u, e)) elements ++ pairs_of users elements

-- those that lie inside, and in a scope
abbrev pub judged : (ℕ → ℕ → Bool) → (ℕ → ℕ → Bool) → List ℕ → List ℕ → List (ℕ × ℕ)
judged inside scope users elements = filter (λ p. inside p.0 p.1 && scope p.0 p.1) (pairs_of users elements)
