-- Where a line ends.
use Rattle.std.specs.Prelude.{◌≡◌, ℕ, ◌==◌, List, [], ◌∷◌, ◌++◌, All, Contains, flat_map, if◌then◌else◌}

-- no line feed stands in it
abbrev pub HasNoFeed : List ℕ → Type 0
HasNoFeed bytes = ¬ Contains bytes 10

-- the bytes are this line, its line feed, and what is behind it
pub record IsCut (bytes line rest : List ℕ) : Type 0 where
  pub split : bytes ≡ line ++ 10 ∷ rest
  pub plain : HasNoFeed line

-- the lines, each with a line feed behind it
abbrev pub joined : List (List ℕ) → List ℕ
joined lines = flat_map (λ line. line ++ 10 ∷ []) lines

-- the bytes are these whole lines, and then the rest of one
pub record AreLines (bytes : List ℕ) (lines : List (List ℕ)) (rest : List ℕ) : Type 0 where
  pub split : bytes ≡ joined lines ++ rest
  pub plain : All HasNoFeed lines
  pub begun : HasNoFeed rest

-- what has come of the line that isn't whole yet
abbrev pub open_from : List ℕ → List ℕ → List ℕ
open_from begun [] = begun
open_from begun (c ∷ cs) = if c == 10 then open_from [] cs else open_from (begun ++ c ∷ []) cs

-- the same of a whole stream
abbrev pub open_line : List ℕ → List ℕ
open_line = open_from []
