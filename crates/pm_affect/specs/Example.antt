-- A small policy for which the judged pairs are counted: files 3; staff 4 in it; docs 5 in it; memo 6 in docs; ann 7 and bob
-- 8 in staff.
use Rattle.std.specs.Prelude.{ℕ, Bool, List, [], ◌∷◌, ◌++◌, ◌&&◌, if◌then◌else◌, length, nat_lt, slice_index_or, codes}
use Rattle.pm_model.specs.Containment.{contained}
use Rattle.pm_model.specs.KeptReviews.{new_review}
use Rattle.pm_model.specs.RightSet.{has_right}
use Rattle.pm_model.specs.Resolve.{prohibition}
use Rattle.pm_model.specs.State.{Graph, element, opening_elements, opening_graph}
use Rattle.pm_model.specs.declared.elements.Kind.TheVariants.{User, Ua, Object, Oa, Pc}
use Rattle.pm_model.specs.declared.prohibitions.Mode.TheVariants.{All}
use Rattle.pm_model.specs.declared.prohibitions.Prohibition.{Prohibition}
use Rattle.pm_model.specs.declared.prohibitions.Subject.TheVariants.{Process}
use Rattle.pm_model.specs.declared.reviews.ReviewOf.TheVariants.{Caps, Entries}
use Rattle.pm_affect.specs.Affected.{is_in}
use Rattle.pm_affect.specs.Judged.{is_kept, judged}
use Rattle.pm_affect.specs.declared.region.Region.{Region}

abbrev pub assigned : List (ℕ × ℕ)
assigned = (1, 0) ∷ (2, 1) ∷ (4, 3) ∷ (5, 3) ∷ (6, 5) ∷ (7, 4) ∷ (8, 4) ∷ []

abbrev pub elements : List ℕ
elements = 0 ∷ 1 ∷ 2 ∷ 3 ∷ 4 ∷ 5 ∷ 6 ∷ 7 ∷ 8 ∷ []

abbrev pub users : List ℕ
users = 2 ∷ 7 ∷ 8 ∷ []

-- where the capabilities of ann are kept, and the entries of memo
abbrev pub count : Region → ℕ
count region = length (judged (is_in (contained assigned) region) (is_kept (7 ∷ []) (6 ∷ [])) users elements)

-- ---- the same by words, for a search and a judge of their own

-- bit y of the word of x says that x is contained in y
abbrev pub is_shown : List ℕ → ℕ → ℕ → Bool
is_shown words x y = nat_lt y 64 && has_right (slice_index_or words x 0) y

-- whoever is contained in staff 4 has these rights on what is contained in docs 5, and no others
abbrev pub staff_rights : List ℕ → ℕ → ℕ → ℕ → ℕ
staff_rights words rights u e = if is_shown words u 4 && is_shown words e 5 then rights else 0

-- ---- the policy as a graph

abbrev pub graph : Graph
graph =
    record opening_graph {
      elements = opening_elements ++ element 3 Pc (codes "files") ∷ element 4 Ua (codes "staff") ∷ element 5 Oa (codes "docs")
          ∷ element 6 Object (codes "memo") ∷ element 7 User (codes "ann") ∷ element 8 User (codes "bob") ∷ [];
      assigned = assigned;
      associations = record { ua = 4; rights = 1; at = 5 } ∷ [];
      kept = new_review 0 (Caps 7) ∷ new_review 1 (Entries 6) ∷ [];
    }

-- process 0 is denied `read` on what is in docs
abbrev pub hold : Prohibition
hold = prohibition (codes "hold") (Process 0) 1 (5 ∷ []) [] All
