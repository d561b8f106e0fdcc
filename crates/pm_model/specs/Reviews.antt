-- Reviews: what a user may do, who may do something to an element, and how much each of several users may do. Source: the
-- report's capabilities of a user and access entries of an element; the order of the lists, the survey and whoever may ask
-- are the project's own.
use Rattle.std.specs.Prelude.{ℕ, Bool, not, ◌==◌, List, [], ◌∷◌, map, filter, count_ones, Option, None, Some, Result}
use Rattle.std.specs.List.{list_all, sum_by}
use Rattle.pm_model.specs.Results.{and_then, first_of, unless}
use Rattle.pm_model.specs.Authority.{first_denied, required_by}
use Rattle.pm_model.specs.Containment.{contained}
use Rattle.pm_model.specs.Decision.{rights_on}
use Rattle.pm_model.specs.Effect.{is_user_kind, has_kind}
use Rattle.pm_model.specs.KeptReviews.{KeptReview, kept_at}
use Rattle.pm_model.specs.Resolve.{resolve_question}
use Rattle.pm_model.specs.State.{Graph, element_at, classes_in}
use Rattle.pm_model.specs.declared.elements.Element.{Element}
use Rattle.pm_model.specs.declared.replies.Refusal.{Refusal}
use Rattle.pm_model.specs.declared.replies.Refusal.TheVariants.{BadKinds}
use Rattle.pm_model.specs.declared.replies.Reply.{Reply}
use Rattle.pm_model.specs.declared.replies.Reply.TheVariants as reply
use Rattle.pm_model.specs.declared.requests.Question.{Question}
use Rattle.pm_model.specs.declared.requests.Review.{Review}
use Rattle.pm_model.specs.declared.requests.Review.TheVariants.{Caps, Entries, Survey, Kept, Changes}
use Rattle.pm_model.specs.declared.reviews.Pair.{Pair}
use Rattle.pm_model.specs.declared.reviews.ReviewOf.{ReviewOf}
use Rattle.pm_model.specs.declared.reviews.ReviewOf.TheVariants as of

abbrev pub pair : ℕ → ℕ → Pair
pair n rights = record { element = n; rights = rights }

abbrev pub has_some : Pair → Bool
has_some p = not (p.rights == 0)

-- ---- lists, whatever rights each user has on each element

module _ (rights : ℕ → ℕ → ℕ) where
  -- the capabilities of the user u: those of these elements on which u has rights, with these
  abbrev pub capabilities : List ℕ → ℕ → List Pair
  capabilities elements u = filter has_some (map (λ e. pair e (rights u e)) elements)

  -- the entries of the element e: those of these users who have rights on e, with these
  abbrev pub entries : List ℕ → ℕ → List Pair
  entries users e = filter has_some (map (λ u. pair u (rights u e)) users)

  -- how many pairs of a right and one of these elements the user u has
  abbrev pub count_held : List ℕ → ℕ → ℕ
  count_held elements u = sum_by (λ e. count_ones (rights u e)) elements

  -- the same of each of these users, in their order
  abbrev pub survey : List ℕ → List ℕ → List ℕ
  survey elements users = map (count_held elements) users

-- ---- of a graph

-- the rights of a user on an element, by privilege and without those that prohibitions on the user or a user attribute cover
abbrev pub rights_in : Graph → ℕ → ℕ → ℕ
rights_in G u e = rights_on (contained G.assigned) G.associations G.prohibitions (classes_in G.elements) u e

-- the numbers of the live elements, by rising number
abbrev pub numbers_in : List Element → List ℕ
numbers_in es = map (λ (e : Element). e.number) es

abbrev pub is_user : Element → Bool
is_user e = is_user_kind e.kind

-- the numbers of the live users, by rising number
abbrev pub users_in : List Element → List ℕ
users_in es = numbers_in (filter is_user es)

-- the list of a review that may be kept: it is what the review would answer now
abbrev pub list_of : Graph → ReviewOf ℕ → List Pair
list_of G (of.Caps u) = capabilities (rights_in G) (numbers_in G.elements) u
list_of G (of.Entries e) = entries (rights_in G) (users_in G.elements) e

-- the last change of a kept review
abbrev pub last_change : Option KeptReview → Reply
last_change None = reply.Changes 0 []
last_change (Some k) = reply.Changes k.at k.changed

-- what is answered
abbrev pub reviewed : Graph → Review → Reply
reviewed G (Caps u) = reply.Caps (list_of G (of.Caps u))
reviewed G (Entries e) = reply.Entries (list_of G (of.Entries e))
reviewed G (Survey us) = reply.Survey us (survey (rights_in G) (numbers_in G.elements) us)
reviewed G (Kept of) = reply.Kept (list_of G of)
reviewed G (Changes n of) = last_change (kept_at G.kept n)

-- ---- who may ask

abbrev pub is_user_at : List Element → ℕ → Bool
is_user_at es n = has_kind is_user_kind (element_at es n)

-- what isn't met once the capabilities are allowed: what is asked for are the rights of users
abbrev pub review_checks : Graph → Review → List (Bool × Refusal)
review_checks G (Caps u) = (not (is_user_at G.elements u), BadKinds) ∷ []
review_checks G (Survey us) = (not (list_all (is_user_at G.elements) us), BadKinds) ∷ []
review_checks G _ = []

-- the review, where each capability that it asks for is allowed and it is of users
abbrev pub permitted_review : Graph → ℕ → Option ℕ → Review → Result Review Refusal
permitted_review G u q review =
    and_then (unless (first_denied G u q (required_by review)) review) (unless (first_of (review_checks G review)))

-- the review that a question names, where the user and the process may have it
abbrev pub review_ruling : Graph → ℕ → Option ℕ → Question → Result Review Refusal
review_ruling G u q question = and_then (resolve_question G question) (permitted_review G u q)
