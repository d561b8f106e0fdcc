-- What a command or a review asks of whoever gives it: capabilities, each a right on an element, in order. Source: the
-- standard's access rights for administration; which command asks for which is the project's own. One clause for each
-- change.
use Rattle.std.specs.Prelude.{ℕ, Bool, ◌==◌, ◌&&◌, nat_le, if◌then◌else◌, List, [], ◌∷◌, ◌++◌, map, Option, None, Some, unwrap_or, slice_get, Result}
use Rattle.pm_model.specs.Results.{and_then, unless}
use Rattle.pm_model.specs.State.{Graph, root, classes_in}
use Rattle.pm_model.specs.Sessions.{user_of}
use Rattle.pm_model.specs.Containment.{contained}
use Rattle.pm_model.specs.Decision.{lacking, forbidding}
use Rattle.pm_model.specs.Resolve.{resolve}
use Rattle.pm_model.specs.declared.elements.Kind.{Kind}
use Rattle.pm_model.specs.declared.elements.Kind.TheVariants.{User, Ua, Object, Oa, Pc}
use Rattle.pm_model.specs.KeptReviews.{KeptReview, kept_at, subject}
use Rattle.pm_model.specs.declared.events.Pattern.{Pattern}
use Rattle.pm_model.specs.declared.obligations.Obligation.{Obligation}
use Rattle.pm_model.specs.declared.prohibitions.Prohibition.{Prohibition}
use Rattle.pm_model.specs.declared.prohibitions.Subject.{Subject}
use Rattle.pm_model.specs.declared.prohibitions.Subject.TheVariants as acting
use Rattle.pm_model.specs.declared.requests.Command.{Command}
use Rattle.pm_model.specs.declared.requests.Change.{Change}
use Rattle.pm_model.specs.declared.requests.Change.TheVariants as change
use Rattle.pm_model.specs.declared.requests.Review.{Review}
use Rattle.pm_model.specs.declared.requests.Review.TheVariants as review
use Rattle.pm_model.specs.declared.replies.Reason.{Reason}
use Rattle.pm_model.specs.declared.replies.Reason.TheVariants as reason
use Rattle.pm_model.specs.declared.replies.Refusal.{Refusal}
use Rattle.pm_model.specs.declared.replies.Refusal.TheVariants.{Denied}

-- ---- required capabilities

-- the bits of the rights that administration asks for
abbrev pub right_to_create : Kind → ℕ
right_to_create User = 2
right_to_create Ua = 3
right_to_create Oa = 4
right_to_create Object = 5
right_to_create Pc = 3

abbrev pub to_delete : ℕ
to_delete = 6

abbrev pub to_assign : ℕ
to_assign = 7

abbrev pub to_assign_to : ℕ
to_assign_to = 8

abbrev pub to_deassign : ℕ
to_deassign = 9

abbrev pub to_deassign_from : ℕ
to_deassign_from = 10

abbrev pub to_associate : ℕ
to_associate = 11

abbrev pub to_associate_to : ℕ
to_associate_to = 12

abbrev pub to_prohibit : ℕ
to_prohibit = 13

abbrev pub to_prohibit_to : ℕ
to_prohibit_to = 14

abbrev pub to_oblige : ℕ
to_oblige = 15

abbrev pub to_review : ℕ
to_review = 16

-- the policy class of the opening, on which is asked for what has no container, and what waits for events on any target
abbrev pub pm : ℕ
pm = 0

-- the element that a subject means: where it is a process, the user for whom it acts
abbrev pub subject_element : Graph → Subject ℕ ℕ → ℕ
subject_element G (acting.User n) = n
subject_element G (acting.Ua n) = n
subject_element G (acting.Process n) = unwrap_or (user_of G.procs n) 0

abbrev pub prohibited_at : Graph → Option Prohibition → List (ℕ × ℕ)
prohibited_at G None = []
prohibited_at G (Some p) = (to_prohibit, subject_element G p.subject) ∷ []

-- to wait for events of this pattern
abbrev pub watched_at : Pattern → List (ℕ × ℕ)
watched_at pattern = by_user pattern.user ++ (to_oblige, unwrap_or pattern.target pm) ∷ [] where
  by_user : Option ℕ → List (ℕ × ℕ)
  by_user None = []
  by_user (Some x) = (to_oblige, x) ∷ []

abbrev pub obliged_at : Option Obligation → List (ℕ × ℕ)
obliged_at None = []
obliged_at (Some o) = watched_at o.pattern

-- to review what a kept review is of
abbrev pub kept_of : Option KeptReview → List (ℕ × ℕ)
kept_of None = []
kept_of (Some k) = (to_review, subject k.of) ∷ []

-- each a right and an element
abbrev pub required : Graph → Change → List (ℕ × ℕ)
required G (change.Create id kind name None) = (right_to_create kind, pm) ∷ []
required G (change.Create id kind name (Some into)) = (right_to_create kind, into) ∷ []
required G (change.Delete id) = (to_delete, id) ∷ []
required G (change.Assign x y) = (to_assign, x) ∷ (to_assign_to, y) ∷ []
required G (change.Deassign x y) = (to_deassign, x) ∷ (to_deassign_from, y) ∷ []
required G (change.Associate u r t) = (to_associate, u) ∷ (to_associate_to, t) ∷ []
required G (change.Dissociate u t) = (to_associate, u) ∷ (to_associate_to, t) ∷ []
required G (change.Prohibit p) = (to_prohibit, subject_element G p.subject) ∷ map (λ a. (to_prohibit_to, a)) (p.inc ++ p.exc)
required G (change.Lift i) = prohibited_at G (slice_get G.prohibitions i)
required G (change.Oblige o) = watched_at o.pattern
required G (change.Withdraw i) = obliged_at (slice_get G.obligations i)
required G (change.DefineRight name) = (right_to_create Pc, pm) ∷ []
required G (change.Keep of) = (to_review, subject of) ∷ []
required G (change.DropReview n) = kept_of (kept_at G.kept n)
required G _ = []

-- the elements that a review is of
abbrev pub subjects_of : Review → List ℕ
subjects_of (review.Caps u) = u ∷ []
subjects_of (review.Entries e) = e ∷ []
subjects_of (review.Survey us) = us
subjects_of (review.Kept of) = subject of ∷ []
subjects_of (review.Changes n of) = subject of ∷ []

-- what it asks for: to review each of them
abbrev pub required_by : Review → List (ℕ × ℕ)
required_by review = map (λ n. (to_review, n)) (subjects_of review)

-- ---- allowed

-- the class in which the user lacks the right on the element
abbrev pub lacking_in : Graph → ℕ → ℕ → ℕ → Option ℕ
lacking_in G u r e = lacking (contained G.assigned) G.associations (classes_in G.elements) u r e

-- the first prohibition that applies to the user or the process and covers the right on the element
abbrev pub forbidding_in : Graph → ℕ → Option ℕ → ℕ → ℕ → Option Prohibition
forbidding_in G u q r e = forbidding (contained G.assigned) G.prohibitions u q r e

-- the reason of a denial: a class comes before a prohibition
abbrev pub reason_of : Option ℕ → Option Prohibition → Option Reason
reason_of (Some pc) p = Some (reason.Class pc)
reason_of None (Some p) = Some (reason.Prohibition p.name)
reason_of None None = None

-- the administrative rights, which the root user has everywhere
abbrev pub is_administrative : ℕ → Bool
is_administrative r = nat_le 2 r && nat_le r 16

-- why the right on the element is denied to the user and the process, if it is
abbrev pub denial_in : Graph → ℕ → Option ℕ → ℕ → ℕ → Option Reason
denial_in G u q r e =
    if u == root && is_administrative r then None else reason_of (lacking_in G u r e) (forbidding_in G u q r e)

-- the name of a right
abbrev pub right_name : Graph → ℕ → List ℕ
right_name G r = unwrap_or (slice_get G.rights r) []

abbrev pub denied_unless : Graph → ℕ → ℕ → Option Reason → Option Refusal → Option Refusal
denied_unless G r e (Some why) rest = Some (Denied (right_name G r) e why)
denied_unless G r e None rest = rest

-- the first capability that is denied
abbrev pub first_denied : Graph → ℕ → Option ℕ → List (ℕ × ℕ) → Option Refusal
first_denied G u q [] = None
first_denied G u q (c ∷ cs) = denied_unless G c.0 c.1 (denial_in G u q c.0 c.1) (first_denied G u q cs)

-- the change, where each capability that it asks for is allowed
abbrev pub permitted : Graph → ℕ → Option ℕ → Change → Result Change Refusal
permitted G u q change = unless (first_denied G u q (required G change)) change

-- the change that a command names, where the user and the process may make it
abbrev pub ruling : Graph → ℕ → Option ℕ → Command → Result Change Refusal
ruling G u q command = and_then (resolve G u command) (permitted G u q)
