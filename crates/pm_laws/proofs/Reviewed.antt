-- Reviews: what they are of is live, and so is each element that they tell.
use Rattle.std.proofs.Common.{◌≡◌, ℕ, Bool, List, [], ◌∷◌, Option, Some, None, Ok, IsTrue, Contains, filter, map, is_some, refl, subst}
use Rattle.std.proofs.lemmas.Bool.{cond_both}
use Rattle.pm_model.specs.Results.{first_of, unless}
use Rattle.pm_model.specs.State.{Graph, State, element_at}
use Rattle.pm_model.specs.Authority.{first_denied, subjects_of, required_by, to_review}
use Rattle.pm_model.specs.Resolve.{look_up, look_up_all, look_up_review, resolve_question}
use Rattle.pm_model.specs.Reviews.{pair, has_some, numbers_in, users_in, is_user, rights_in, list_of, last_change, review_checks, permitted_review, review_ruling, reviewed}
use Rattle.pm_model.specs.KeptReviews.{KeptReview, kept_at, subject}
use Rattle.pm_model.specs.Nameable.{ArePairsNameable, IsNameable}
use Rattle.pm_model.specs.Formed.{Each, IsLive, IsWellFormed}
use Rattle.pm_model.specs.Answer.{answer}
use Rattle.pm_model.specs.declared.elements.Element.{Element}
use Rattle.pm_model.specs.declared.reviews.Pair.{Pair}
use Rattle.pm_model.specs.declared.reviews.ReviewOf.{ReviewOf}
use Rattle.pm_model.specs.declared.reviews.ReviewOf.TheVariants as of
use Rattle.pm_model.specs.declared.requests.Body.TheVariants as body
use Rattle.pm_model.specs.declared.requests.Question.{Question}
use Rattle.pm_model.specs.declared.requests.Question.TheVariants as question
use Rattle.pm_model.specs.declared.requests.Review.{Review}
use Rattle.pm_model.specs.declared.requests.Review.TheVariants.{Caps, Entries, Survey, Kept, Changes}
use Rattle.pm_laws.proofs.Bodies.{review-is, answer-is}
use Rattle.pm_laws.proofs.Checks.{unless-ok}
use Rattle.pm_laws.proofs.Items.{contains-first, contains-rest, filter-contains}
use Rattle.pm_laws.proofs.Numbers.{stands-at, live-some}
use Rattle.pm_laws.proofs.KeptReviews.{kept-live}
use Rattle.pm_laws.proofs.Resolved.{and_then-ok, ok-is, looked_up-live, all_looked_up-live, looked_up-review}

-- ---- what they are of

abbrev IsOfLive : Graph → Review → Type 0
IsOfLive G r = Each (IsLive G.elements) (subjects_of r)

review-kept : (G : Graph) (n : ℕ) (of : ReviewOf ℕ) → IsWellFormed G → look_up_review G n ≡ Ok of → IsLive G.elements (subject of)
review-kept G n of f h =
    let k = looked_up-review G n of h in
    subst (λ (r : ReviewOf ℕ). IsLive G.elements (subject r)) k.2 (kept-live G.elements G.kept n k.0 f.kept k.1)

pub question-live : (G : Graph) (q : Question) (r : Review) → IsWellFormed G → resolve_question G q ≡ Ok r → IsOfLive G r
question-live G (question.Caps user) r f h =
    let u = and_then-ok (look_up G user) (λ u. Ok (Caps u)) r h in
    subst (IsOfLive G) (ok-is _ (Caps u.0) r refl u.2) (looked_up-live G user u.0 u.1, tt)
question-live G (question.Entries element) r f h =
    let e = and_then-ok (look_up G element) (λ e. Ok (Entries e)) r h in
    subst (IsOfLive G) (ok-is _ (Entries e.0) r refl e.2) (looked_up-live G element e.0 e.1, tt)
question-live G (question.Survey users) r f h =
    let us = and_then-ok (look_up_all G users) (λ us. Ok (Survey us)) r h in
    subst (IsOfLive G) (ok-is _ (Survey us.0) r refl us.2) (all_looked_up-live G users us.0 us.1)
question-live G (question.Kept n) r f h =
    let of = and_then-ok (look_up_review G n) (λ of. Ok (Kept of)) r h in
    subst (IsOfLive G) (ok-is _ (Kept of.0) r refl of.2) (review-kept G n of.0 f of.1, tt)
question-live G (question.Changes n) r f h =
    let of = and_then-ok (look_up_review G n) (λ of. Ok (Changes n of)) r h in
    subst (IsOfLive G) (ok-is _ (Changes n of.0) r refl of.2) (review-kept G n of.0 f of.1, tt)

-- the capabilities are asked on what is live
pub asked-live : (G : Graph) (ns : List ℕ) → Each (IsLive G.elements) ns →
    Each (λ (c : ℕ × ℕ). IsLive G.elements c.1) (map (λ n. (to_review, n)) ns)
asked-live G [] h = tt
asked-live G (n ∷ ns) h = (h.0, asked-live G ns h.1)

-- so is what a review is of that is allowed
pub review_of_live : (G : Graph) (u : ℕ) (q : Option ℕ) (question : Question) (r : Review) → IsWellFormed G →
    review_ruling G u q question ≡ Ok r → Each (IsLive G.elements) (subjects_of r)
review_of_live G u q question r f h =
    let s = and_then-ok (resolve_question G question) (permitted_review G u q) r h in
    let t = and_then-ok (unless (first_denied G u q (required_by s.0)) s.0) (λ t. unless (first_of (review_checks G s.0)) t) r s.2 in
    let allowed = unless-ok (first_denied G u q (required_by s.0)) s.0 t.0 t.1 in
    let fits = unless-ok (first_of (review_checks G s.0)) t.0 r t.2 in
    subst (IsOfLive G) fits.1 (subst (IsOfLive G) allowed.1 (question-live G question s.0 f s.1))

-- ---- what they tell

pairs-named : (named : ℕ → Bool) (f : ℕ → ℕ) (ns : List ℕ) → Each (λ n. IsTrue (named n)) ns →
    ArePairsNameable named (filter has_some (map (λ n. pair n (f n)) ns))
pairs-named named f [] h = tt
pairs-named named f (n ∷ ns) h =
    let rest : List Pair = filter has_some (map (λ n. pair n (f n)) ns) in
    cond_both (has_some (pair n (f n))) (pair n (f n) ∷ rest) rest (ArePairsNameable named)
    (λ is. (h.0, pairs-named named f ns h.1)) (λ is. pairs-named named f ns h.1)

numbers-live : (G : Graph) (es : List Element) → ((e : Element) → Contains es e → IsLive G.elements e.number) →
    Each (IsLive G.elements) (numbers_in es)
numbers-live G [] h = tt
numbers-live G (e ∷ es) h = (h e (contains-first e es), numbers-live G es (λ x c. h x (contains-rest e x es c)))

element-live : (G : Graph) (e : Element) → IsWellFormed G → Contains G.elements e → IsLive G.elements e.number
element-live G e f c = live-some G.elements e.number e (stands-at 0 G.elements e f.elements.rising c)

pub elements_live : (G : Graph) → IsWellFormed G → Each (IsLive G.elements) (numbers_in G.elements)
elements_live G f = numbers-live G G.elements (λ e c. element-live G e f c)

pub users_live : (G : Graph) → IsWellFormed G → Each (IsLive G.elements) (users_in G.elements)
users_live G f = numbers-live G (filter is_user G.elements) (λ e c. element-live G e f (filter-contains is_user G.elements e c).0)

module _ (G : Graph) (f : IsWellFormed G) where
  abbrev named-in : ℕ → Bool
  named-in n = is_some (element_at G.elements n)

  list-nameable : (of : ReviewOf ℕ) → ArePairsNameable named-in (list_of G of)
  list-nameable (of.Caps u) = pairs-named named-in (λ e. rights_in G u e) (numbers_in G.elements) (elements_live G f)
  list-nameable (of.Entries e) = pairs-named named-in (λ u. rights_in G u e) (users_in G.elements) (users_live G f)

  -- a change is told by the names that it keeps
  change-nameable : (o : Option KeptReview) → IsNameable named-in (last_change o)
  change-nameable None = tt
  change-nameable (Some k) = tt

pub reviewed-nameable : (G : Graph) (r : Review) → IsWellFormed G → IsOfLive G r →
    IsNameable (λ n. is_some (element_at G.elements n)) (reviewed G r)
reviewed-nameable G (Caps u) f live = list-nameable G f (of.Caps u)
reviewed-nameable G (Entries e) f live = list-nameable G f (of.Entries e)
reviewed-nameable G (Survey us) f live = live
reviewed-nameable G (Kept of) f live = list-nameable G f of
reviewed-nameable G (Changes n of) f live = change-nameable G f (kept_at G.kept n)

-- ---- what they leave

-- a review is no entry
pub review_is_no_entry : (S : State) (after : Option ℕ) (q : ℕ) (question : Question) →
    (answer S (record { after = after; body = body.Review q question })).next ≡ None
review_is_no_entry S after q question =
    answer-is (λ a. a.next ≡ None) S (record { after = after; body = body.Review q question }) refl refl
    (review-is (λ a. a.next ≡ None) S q question (λ why. refl) (λ r. refl))
