-- A review that is allowed of a kept one is of what is kept.
use Rattle.std.proofs.Common.{◌≡◌, ℕ, Option, Ok, refl, subst}
use Rattle.pm_model.specs.Results.{first_of, unless}
use Rattle.pm_model.specs.State.{Graph}
use Rattle.pm_model.specs.Authority.{first_denied, required_by}
use Rattle.pm_model.specs.KeptReviews.{is_kept_as, is_kept_of}
use Rattle.pm_model.specs.Resolve.{look_up, look_up_all, look_up_review, resolve_question}
use Rattle.pm_model.specs.Reviews.{permitted_review, review_checks, review_ruling}
use Rattle.pm_model.specs.declared.requests.Question.{Question}
use Rattle.pm_model.specs.declared.requests.Question.TheVariants as question
use Rattle.pm_model.specs.declared.requests.Review.{Review}
use Rattle.pm_model.specs.declared.requests.Review.TheVariants.{Caps, Entries, Survey, Kept, Changes}
use Rattle.pm_laws.proofs.Checks.{unless-ok}
use Rattle.pm_laws.proofs.Items.{any-from, find-found}
use Rattle.pm_laws.proofs.KeptReviews.{is-same}
use Rattle.pm_laws.proofs.Resolved.{and_then-ok, ok-is, looked_up-review}
use Rattle.pm_step.specs.Asking.{IsOfKept}

question-kept : (G : Graph) (q : Question) (r : Review) → resolve_question G q ≡ Ok r → IsOfKept G r
question-kept G (question.Caps user) r h =
    let u = and_then-ok (look_up G user) (λ u. Ok (Caps u)) r h in subst (IsOfKept G) (ok-is _ (Caps u.0) r refl u.2) tt
question-kept G (question.Entries element) r h =
    let e = and_then-ok (look_up G element) (λ e. Ok (Entries e)) r h in subst (IsOfKept G) (ok-is _ (Entries e.0) r refl e.2) tt
question-kept G (question.Survey users) r h =
    let us = and_then-ok (look_up_all G users) (λ us. Ok (Survey us)) r h in subst (IsOfKept G) (ok-is _ (Survey us.0) r refl us.2) tt
question-kept G (question.Kept n) r h =
    let of = and_then-ok (look_up_review G n) (λ of. Ok (Kept of)) r h in
    let k = looked_up-review G n of.0 of.1 in
    subst (IsOfKept G) (ok-is _ (Kept of.0) r refl of.2)
    (any-from (is_kept_of of.0) G.kept k.0 (find-found (is_kept_as n) G.kept k.0 k.1).0 (rw k.2 (is-same of.0)))
question-kept G (question.Changes n) r h =
    let of = and_then-ok (look_up_review G n) (λ of. Ok (Changes n of)) r h in subst (IsOfKept G) (ok-is _ (Changes n of.0) r refl of.2) tt

pub ruled-kept : (G : Graph) (u : ℕ) (q : Option ℕ) (question : Question) (r : Review) → review_ruling G u q question ≡ Ok r → IsOfKept G r
ruled-kept G u q question r h =
    let s = and_then-ok (resolve_question G question) (permitted_review G u q) r h in
    let t = and_then-ok (unless (first_denied G u q (required_by s.0)) s.0) (λ t. unless (first_of (review_checks G s.0)) t) r s.2 in
    let allowed = unless-ok (first_denied G u q (required_by s.0)) s.0 t.0 t.1 in
    let fits = unless-ok (first_of (review_checks G s.0)) t.0 r t.2 in
    subst (IsOfKept G) fits.1 (subst (IsOfKept G) allowed.1 (question-kept G question s.0 s.1))
