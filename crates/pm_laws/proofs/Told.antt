-- What a refusal of names or of preconditions tells has names: it tells no element by its number.
use Rattle.std.proofs.Common.{◌≡◌, ℕ, Bool, List, [], ◌∷◌, Option, Some, None, IfSome, Result, Ok, Err, IfErr, MatchResult, refl}
use Rattle.std.specs.Bool.{⊤}
use Rattle.std.specs.List.{list_any}
use Rattle.std.proofs.lemmas.Bool.{cond_both}
use Rattle.pm_model.specs.Results.{and_then, first_of, unless}
use Rattle.pm_model.specs.State.{Graph, number_named}
use Rattle.pm_model.specs.RightSet.{bit_named, with_right}
use Rattle.pm_model.specs.Sessions.{is_process}
use Rattle.pm_model.specs.Prohibitions.{place_called}
use Rattle.pm_model.specs.Resolve.{unused, known, look_up, look_up_both, look_up_all, look_up_rights, look_up_process, look_up_subject, prohibition, look_up_if, look_up_operation, look_up_when, look_up_review, look_up_of, obligation, resolve, resolve_question}
use Rattle.pm_model.specs.Obligations as obliged
use Rattle.pm_model.specs.KeptReviews.{KeptReview, kept_at}
use Rattle.pm_model.specs.Operations.{is_operation}
use Rattle.pm_model.specs.Effect.{checks, refusal, changed, effect}
use Rattle.pm_model.specs.Reviews.{review_checks}
use Rattle.pm_model.specs.Nameable.{IsRefusalNameable}
use Rattle.pm_model.specs.Formed.{Each}
use Rattle.pm_model.specs.declared.events.When.{When}
use Rattle.pm_model.specs.declared.requests.Command.{Command}
use Rattle.pm_model.specs.declared.requests.Command.TheVariants as command
use Rattle.pm_model.specs.declared.requests.Change.{Change}
use Rattle.pm_model.specs.declared.requests.Change.TheVariants as change
use Rattle.pm_model.specs.declared.requests.Question.{Question}
use Rattle.pm_model.specs.declared.requests.Question.TheVariants as question
use Rattle.pm_model.specs.declared.requests.Review.{Review}
use Rattle.pm_model.specs.declared.requests.Review.TheVariants as review
use Rattle.pm_model.specs.declared.prohibitions.Subject.{Subject}
use Rattle.pm_model.specs.declared.prohibitions.Subject.TheVariants as subject
use Rattle.pm_model.specs.declared.reviews.ReviewOf.{ReviewOf}
use Rattle.pm_model.specs.declared.reviews.ReviewOf.TheVariants as of
use Rattle.pm_model.specs.declared.replies.Refusal.{Refusal}
use Rattle.pm_model.specs.declared.replies.Refusal.TheVariants.{UnknownProcess, UnknownName}

-- ---- steps in order

module _ {A B E : Type 0} (P : B → Type 0) (Q : E → Type 0) where
  -- what holds of the first step's error, and of the second step's outcome
  pub and_then-of : (r : Result A E) (f : A → Result B E) → IfErr r Q → ((a : A) → r ≡ Ok a → MatchResult (f a) P Q) →
      MatchResult (and_then r f) P Q
  and_then-of (Ok a) f first second = second a refl
  and_then-of (Err e) f first second = first

module _ {E : Type 0} (Q : E → Type 0) where
  first_of-each : (tests : List (Bool × E)) → Each (λ test. Q test.1) tests → IfSome (first_of tests) Q
  first_of-each [] h = tt
  first_of-each (test ∷ tests) h =
      cond_both test.0 (Some test.1) (first_of tests) (λ why. IfSome why Q) (λ is. h.0) (λ is. first_of-each tests h.1)

  pub unless-err : {A : Type 0} (why : Option E) (new : A) → IfSome why Q → IfErr (unless why new) Q
  unless-err (Some why) new h = h
  unless-err None new h = tt

module _ (named : ℕ → Bool) where
  -- the refusal's elements have names
  abbrev pub IsTellable : Refusal → Type 0
  IsTellable = IsRefusalNameable named

  -- ---- names

  abbrev pub IsTold : {A : Type 0} → Result A Refusal → Type 0
  IsTold r = IfErr r IsTellable

  pub then-told : {A B : Type 0} (r : Result A Refusal) (f : A → Result B Refusal) → IsTold r → ((a : A) → IsTold (f a)) → IsTold (and_then r f)
  then-told r f first second = and_then-of (λ _. ⊤) IsTellable r f first (λ a is. second a)

  known-told : (name : List ℕ) (o : Option ℕ) → IsTold (known name o)
  known-told name (Some n) = tt
  known-told name None = tt

  pub look_up-told : (G : Graph) (name : List ℕ) → IsTold (look_up G name)
  look_up-told G name = known-told name (number_named G.elements name)

  both-told : (G : Graph) (first second : List ℕ) → IsTold (look_up_both G first second)
  both-told G first second =
      then-told (look_up G first) (λ x. and_then (look_up G second) (λ y. Ok (x, y))) (look_up-told G first)
      (λ x. then-told (look_up G second) (λ y. Ok (x, y)) (look_up-told G second) (λ y. tt))

  all-told : (G : Graph) (names : List (List ℕ)) → IsTold (look_up_all G names)
  all-told G [] = tt
  all-told G (n ∷ ns) =
      then-told (look_up G n) (λ x. and_then (look_up_all G ns) (λ xs. Ok (x ∷ xs))) (look_up-told G n)
      (λ x. then-told (look_up_all G ns) (λ xs. Ok (x ∷ xs)) (all-told G ns) (λ xs. tt))

  rights-told : (G : Graph) (names : List (List ℕ)) → IsTold (look_up_rights G names)
  rights-told G [] = tt
  rights-told G (n ∷ ns) =
      then-told (known n (bit_named G.rights n)) (λ bit. and_then (look_up_rights G ns) (λ rights. Ok (with_right bit rights)))
      (known-told n (bit_named G.rights n))
      (λ bit. then-told (look_up_rights G ns) (λ rights. Ok (with_right bit rights)) (rights-told G ns) (λ rights. tt))

  process-told : (G : Graph) (n : ℕ) → IsTold (look_up_process G n)
  process-told G n =
      cond_both (list_any (is_process n) G.procs.processes) (Ok n) (Err UnknownProcess) (λ (r : Result ℕ Refusal). IsTold r) (λ is. tt) (λ is. tt)

  subject-told : (G : Graph) (s : Subject (List ℕ) ℕ) → IsTold (look_up_subject G s)
  subject-told G (subject.User name) = then-told (look_up G name) (λ n. Ok (subject.User n)) (look_up-told G name) (λ n. tt)
  subject-told G (subject.Ua name) = then-told (look_up G name) (λ n. Ok (subject.Ua n)) (look_up-told G name) (λ n. tt)
  subject-told G (subject.Process p) = then-told (look_up_process G p) (λ n. Ok (subject.Process n)) (process-told G p) (λ n. tt)

  if-told : (G : Graph) (name : Option (List ℕ)) → IsTold (look_up_if G name)
  if-told G None = tt
  if-told G (Some name) = then-told (look_up G name) (λ n. Ok (Some n)) (look_up-told G name) (λ n. tt)

  operation-told : (G : Graph) (name : List ℕ) → IsTold (look_up_operation G name)
  operation-told G name =
      cond_both (is_operation G.rights name) (Ok name) (Err (UnknownName name)) (λ (r : Result (List ℕ) Refusal). IsTold r) (λ is. tt) (λ is. tt)

  when-told : (G : Graph) (when : When) → IsTold (look_up_when G when)
  when-told G when =
      then-told (look_up_operation G when.on) _ (operation-told G when.on)
      (λ on. then-told (look_up_if G when.user) _ (if-told G when.user)
      (λ user. then-told (look_up_if G when.target) _ (if-told G when.target) (λ target. tt)))

  review-told : (G : Graph) (n : ℕ) → IsTold (look_up_review G n)
  review-told G n = by (kept_at G.kept n) refl where
    by : (o : Option KeptReview) → kept_at G.kept n ≡ o → IsTold (look_up_review G n)
    by (Some k) is = rw is tt
    by None is = rw is tt

  of-told : (G : Graph) (of : ReviewOf (List ℕ)) → IsTold (look_up_of G of)
  of-told G (of.Caps name) = then-told (look_up G name) (λ n. Ok (of.Caps n)) (look_up-told G name) (λ n. tt)
  of-told G (of.Entries name) = then-told (look_up G name) (λ n. Ok (of.Entries n)) (look_up-told G name) (λ n. tt)

  pub resolve-told : (G : Graph) (u : ℕ) (c : Command) → IsTold (resolve G u c)
  resolve-told G u (command.CreatePc name) = tt
  resolve-told G u (command.Create kind name into) =
      then-told (look_up G into) (λ c. Ok (change.Create (unused G.elements) kind name (Some c))) (look_up-told G into) (λ c. tt)
  resolve-told G u (command.Delete name) = then-told (look_up G name) (λ n. Ok (change.Delete n)) (look_up-told G name) (λ n. tt)
  resolve-told G u (command.Assign from to) =
      then-told (look_up_both G from to) (λ p. Ok (change.Assign p.0 p.1)) (both-told G from to) (λ p. tt)
  resolve-told G u (command.Deassign from to) =
      then-told (look_up_both G from to) (λ p. Ok (change.Deassign p.0 p.1)) (both-told G from to) (λ p. tt)
  resolve-told G u (command.Associate ua rights at) =
      then-told (look_up G ua) (λ a. and_then (look_up_rights G rights) (λ r. and_then (look_up G at) (λ t. Ok (change.Associate a r t)))) (look_up-told G ua)
      (λ a. then-told (look_up_rights G rights) (λ r. and_then (look_up G at) (λ t. Ok (change.Associate a r t))) (rights-told G rights)
      (λ r. then-told (look_up G at) (λ t. Ok (change.Associate a r t)) (look_up-told G at) (λ t. tt)))
  resolve-told G u (command.Dissociate ua at) =
      then-told (look_up_both G ua at) (λ p. Ok (change.Dissociate p.0 p.1)) (both-told G ua at) (λ p. tt)
  resolve-told G u (command.Prohibit name s rights inc exc mode) =
      then-told (look_up_subject G s) (λ t. and_then (look_up_rights G rights) (λ r. and_then (look_up_all G inc) (λ i.
      and_then (look_up_all G exc) (λ e. Ok (change.Prohibit (prohibition name t r i e mode)))))) (subject-told G s)
      (λ t. then-told (look_up_rights G rights) (λ r. and_then (look_up_all G inc) (λ i. and_then (look_up_all G exc) (λ e.
      Ok (change.Prohibit (prohibition name t r i e mode))))) (rights-told G rights)
      (λ r. then-told (look_up_all G inc) (λ i. and_then (look_up_all G exc) (λ e. Ok (change.Prohibit (prohibition name t r i e mode)))) (all-told G inc)
      (λ i. then-told (look_up_all G exc) (λ e. Ok (change.Prohibit (prohibition name t r i e mode))) (all-told G exc) (λ e. tt))))
  resolve-told G u (command.Lift name) =
      then-told (known name (place_called G.prohibitions name)) (λ i. Ok (change.Lift i)) (known-told name (place_called G.prohibitions name)) (λ i. tt)
  resolve-told G u (command.DefineRight name) = tt
  resolve-told G u (command.Oblige name when response) =
      then-told (look_up_when G when) (λ pattern. Ok (change.Oblige (obligation name u pattern response))) (when-told G when) (λ pattern. tt)
  resolve-told G u (command.Withdraw name) =
      then-told (known name (obliged.place_called G.obligations name)) (λ i. Ok (change.Withdraw i))
      (known-told name (obliged.place_called G.obligations name)) (λ i. tt)
  resolve-told G u (command.Keep of) = then-told (look_up_of G of) (λ r. Ok (change.Keep r)) (of-told G of) (λ r. tt)
  resolve-told G u (command.DropReview n) = then-told (look_up_review G n) (λ of. Ok (change.DropReview n)) (review-told G n) (λ of. tt)

  pub question-told : (G : Graph) (q : Question) → IsTold (resolve_question G q)
  question-told G (question.Caps user) = then-told (look_up G user) (λ u. Ok (review.Caps u)) (look_up-told G user) (λ u. tt)
  question-told G (question.Entries element) = then-told (look_up G element) (λ e. Ok (review.Entries e)) (look_up-told G element) (λ e. tt)
  question-told G (question.Survey users) = then-told (look_up_all G users) (λ us. Ok (review.Survey us)) (all-told G users) (λ us. tt)
  question-told G (question.Kept n) = then-told (look_up_review G n) (λ of. Ok (review.Kept of)) (review-told G n) (λ of. tt)
  question-told G (question.Changes n) = then-told (look_up_review G n) (λ of. Ok (review.Changes n of)) (review-told G n) (λ of. tt)

  -- ---- preconditions

  checks-told : (G : Graph) (change : Change) → Each (λ check. IsTellable check.1) (checks G change)
  checks-told G (change.Create id kind name into) = (tt, (tt, (tt, (tt, tt))))
  checks-told G (change.Delete id) = (tt, (tt, (tt, tt)))
  checks-told G (change.Assign x y) = (tt, (tt, (tt, (tt, tt))))
  checks-told G (change.Deassign x y) = (tt, (tt, (tt, tt)))
  checks-told G (change.Associate u r t) = (tt, (tt, (tt, tt)))
  checks-told G (change.Dissociate u t) = (tt, tt)
  checks-told G (change.OpenSession u) = (tt, (tt, tt))
  checks-told G (change.CloseSession n) = (tt, (tt, tt))
  checks-told G (change.StartProcess n) = (tt, (tt, tt))
  checks-told G (change.EndProcess n) = (tt, (tt, tt))
  checks-told G (change.Prohibit p) = (tt, (tt, (tt, (tt, tt))))
  checks-told G (change.Lift i) = tt
  checks-told G (change.Oblige o) = (tt, (tt, (tt, tt)))
  checks-told G (change.Withdraw i) = tt
  checks-told G (change.DefineRight name) = (tt, (tt, tt))
  checks-told G (change.Keep of) = (tt, (tt, (tt, tt)))
  checks-told G (change.DropReview n) = tt

  pub effect-told : (G : Graph) (change : Change) → IsTold (effect G change)
  effect-told G change =
      unless-err IsTellable (refusal G change) (changed G change) (first_of-each IsTellable (checks G change) (checks-told G change))

  -- of a review
  review_checks-told : (G : Graph) (r : Review) → Each (λ check. IsTellable check.1) (review_checks G r)
  review_checks-told G (review.Caps u) = (tt, tt)
  review_checks-told G (review.Entries e) = tt
  review_checks-told G (review.Survey us) = (tt, tt)
  review_checks-told G (review.Kept of) = tt
  review_checks-told G (review.Changes n of) = tt

  pub kinds-told : (G : Graph) (r s : Review) → IsTold (unless (first_of (review_checks G r)) s)
  kinds-told G r s = unless-err IsTellable (first_of (review_checks G r)) s (first_of-each IsTellable (review_checks G r) (review_checks-told G r))
