-- How much work responses are, an action and an obligation at a time.
use Rattle.std.proofs.Common.{◌≡◌, ℕ, ◌+◌, ◌<◌, List, [], ◌∷◌, ◌++◌, length, take, Some, slice_get, Result, Ok, Err, sym, ◌∙◌, ap, arith}
use Rattle.std.proofs.lemmas.Option.{slice_get_within}
use Rattle.std.proofs.lemmas.List.{length-take-le}
use Rattle.pm_model.specs.Results.{and_then}
use Rattle.pm_model.specs.State.{Graph}
use Rattle.pm_model.specs.Responses.{Stopped, acted, or_stopped, response_from, responses_from}
use Rattle.pm_model.specs.declared.events.EventNames.{EventNames}
use Rattle.pm_model.specs.declared.actions.Action.{Action}
use Rattle.pm_model.specs.declared.obligations.Obligation.{Obligation}
use Rattle.pm_model.specs.declared.replies.Refusal.{Refusal}
use Rattle.pm_affect.specs.Counting.{Work, capped, count_on, work_acted, work_response_from, work_responses_from}
use Rattle.pm_affect.proofs.Counting.{capped-more, count-none, response-more, responses-more}
use Rattle.pm_runner.specs.Turns.{Occasion, obliged, responded_by, work_acted_at, work_obliged, work_responded_by}
use Rattle.pm_runner.proofs.Places.{take-item, item-there}
use Rattle.pm_runner.proofs.Steps.{place_of, standing-is}

-- ---- some, and then the others

module _ (w : Work) (names : EventNames) (version : ℕ) where
  -- behind an action
  acted-count : (o : Obligation) (number a : ℕ) (whole part : Graph → ℕ) (made : Graph → Result Graph Stopped) (last : Graph → ℕ) →
      ((G : Graph) → whole G ≡ part G + count_on (made G) last) → (step : Result Graph Refusal) →
      a + count_on step whole ≡ (a + count_on step part) + count_on (and_then (or_stopped names version o number step) made) last
  acted-count o number a whole part made last split (Ok G) = let more = split G in omega (arith, more)
  acted-count o number a whole part made last split (Err why) = omega arith

  response-count : (o : Obligation) (place : ℕ) (xs ys : List Action) (number n : ℕ) (G : Graph) → n ≡ number + length xs →
      work_response_from w names version o place number G (xs ++ ys)
      ≡ work_response_from w names version o place number G xs
      + count_on (response_from names version o place number G xs) (λ between. work_response_from w names version o place n between ys)
  response-count o place [] ys number n G e = let same : n ≡ number = omega arith in rw same (omega arith)
  response-count o place (x ∷ xs) ys number n G e =
      response-more w names version o place number G x (xs ++ ys)
      ∙ acted-count o number (work_acted w names version G o.author (record { obligation = place; action = number }) x) _ _ _ _
      (λ next. response-count o place xs ys (number + 1) n next (omega arith))
      (acted names version G o.author (record { obligation = place; action = number }) x)
      ∙ ap (λ count. count + count_on (response_from names version o place number G (x ∷ xs)) (λ between. work_response_from w names version o place n between ys))
      (sym (response-more w names version o place number G x xs))

  -- behind an obligation
  obliged-count : (a : ℕ) (whole part : Graph → ℕ) (made : Graph → Result Graph Stopped) (last : Graph → ℕ) →
      ((G : Graph) → whole G ≡ part G + count_on (made G) last) → (step : Result Graph Stopped) →
      a + count_on step whole ≡ (a + count_on step part) + count_on (and_then step made) last
  obliged-count a whole part made last split (Ok G) = let more = split G in omega (arith, more)
  obliged-count a whole part made last split (Err why) = omega arith

  responses-count : (xs ys : List Obligation) (place n : ℕ) (G : Graph) → n ≡ place + length xs →
      work_responses_from w names version place G (xs ++ ys)
      ≡ work_responses_from w names version place G xs
      + count_on (responses_from names version place G xs) (λ between. work_responses_from w names version n between ys)
  responses-count [] ys place n G e = let same : n ≡ place = omega arith in rw same (omega arith)
  responses-count (x ∷ xs) ys place n G e =
      responses-more w names version place G x (xs ++ ys)
      ∙ obliged-count (work_response_from w names version x place 1 G x.response) _ _ _ _
      (λ next. responses-count xs ys (place + 1) n next (omega arith))
      (response_from names version x place 1 G x.response)
      ∙ ap (λ count. count + count_on (responses_from names version place G (x ∷ xs)) (λ between. work_responses_from w names version n between ys))
      (sym (responses-more w names version place G x xs))

-- a count so far, one step more
more : (old now next sum step whole : ℕ) → capped now ≡ capped (old + sum) → capped next ≡ capped (now + step) → whole ≡ sum + step →
    capped next ≡ capped (old + whole)
more old now next sum step whole so adds is = let further = capped-more now (old + sum) step so in omega (arith, adds, further, is)

-- ---- one action

action-counted : (w : Work) (occasion : Occasion) (o : Obligation) (index i : ℕ) (start G : Graph) → i < length o.response →
    slice_get occasion.obligations index ≡ Some o →
    obliged occasion o (index + 1) start (take i o.response) ≡ Ok G →
    work_obliged w occasion o (index + 1) start (take (i + 1) o.response)
    ≡ work_obliged w occasion o (index + 1) start (take i o.response) + work_acted_at w occasion G (place_of index i)
action-counted w occasion o index i start G below is made =
    let there = item-there o.response i below in
    let few : length (take i o.response) ≡ i = length-take-le i o.response (omega (arith, below)) in
    let step = acted occasion.names occasion.version G o.author (place_of index i) there.0 in
    let counted = work_acted w occasion.names occasion.version G o.author (place_of index i) there.0 in
    let none = count-none step in
    let one = response-more w occasion.names occasion.version o (index + 1) (i + 1) G there.0 [] in
    let alone : work_obliged w occasion o (index + 1) start (take i o.response) + work_response_from w occasion.names occasion.version o (index + 1) (i + 1) G (there.0 ∷ [])
    ≡ work_obliged w occasion o (index + 1) start (take i o.response) + counted = omega (arith, none, one) in
    rw (take-item o.response i there.0 there.1, standing-is occasion.obligations index i o there.0 is there.1)
    (response-count w occasion.names occasion.version o (index + 1) (take i o.response) (there.0 ∷ []) 1 (i + 1) start (omega (arith, few))
    ∙ rw made alone)

pub act-counted : (w : Work) (occasion : Occasion) (o : Obligation) (index i : ℕ) (start G : Graph) (old now next : ℕ) → i < length o.response →
    slice_get occasion.obligations index ≡ Some o →
    obliged occasion o (index + 1) start (take i o.response) ≡ Ok G →
    capped now ≡ capped (old + work_obliged w occasion o (index + 1) start (take i o.response)) →
    capped next ≡ capped (now + work_acted_at w occasion G (place_of index i)) →
    capped next ≡ capped (old + work_obliged w occasion o (index + 1) start (take (i + 1) o.response))
act-counted w occasion o index i start G old now next below is made so adds =
    more old now next _ _ _ so adds (action-counted w occasion o index i start G below is made)

-- ---- one obligation

obligation-counted : (w : Work) (occasion : Occasion) (i : ℕ) (start G : Graph) (o : Obligation) → slice_get occasion.obligations i ≡ Some o →
    responded_by occasion start (take i occasion.obligations) ≡ Ok G →
    work_responded_by w occasion start (take (i + 1) occasion.obligations)
    ≡ work_responded_by w occasion start (take i occasion.obligations) + work_obliged w occasion o (i + 1) G o.response
obligation-counted w occasion i start G o is made =
    let below : i < length occasion.obligations = slice_get_within occasion.obligations i o is in
    let few : length (take i occasion.obligations) ≡ i = length-take-le i occasion.obligations (omega arith) in
    let step = response_from occasion.names occasion.version o (i + 1) 1 G o.response in
    let counted = work_obliged w occasion o (i + 1) G o.response in
    let none = count-none step in
    let one = responses-more w occasion.names occasion.version (i + 1) G o [] in
    let alone : work_responded_by w occasion start (take i occasion.obligations) + work_responses_from w occasion.names occasion.version (i + 1) G (o ∷ [])
    ≡ work_responded_by w occasion start (take i occasion.obligations) + counted = omega (arith, none, one) in
    rw (take-item occasion.obligations i o is)
    (responses-count w occasion.names occasion.version (take i occasion.obligations) (o ∷ []) 1 (i + 1) start (omega (arith, few))
    ∙ rw made alone)

pub response-counted : (w : Work) (occasion past : Occasion) (i : ℕ) (start G : Graph) (o : Obligation) (old now next : ℕ) → past ≡ occasion →
    slice_get occasion.obligations i ≡ Some o →
    responded_by occasion start (take i occasion.obligations) ≡ Ok G →
    capped now ≡ capped (old + work_responded_by w occasion start (take i occasion.obligations)) →
    capped next ≡ capped (now + work_obliged w past o (i + 1) G o.response) →
    capped next ≡ capped (old + work_responded_by w occasion start (take (i + 1) occasion.obligations))
response-counted w occasion past i start G o old now next same is made so adds =
    more old now next _ _ _ so (rw same at adds) (obligation-counted w occasion i start G o is made)
