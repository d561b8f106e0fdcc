-- Responses, an action and an obligation at a time.
use Rattle.std.proofs.Common.{◌≡◌, ℕ, ◌+◌, ◌-◌, ◌<◌, ◌≤◌, List, [], ◌∷◌, ◌++◌, length, take, drop, Option, None, Some, option_map, slice_get, Result, Ok, Err, refl, sym, ◌∙◌, ap, subst, inl, inr, arith}
use Rattle.std.proofs.lemmas.Option.{slice_get_within, same_Some}
use Rattle.std.proofs.lemmas.List.{take-append-drop, length-take-le}
use Rattle.pm_model.proofs.Walks.{drop-item}
use Rattle.pm_model.specs.Results.{and_then}
use Rattle.pm_model.specs.State.{Graph}
use Rattle.pm_model.specs.Responses.{Stopped, acted, or_stopped, response_from, responses_from}
use Rattle.pm_model.specs.declared.events.EventNames.{EventNames}
use Rattle.pm_model.specs.declared.actions.Action.{Action}
use Rattle.pm_model.specs.declared.obligations.Obligation.{Obligation}
use Rattle.pm_model.specs.declared.obligations.Place.{Place}
use Rattle.pm_model.specs.declared.replies.Refusal.{Refusal}
use Rattle.pm_runner.specs.Turns.{Occasion, responded, responded_by, obliged, standing, acted_at, acted_or_stopped, IsTurn, IsDue, IsPartOf, IsPartway}
use Rattle.pm_runner.specs.Outcomes.{IsLeft, IsStop, MayBeDone}
use Rattle.pm_runner.specs.declared.errors.ActError.{ActError}
use Rattle.pm_runner.specs.declared.errors.ActError.TheVariants as act
use Rattle.pm_runner.specs.declared.errors.RunError.{RunError}
use Rattle.pm_runner.specs.declared.errors.RunError.TheVariants as run
use Rattle.pm_runner.proofs.Places.{take-item, item-there}

-- ---- some, and then the others

-- what goes on in two parts, behind a step
after : (last whole part : Graph → Result Graph Stopped) → ((G : Graph) → whole G ≡ and_then (part G) last) →
    (step : Result Graph Stopped) → and_then step whole ≡ and_then (and_then step part) last
after last whole part split (Ok G) = split G
after last whole part split (Err e) = refl

response-append : (names : EventNames) (version : ℕ) (o : Obligation) (place : ℕ) (xs ys : List Action) (number n : ℕ) (G : Graph) →
    n ≡ number + length xs →
    response_from names version o place number G (xs ++ ys)
    ≡ and_then (response_from names version o place number G xs) (λ between. response_from names version o place n between ys)
response-append names version o place [] ys number n G e = let same : n ≡ number = omega arith in rw same
response-append names version o place (x ∷ xs) ys number n G e =
    after (λ between. response_from names version o place n between ys) _ _
    (λ next. response-append names version o place xs ys (number + 1) n next (omega arith))
    (or_stopped names version o number (acted names version G o.author (record { obligation = place; action = number }) x))

responses-append : (names : EventNames) (version : ℕ) (xs ys : List Obligation) (place n : ℕ) (G : Graph) →
    n ≡ place + length xs →
    responses_from names version place G (xs ++ ys)
    ≡ and_then (responses_from names version place G xs) (λ between. responses_from names version n between ys)
responses-append names version [] ys place n G e = let same : n ≡ place = omega arith in rw same
responses-append names version (x ∷ xs) ys place n G e =
    after (λ between. responses_from names version n between ys) _ _
    (λ next. responses-append names version xs ys (place + 1) n next (omega arith))
    (response_from names version x place 1 G x.response)

split-at : {X : Type 0} (xs : List X) (i : ℕ) (x : X) → slice_get xs i ≡ Some x → xs ≡ take i xs ++ x ∷ drop (i + 1) xs
split-at xs i x is = sym (take-append-drop i xs) ∙ ap (λ rest. take i xs ++ rest) (drop-item xs i x is)

-- ---- one action

abbrev pub place_of : ℕ → ℕ → Place
place_of index i = record { obligation = index + 1; action = i + 1 }

pub standing-is : (obligations : List Obligation) (index i : ℕ) (o : Obligation) (a : Action) →
    slice_get obligations index ≡ Some o → slice_get o.response i ≡ Some a →
    standing obligations (place_of index i) ≡ Some (o, a)
standing-is obligations index i o a is asked =
    let first : index + 1 - 1 ≡ index = omega arith in
    let second : i + 1 - 1 ≡ i = omega arith in
    rw (first, second, is, asked)

-- the action behind those that have made the graph, and then the rest
obliged-next : (occasion : Occasion) (o : Obligation) (index i : ℕ) (start G : Graph) (a : Action) (rest : List Action) →
    slice_get occasion.obligations index ≡ Some o → slice_get o.response i ≡ Some a →
    obliged occasion o (index + 1) start (take i o.response) ≡ Ok G →
    obliged occasion o (index + 1) start (take i o.response ++ a ∷ rest)
    ≡ and_then (acted_or_stopped occasion G (place_of index i) o)
    (λ next. response_from occasion.names occasion.version o (index + 1) (i + 1 + 1) next rest)
obliged-next occasion o index i start G a rest is asked made =
    let few : length (take i o.response) ≡ i = length-take-le i o.response (below-le o.response i a asked) in
    response-append occasion.names occasion.version o (index + 1) (take i o.response) (a ∷ rest) 1 (i + 1) start (omega arith)
    ∙ rw (made, standing-is occasion.obligations index i o a is asked) refl
  where
    below-le : {X : Type 0} (xs : List X) (i : ℕ) (x : X) → slice_get xs i ≡ Some x → i ≤ length xs
    below-le xs i x is = let below : i < length xs = slice_get_within xs i x is in omega arith

pub act-done : (occasion : Occasion) (o : Obligation) (index i : ℕ) (start G next : Graph) → i < length o.response →
    slice_get occasion.obligations index ≡ Some o →
    obliged occasion o (index + 1) start (take i o.response) ≡ Ok G →
    acted_or_stopped occasion G (place_of index i) o ≡ Ok next →
    obliged occasion o (index + 1) start (take (i + 1) o.response) ≡ Ok next
act-done occasion o index i start G next below is made acted =
    let there = item-there o.response i below in
    rw (take-item o.response i there.0 there.1)
    (obliged-next occasion o index i start G there.0 [] is there.1 made ∙ rw acted refl)

pub act-stops : (occasion : Occasion) (o : Obligation) (index i : ℕ) (start G : Graph) (stopped : Stopped) → i < length o.response →
    slice_get occasion.obligations index ≡ Some o →
    obliged occasion o (index + 1) start (take i o.response) ≡ Ok G →
    acted_or_stopped occasion G (place_of index i) o ≡ Err stopped →
    obliged occasion o (index + 1) start o.response ≡ Err stopped
act-stops occasion o index i start G stopped below is made acted =
    let there = item-there o.response i below in
    ap (obliged occasion o (index + 1) start) (split-at o.response i there.0 there.1)
    ∙ obliged-next occasion o index i start G there.0 (drop (i + 1) o.response) is there.1 made ∙ rw acted refl

pub act-turn : (occasion : Occasion) (o : Obligation) (index i : ℕ) (start G : Graph) → i < length o.response →
    IsDue occasion start index o →
    obliged occasion o (index + 1) start (take i o.response) ≡ Ok G →
    IsTurn occasion G (place_of index i)
act-turn occasion o index i start G below due made =
    let there = item-there o.response i below in
    let first : index + 1 - 1 ≡ index = omega arith in
    let second : i + 1 - 1 ≡ i = omega arith in
    record {
      obligation = o;
      action = there.0;
      from_one = (omega arith, omega arith);
      stands = standing-is occasion.obligations index i o there.0 due.stands there.1;
      start = due.start;
      made = rw (first, second, due.made) made;
    }

-- with other actions behind it, an obligation's response does the same
stopped-same : (names : EventNames) (version : ℕ) (o : Obligation) (others : List Action) (number : ℕ) (whole part : Graph → Result Graph Stopped) →
    ((G : Graph) → whole G ≡ part G) → (step : Result Graph Refusal) →
    and_then (or_stopped names version (record o { response = others }) number step) whole ≡ and_then (or_stopped names version o number step) part
stopped-same names version o others number whole part same (Ok G) = same G
stopped-same names version o others number whole part same (Err why) = refl

response-same : (names : EventNames) (version : ℕ) (o : Obligation) (others : List Action) (place number : ℕ) (G : Graph) (actions : List Action) →
    response_from names version (record o { response = others }) place number G actions ≡ response_from names version o place number G actions
response-same names version o others place number G [] = refl
response-same names version o others place number G (a ∷ actions) =
    stopped-same names version o others number _ _ (λ next. response-same names version o others place (number + 1) next actions)
    (acted names version G o.author (record { obligation = place; action = number }) a)

and_then-itself : (r : Result Graph Stopped) → and_then r (λ G. Ok G) ≡ r
and_then-itself (Ok G) = refl
and_then-itself (Err e) = refl

and_then-same : (r : Result Graph Stopped) (f g : Graph → Result Graph Stopped) → ((G : Graph) → f G ≡ g G) → and_then r f ≡ and_then r g
and_then-same (Ok G) f g same = same G
and_then-same (Err e) f g same = refl

-- the obligations before, and this one with some of its actions
begun : (occasion : Occasion) (xs : List Obligation) (o : Obligation) (actions : List Action) (place : ℕ) (start : Graph) → place ≡ length xs + 1 →
    responded_by occasion start (xs ++ record o { response = actions } ∷ [])
    ≡ and_then (responded_by occasion start xs) (λ between. obliged occasion o place between actions)
begun occasion xs o actions place start e =
    responses-append occasion.names occasion.version xs (record o { response = actions } ∷ []) 1 place start (omega arith)
    ∙ and_then-same (responded_by occasion start xs) _ _
    (λ between. and_then-itself (response_from occasion.names occasion.version (record o { response = actions }) place 1 between actions)
    ∙ response-same occasion.names occasion.version o actions place 1 between actions)

-- the obligation and the action that stand at a place
pub standing-parts : (obligations : List Obligation) (place : Place) (o : Obligation) (a : Action) → standing obligations place ≡ Some (o, a) →
    (slice_get obligations (place.obligation - 1) ≡ Some o) × (slice_get o.response (place.action - 1) ≡ Some a)
standing-parts obligations place o a stands = of (slice_get obligations (place.obligation - 1)) refl where
  Parts : Type 0
  Parts = (slice_get obligations (place.obligation - 1) ≡ Some o) × (slice_get o.response (place.action - 1) ≡ Some a)

  found : (p : Obligation) (b : Option Action) → slice_get obligations (place.obligation - 1) ≡ Some p →
      slice_get p.response (place.action - 1) ≡ b → option_map {U = Obligation × Action} (λ a. (p, a)) b ≡ Some (o, a) → Parts
  found p None is asked h = absurd (cc)
  found p (Some b) is asked h =
      let pair : (p, b) ≡ (o, a) = same_Some _ _ h in
      let one : p ≡ o = ap (λ (x : Obligation × Action). x.0) pair in
      let two : b ≡ a = ap (λ (x : Obligation × Action). x.1) pair in
      (is ∙ ap Some one, rw one at asked ∙ ap Some two)

  of : (p : Option Obligation) → slice_get obligations (place.obligation - 1) ≡ p → Parts
  of None is = absurd (let none : None ≡ Some (o, a) = rw is at stands in cc)
  of (Some p) is = found p (slice_get p.response (place.action - 1)) is refl (rw is at stands)

-- a graph and the one behind it, as what some responses make of one graph
pub record AreMade (occasion : Occasion) (G H : Graph) : Type 0 where
  pub start : Graph
  pub some : List Obligation
  pub more : List Obligation
  pub before : responded_by occasion start some ≡ Ok G
  pub behind : responded_by occasion start more ≡ Ok H

-- where an action is done in its turn
pub turn-made : (occasion : Occasion) (G H : Graph) (place : Place) → IsTurn occasion G place → acted_at occasion G place ≡ Ok H →
    AreMade occasion G H
turn-made occasion G H place turn done = of (responded_by occasion turn.start xs) refl where
  o : Obligation
  o = turn.obligation

  xs : List Obligation
  xs = take (place.obligation - 1) occasion.obligations

  parts : (slice_get occasion.obligations (place.obligation - 1) ≡ Some o) × (slice_get o.response (place.action - 1) ≡ Some turn.action)
  parts = standing-parts occasion.obligations place o turn.action turn.stands

  counted : place.obligation ≡ length xs + 1
  counted = let below : place.obligation - 1 < length occasion.obligations = slice_get_within occasion.obligations (place.obligation - 1) o parts.0 in
      let from = turn.from_one.0 in
      omega (arith, from, length-take-le (place.obligation - 1) occasion.obligations (omega arith))

  of : (r : Result Graph Stopped) → responded_by occasion turn.start xs ≡ r → AreMade occasion G H
  of (Err e) is = absurd (let no : Err e ≡ Ok G = rw is at turn.made in cc)
  of (Ok between) is =
      let first = turn.from_one.0 in
      let second = turn.from_one.1 in
      let index : place.obligation - 1 + 1 ≡ place.obligation = omega (arith, first) in
      let number : place.action - 1 + 1 ≡ place.action = omega (arith, second) in
      let at : place_of (place.obligation - 1) (place.action - 1) ≡ place = rw (index, number) refl in
      let below : place.action - 1 < length o.response = slice_get_within o.response (place.action - 1) turn.action parts.1 in
      let made : obliged occasion o place.obligation between (take (place.action - 1) o.response) ≡ Ok G = rw is at turn.made in
      let next : obliged occasion o (place.obligation - 1 + 1) between (take (place.action - 1 + 1) o.response) ≡ Ok H =
      act-done occasion o (place.obligation - 1) (place.action - 1) between G H below parts.0 (rw index made)
      (subst (λ (p : Place). acted_or_stopped occasion G p o ≡ Ok H) (sym at) (ap (or_stopped occasion.names occasion.version o place.action) done)) in
      record {
        start = turn.start;
        some = xs ++ record o { response = take (place.action - 1) o.response } ∷ [];
        more = xs ++ record o { response = take (place.action - 1 + 1) o.response } ∷ [];
        before = begun occasion xs o (take (place.action - 1) o.response) place.obligation turn.start counted ∙ turn.made;
        behind = begun occasion xs o (take (place.action - 1 + 1) o.response) place.obligation turn.start counted ∙ rw is (rw index at next);
      }

-- ---- one obligation

-- on the same occasion the same is made
obliged-same : (now occasion : Occasion) (o : Obligation) (place : ℕ) (G : Graph) → now ≡ occasion →
    obliged occasion o place G o.response ≡ obliged now o place G o.response
obliged-same now occasion o place G same = ap (λ (x : Occasion). obliged x o place G o.response) (sym same)

-- the response behind those that have made the graph, and then the rest
responded-next : (occasion : Occasion) (i : ℕ) (start G : Graph) (o : Obligation) (rest : List Obligation) →
    slice_get occasion.obligations i ≡ Some o →
    responded_by occasion start (take i occasion.obligations) ≡ Ok G →
    responded_by occasion start (take i occasion.obligations ++ o ∷ rest)
    ≡ and_then (obliged occasion o (i + 1) G o.response) (λ next. responses_from occasion.names occasion.version (i + 1 + 1) next rest)
responded-next occasion i start G o rest is made =
    let below : i < length occasion.obligations = slice_get_within occasion.obligations i o is in
    let few : length (take i occasion.obligations) ≡ i = length-take-le i occasion.obligations (omega arith) in
    responses-append occasion.names occasion.version (take i occasion.obligations) (o ∷ rest) 1 (i + 1) start (omega arith)
    ∙ rw made refl

pub response-done : (occasion now : Occasion) (i : ℕ) (start G next : Graph) (o : Obligation) →
    now ≡ occasion → slice_get occasion.obligations i ≡ Some o →
    responded_by occasion start (take i occasion.obligations) ≡ Ok G →
    obliged now o (i + 1) G o.response ≡ Ok next →
    responded_by occasion start (take (i + 1) occasion.obligations) ≡ Ok next
response-done occasion now i start G next o same is made done =
    let here = obliged-same now occasion o (i + 1) G same ∙ done in
    rw (take-item occasion.obligations i o is) (responded-next occasion i start G o [] is made ∙ rw here refl)

pub response-stops : (occasion now : Occasion) (i : ℕ) (start G : Graph) (o : Obligation) (stopped : Stopped) →
    now ≡ occasion → slice_get occasion.obligations i ≡ Some o →
    responded_by occasion start (take i occasion.obligations) ≡ Ok G →
    obliged now o (i + 1) G o.response ≡ Err stopped →
    responded occasion start ≡ Err stopped
response-stops occasion now i start G o stopped same is made stops =
    let here = obliged-same now occasion o (i + 1) G same ∙ stops in
    ap (responded_by occasion start) (split-at occasion.obligations i o is)
    ∙ responded-next occasion i start G o (drop (i + 1) occasion.obligations) is made ∙ rw here refl

-- ---- errors

-- where the stops of one result are those of another, an error tells them of both
pub stop-of : (inner outer : Result Graph Stopped) (e : RunError) → ((stopped : Stopped) → inner ≡ Err stopped → outer ≡ Err stopped) →
    IsStop inner e → IsStop outer e
stop-of inner outer (run.ResponseRefused obligation action why) stops told = stops _ told
stop-of inner outer run.Memory stops told = tt

-- ---- what is left after an error

-- after an action's
pub left-by : (names : EventNames) (version : ℕ) (o : Obligation) (number : ℕ) (G H : Graph) (acted : Result Graph Refusal) (e : ActError) →
    IsLeft G H acted e → MayBeDone G H (or_stopped names version o number acted)
left-by names version o number G H acted (act.Refused why) left = inl left
left-by names version o number G H acted act.Memory (inl as_before) = inl as_before
left-by names version o number G H acted act.Memory (inr done) = inr (ap (or_stopped names version o number) done)

-- the actions that have made the graph, and one more or not
pub part-left : (occasion : Occasion) (o : Obligation) (index i : ℕ) (start G H : Graph) → i < length o.response →
    slice_get occasion.obligations index ≡ Some o →
    obliged occasion o (index + 1) start (take i o.response) ≡ Ok G →
    MayBeDone G H (acted_or_stopped occasion G (place_of index i) o) → IsPartOf occasion o index start H
part-left occasion o index i start G H below is made (inl as_before) = record { count = i; made = made ∙ ap Ok (sym as_before) }
part-left occasion o index i start G H below is made (inr done) =
    record { count = i + 1; made = act-done occasion o index i start G H below is made done }

-- the responses that have made the graph, and some actions of the next one
pub run-left : (occasion now : Occasion) (i : ℕ) (start G H : Graph) (o : Obligation) → now ≡ occasion → slice_get occasion.obligations i ≡ Some o →
    responded_by occasion start (take i occasion.obligations) ≡ Ok G → IsPartOf now o i G H → IsPartway occasion start H
run-left occasion now i start G H o same is made part =
    let first : i + 1 - 1 ≡ i = omega arith in
    let second : part.count + 1 - 1 ≡ part.count = omega arith in
    record {
      obligation = o;
      place = place_of i part.count;
      from_one = (omega arith, omega arith);
      stands = rw first is;
      made = rw (first, second, made, ← same) part.made;
    }
