-- How many rights are judged: for one change, by the lists of kept reviews. How much work a history takes; and counts up to the
-- highest.
use Rattle.std.proofs.Common.{◌≡◌, ◌<◌, ◌+◌, ◌^◌, ℕ, Bool, true, false, ◌&&◌, List, [], ◌∷◌, ◌++◌, length, filter, Option, Some, None, is_some, Result, Ok, Err, refl, ◌∙◌, ap, codes, ◌==◌, arith}
use Rattle.std.specs.List.{list_any}
use Rattle.std.proofs.lemmas.List.Sums.{sum_by-append, sum_by-cons}
use Rattle.pm_model.specs.Answer.{after, answer}
use Rattle.pm_model.specs.Containment.{contained}
use Rattle.pm_model.specs.Effect.{effect}
use Rattle.pm_model.specs.Events.{obliging, responders}
use Rattle.pm_model.specs.History.{IsReplayed, Machine, replay, replay_from, state_of}
use Rattle.pm_model.specs.KeptReviews.{KeptReview, is_kept_of}
use Rattle.pm_model.specs.Responses.{acted, response_from}
use Rattle.pm_model.specs.Reviews.{numbers_in, users_in}
use Rattle.pm_model.specs.State.{Graph, State, opening}
use Rattle.pm_model.specs.declared.actions.Action.{Action}
use Rattle.pm_model.specs.declared.elements.Kind.TheVariants.{Object, Pc}
use Rattle.pm_model.specs.declared.events.Event.{Event}
use Rattle.pm_model.specs.declared.events.EventNames.{EventNames}
use Rattle.pm_model.specs.declared.obligations.Obligation.{Obligation}
use Rattle.pm_model.specs.declared.replies.Refusal.{Refusal}
use Rattle.pm_model.specs.declared.requests.Change.{Change}
use Rattle.pm_model.specs.declared.requests.Change.TheVariants.{Create, Delete, Dissociate, Assign, Keep, DropReview, Prohibit}
use Rattle.pm_model.specs.declared.requests.Entry.{Entry}
use Rattle.pm_model.specs.declared.reviews.ReviewOf.{ReviewOf}
use Rattle.pm_model.specs.declared.reviews.ReviewOf.TheVariants.{Caps, Entries}
use Rattle.pm_affect.specs.Affected.{is_in, region_of}
use Rattle.pm_affect.specs.Changes.{Turn, changes_acted, changes_on, changes_responded, changes_response_from, changes_responses_from}
use Rattle.pm_affect.specs.Counting.{Work, capped, count_on, is_reviewed, judged_for, judged_pairs, rows_for, rows_of, work_acted, work_by, work_entered, work_for, work_from, work_in, work_over, work_responded, work_response_from, work_responses_from}
use Rattle.pm_affect.specs.Example.{graph, hold}
use Rattle.pm_affect.specs.Judged.{in_scope, judged, pairs_of}
use Rattle.pm_affect.specs.Lists.{Listed, Lists, is_among, list_in, pairs_of_some, subjects}
use Rattle.pm_affect.proofs.Untouched.{AreUntouched}

-- ---- the example, by computation

pub counted : (judged_for graph (Dissociate 4 5) ≡ 3) × (judged_for graph (Dissociate 4 6) ≡ 0) × (judged_for graph (Assign 6 3) ≡ 3)
    × (judged_for graph (Keep (Caps 8)) ≡ 0) × (judged_for graph (DropReview 1) ≡ 0) × (judged_for graph (Prohibit hold) ≡ 0)
unfolding contained judged_for
counted = (refl, refl, refl, refl, refl, refl)

pub rows_counted : (rows_for graph (Create 9 Pc (codes "new") None) ≡ 1) × (rows_for graph (Create 9 Object (codes "new") (Some 5)) ≡ 2)
    × (rows_for graph (Delete 8) ≡ 0) × (rows_for graph (Assign 6 3) ≡ 1) × (rows_for graph (Assign 5 0) ≡ 2)
    × (rows_for graph (Assign 5 3) ≡ 0) × (rows_for graph (Dissociate 4 5) ≡ 0)
unfolding contained rows_for
rows_counted = (refl, refl, refl, refl, refl, refl, refl)

-- ---- counts up to the highest

pub capped-small : (n : ℕ) → n < 2 ^ 64 → capped n ≡ n
capped-small n h = omega arith

-- counts that are the same up to the highest are so with more
pub capped-more : (a b n : ℕ) → capped a ≡ capped b → capped (a + n) ≡ capped (b + n)
capped-more a b n same = omega (arith, same)

pub capped-add : (a n : ℕ) → capped (capped a + n) ≡ capped (a + n)
capped-add a n = omega arith

-- where nothing more is counted
pub count-none : {A E : Type 0} (r : Result A E) → count_on r (λ a. 0) ≡ 0
count-none (Ok a) = refl
count-none (Err why) = refl

module _ (w : Work) where
  -- ---- a history

  work-more : (S : State) (entries : List Entry) (entry : Entry) →
      work_from w S (entries ++ entry ∷ []) ≡ work_from w S entries + work_by w (replay_from S entries) entry.request
  work-more S [] entry = omega arith
  work-more S (e ∷ entries) entry = let rest = work-more (after S (answer S e.request)) entries entry in omega (arith, rest)

  pub work_grown : (entries : List Entry) (entry : Entry) →
      work_in w (entries ++ entry ∷ []) ≡ work_in w entries + work_by w (replay entries) entry.request
  work_grown entries entry = work-more opening entries entry

  -- by a machine that is the replay of its history
  pub work-on : (M : Machine) (entry : Entry) → IsReplayed M →
      work_in w (M.history ++ entry ∷ []) ≡ work_in w M.history + work_by w (state_of M) entry.request
  work-on M entry r =
      work_grown M.history entry ∙ ap (λ (S : State). work_in w M.history + work_by w S entry.request) r.content

  pub grown-none : (M : Machine) (entry : Entry) → IsReplayed M → work_by w (state_of M) entry.request ≡ 0 →
      work_in w (M.history ++ entry ∷ []) ≡ work_in w M.history
  grown-none M entry r none = let on = work-on M entry r in omega (arith, on, none)

  -- ---- sums over changes

  -- of what comes
  pub over-on : {A E : Type 0} (r : Result A E) (changes : A → List Turn) →
      work_over w (changes_on r changes) ≡ count_on r (λ a. work_over w (changes a))
  over-on (Ok a) changes = refl
  over-on (Err why) changes = refl

  -- and of what comes of that
  pub over-both : {A B E F : Type 0} (r : Result A E) (s : A → Result B F) (changes : A → B → List Turn) →
      work_over w (changes_on r (λ a. changes_on (s a) (changes a))) ≡ count_on r (λ a. count_on (s a) (λ b. work_over w (changes a b)))
  over-both (Ok a) s changes = over-on (s a) (changes a)
  over-both (Err why) s changes = refl

  -- of some and then of what comes
  over-more : {A E : Type 0} (turns : List Turn) (r : Result A E) (changes : A → List Turn) →
      work_over w (turns ++ changes_on r changes) ≡ work_over w turns + count_on r (λ a. work_over w (changes a))
  over-more turns r changes =
      sum_by-append (λ (t : Turn). work_for w t.0 t.1) turns (changes_on r changes) ∙ ap (λ n. work_over w turns + n) (over-on r changes)

  module _ (names : EventNames) (version : ℕ) where
    pub response-more : (o : Obligation) (place number : ℕ) (G : Graph) (action : Action) (actions : List Action) →
        work_response_from w names version o place number G (action ∷ actions)
        ≡ work_acted w names version G o.author (record { obligation = place; action = number }) action
        + count_on (acted names version G o.author (record { obligation = place; action = number }) action) (λ next.
        work_response_from w names version o place (number + 1) next actions)
    response-more o place number G action actions =
        over-more (changes_acted names version G o.author (record { obligation = place; action = number }) action)
        (acted names version G o.author (record { obligation = place; action = number }) action)
        (λ next. changes_response_from names version o place (number + 1) next actions)

    pub responses-more : (place : ℕ) (G : Graph) (o : Obligation) (obligations : List Obligation) →
        work_responses_from w names version place G (o ∷ obligations)
        ≡ work_response_from w names version o place 1 G o.response
        + count_on (response_from names version o place 1 G o.response) (λ next. work_responses_from w names version (place + 1) next obligations)
    responses-more place G o obligations =
        over-more (changes_response_from names version o place 1 G o.response) (response_from names version o place 1 G o.response)
        (λ next. changes_responses_from names version (place + 1) next obligations)

  -- for a change, and for the responses to its event
  pub entered-more : (S : State) (e : Option Event) (c : Change) →
      work_entered w S e c
      ≡ work_for w S.graph c + count_on (effect S.graph c) (λ G. work_responded w S e (responders S.graph (obliging S.graph c) e) G)
  entered-more S e c =
      sum_by-cons (λ (t : Turn). work_for w t.0 t.1) (S.graph, c)
      (changes_on (effect S.graph c) (λ G. changes_responded S e (responders S.graph (obliging S.graph c) e) G))
      ∙ ap (λ n. work_for w S.graph c + n) (over-on (effect S.graph c) (λ G. changes_responded S e (responders S.graph (obliging S.graph c) e) G))

  -- an entry to which nothing responds
  pub work_alone : (S : State) (c : Change) → work_entered w S None c ≡ work_for w S.graph c
  work_alone S c = let none = count-none (effect S.graph c) in let all = entered-more S None c in omega (arith, none, all)

-- ---- one change

pub judged-made : (G H : Graph) (c : Change) → effect G c ≡ Ok H → judged_for G c ≡ length (judged_pairs G c H)
unfolding judged_for
judged-made G H c made = rw made refl

judged-refused : (G : Graph) (c : Change) (why : Refusal) → effect G c ≡ Err why → judged_for G c ≡ 0
unfolding judged_for
judged-refused G c why is = rw is refl

pub rows-made : (G H : Graph) (c : Change) → effect G c ≡ Ok H → rows_for G c ≡ rows_of G c
unfolding rows_for
rows-made G H c made = rw made refl

-- a change for which nothing is judged where it is made
pub judged-never : (G : Graph) (c : Change) → ((H : Graph) → effect G c ≡ Ok H → judged_for G c ≡ 0) → judged_for G c ≡ 0
judged-never G c none = by (effect G c) refl where
  by : (r : Result Graph Refusal) → effect G c ≡ r → judged_for G c ≡ 0
  by (Ok H) is = none H is
  by (Err why) is = judged-refused G c why is

module _ {X : Type 0} (p : X → Bool) where
  filter-agree : (q : X → Bool) → ((x : X) → p x ≡ q x) → (xs : List X) → filter p xs ≡ filter q xs
  filter-agree q same [] = refl
  filter-agree q same (x ∷ xs) = rw (same x, filter-agree q same xs) refl

  filter-none : ((x : X) → p x ≡ false) → (xs : List X) → filter p xs ≡ []
  filter-none none [] = refl
  filter-none none (x ∷ xs) = rw (none x) (filter-none none xs)

-- no pair is judged where none lies in the region and in a scope
pub judged-nothing : (G H : Graph) (c : Change) → effect G c ≡ Ok H →
    ((u e : ℕ) → (is_in (contained H.assigned) (region_of G c) u e && is_reviewed H.kept u e) ≡ false) → judged_for G c ≡ 0
judged-nothing G H c made none =
    judged-made G H c made
    ∙ ap length (filter-none (λ (p : ℕ × ℕ). is_in (contained H.assigned) (region_of G c) p.0 p.1 && is_reviewed H.kept p.0 p.1)
    (λ p. none p.0 p.1) (pairs_of (users_in H.elements) (numbers_in H.elements)))

-- a list is found exactly where one is of the number
found-among : (n : ℕ) (ks : List Listed) → is_some (pairs_of_some n ks) ≡ is_among (subjects ks) n
found-among n [] = refl
found-among n (k ∷ ks) = go (k.subject == n) refl (found-among n ks) where
  go : (b : Bool) → (k.subject == n) ≡ b → is_some (pairs_of_some n ks) ≡ is_among (subjects ks) n →
      is_some (pairs_of_some n (k ∷ ks)) ≡ is_among (subjects (k ∷ ks)) n
  go true is rest = rw is refl
  go false is rest = rw is rest

-- lists of the kept reviews, and no others
abbrev pub AreOf : Lists → List KeptReview → Type 0
AreOf L ks = (of : ReviewOf ℕ) → is_some (list_in L of) ≡ list_any (is_kept_of of) ks

scope-listed : (L : Lists) (ks : List KeptReview) → AreOf L ks → (u e : ℕ) → is_reviewed ks u e ≡ in_scope L u e
scope-listed L ks are u e = rw (← are (Caps u), ← are (Entries e), found-among u L.caps, found-among e L.entries) refl

-- by such lists
pub judged_listed : (G H : Graph) (c : Change) (L : Lists) → effect G c ≡ Ok H → AreOf L H.kept →
    judged_for G c ≡ length (judged (is_in (contained H.assigned) (region_of G c)) (in_scope L) (users_in H.elements) (numbers_in H.elements))
judged_listed G H c L made are =
    let inside : ℕ → ℕ → Bool = is_in (contained H.assigned) (region_of G c) in
    judged-made G H c made
    ∙ ap length (filter-agree (λ (p : ℕ × ℕ). inside p.0 p.1 && is_reviewed H.kept p.0 p.1) (λ (p : ℕ × ℕ). inside p.0 p.1 && in_scope L p.0 p.1)
    (λ p. ap (λ b. inside p.0 p.1 && b) (scope-listed L H.kept are p.0 p.1)) (pairs_of (users_in H.elements) (numbers_in H.elements)))

-- and by such that the region doesn't touch
pub judged-untouched : (G H : Graph) (c : Change) (L : Lists) → effect G c ≡ Ok H → AreOf L H.kept →
    AreUntouched (contained H.assigned) (region_of G c) L → judged_for G c ≡ 0
judged-untouched G H c L made are far = judged-nothing G H c made (λ u e. apart u e (in_scope L u e) refl) where
  apart : (u e : ℕ) (b : Bool) → in_scope L u e ≡ b → (is_in (contained H.assigned) (region_of G c) u e && is_reviewed H.kept u e) ≡ false
  apart u e true is = rw (far u e is) refl
  apart u e false is = rw (scope-listed L H.kept are u e, is) (and_right (is_in (contained H.assigned) (region_of G c) u e)) where
    and_right : (a : Bool) → (a && false) ≡ false
    and_right true = refl
    and_right false = refl
