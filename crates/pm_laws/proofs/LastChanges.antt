-- What entries tell of kept reviews: which changes there are between two lists, and that the last ones are told.
use Rattle.std.proofs.Common.{◌≡◌, ◌↔◌, ◌≤◌, ◌<◌, ◌+◌, ℕ, zero, suc, max, List, [], ◌∷◌, ◌++◌, length, filter, Option, Some, None, option_map, Result, Ok, Err, Contains, bytes_eq, not, refl, sym, ◌∙◌, ap, subst, arith, inl, inr}
use Rattle.std.proofs.Math.Nat.{eq-or-lt_of_le}
use Rattle.std.proofs.lemmas.Bool.{cases_lt, cases_eq, cond_both, eq-eqb, ne_eqb}
use Rattle.std.proofs.lemmas.List.{append-nil}
use Rattle.std.proofs.lemmas.List.Elements.{Contains-append_cases, Contains-append_left, Contains-append_right}
use Rattle.std.proofs.lemmas.Option.{same_Some}
use Rattle.std.proofs.lemmas.Slice.Eq.{bytes_eq-Decides}
use Rattle.pm_model.specs.LastChanges.{differs, rights_listed, above, changes_at, changes_below, changes_between, changes_in, with_last, settled_review, with_changes}
use Rattle.pm_model.specs.State.{State, Graph, name_numbered}
use Rattle.pm_model.specs.Reviews.{list_of, reviewed}
use Rattle.pm_model.specs.Effect.{refusal, changed, effect}
use Rattle.pm_model.specs.Events.{obliging, responders}
use Rattle.pm_model.specs.KeptReviews.{KeptReview, is_kept_as, is_same, kept_at, new_review, unkept, with_review, without_review}
use Rattle.pm_model.specs.Responses.{Stopped}
use Rattle.pm_model.specs.Answer.{Answer, told, responded, settled, made, granted_with, answer}
use Rattle.pm_model.specs.Formed.{IsWellFormed}
use Rattle.pm_model.specs.declared.events.Event.{Event}
use Rattle.pm_model.specs.declared.obligations.Obligation.{Obligation}
use Rattle.pm_model.specs.declared.requests.Change.{Change}
use Rattle.pm_model.specs.declared.requests.Change.TheVariants.{Keep, DropReview}
use Rattle.pm_model.specs.declared.requests.Request.{Request}
use Rattle.pm_model.specs.declared.replies.Refusal.{Refusal}
use Rattle.pm_model.specs.declared.replies.Refusal.TheVariants.{Full}
use Rattle.pm_model.specs.declared.replies.Table.TheVariants.{History}
use Rattle.pm_model.specs.declared.replies.Reply.{Reply}
use Rattle.pm_model.specs.declared.replies.Reply.TheVariants.{Done, Granted, Ahead, Refused, ResponseRefused}
use Rattle.pm_model.specs.declared.replies.Shown.TheVariants.{Nothing}
use Rattle.pm_model.specs.declared.reviews.Changed.{Changed}
use Rattle.pm_model.specs.declared.reviews.Pair.{Pair}
use Rattle.pm_model.specs.declared.reviews.ReviewOf.{ReviewOf}
use Rattle.pm_model.specs.declared.reviews.ReviewOf.TheVariants.{Caps, Entries}
use Rattle.pm_laws.specs.Meaning.{AreAlike, TellLast}
use Rattle.pm_laws.proofs.Items.{contains-none, filter-contains}
use Rattle.pm_laws.proofs.Checks.{unless-ok}
use Rattle.pm_laws.proofs.KeptReviews.{is-same, kept-is, kept-found, others-found, more-found, dropped-none, dropped-other, settled-same, map-found, map-stays}
use Rattle.pm_laws.proofs.Responding.{AreLeft, responded-left}
use Rattle.pm_laws.proofs.Bodies.{answer-is, body-is}

-- ---- what is told of each number

-- from above its numbers on a list has nothing
listed-none : (list : List Pair) (n : ℕ) → above list ≤ n → rights_listed list n ≡ 0
listed-none [] n past = refl
listed-none (p ∷ ps) n past =
    let other : p.element ≡ n → ⊥ = λ same. omega (arith, past, same) in
    rw (ne_eqb p.element n other) (listed-none ps n (omega (arith, past)))

module _ (was is : ℕ → List ℕ) (old new : List Pair) where
  abbrev told_of : ℕ → List Changed
  told_of n = changes_at was is old new n

  abbrev told_below : ℕ → List Changed
  told_below n = changes_below was is old new n

  abbrev top : ℕ
  top = max (above old) (above new)

  nothing-past : (n : ℕ) → top ≤ n → told_of n ≡ []
  nothing-past n past =
      rw (listed-none old n (omega (arith, past)), listed-none new n (omega (arith, past)))
      (cond_both (bytes_eq (was n) (is n)) _ _ (λ (l : List Changed). filter differs l ≡ []) (λ same. refl) (λ other. refl))

  -- so nothing is told from there on
  pub changes-past : (n : ℕ) → top ≤ n → told_below n ≡ changes_between was is old new
  unfolding changes_below
  changes-past zero past = let none : top ≡ 0 = omega (arith, past) in ap told_below (sym none)
  changes-past (suc n) past = elim (eq-or-lt_of_le past) [
    | inl same ↦ ap told_below (sym same)
    | inr less ↦
        let more : top ≤ n = omega (arith, less) in
        ap (λ (l : List Changed). told_below n ++ l) (nothing-past n more) ∙ append-nil (told_below n) ∙ changes-past n more
  ]

  -- what is told below a number is told of one below it
  told-below : (m : ℕ) (c : Changed) → Contains (told_below m) c → (n : ℕ) × Contains (told_of n) c
  unfolding changes_below
  told-below zero c h = contains-none c h
  told-below (suc m) c h = elim (Contains-append_cases (told_below m) (told_of m) c h) [
    | inl before ↦ told-below m c before
    | inr here ↦ (m, here)
  ]

  below-told : (m n : ℕ) (c : Changed) → n < m → Contains (told_of n) c → Contains (told_below m) c
  unfolding changes_below
  below-told zero n c less h = absurd (omega (arith, less))
  below-told (suc m) n c less h = elim (eq-or-lt_of_le {n = n} {m = m} (omega (arith, less))) [
    | inl same ↦ Contains-append_right (told_below m) (told_of m) c (subst (λ k. Contains (told_of k) c) same h)
    | inr before ↦ Contains-append_left (told_below m) (told_of m) c (below-told m n c before h)
  ]

  -- each change that is told is that of some number, and none is left out
  pub changes_told : (c : Changed) → Contains (changes_between was is old new) c ↔ ((n : ℕ) × Contains (told_of n) c)
  changes_told c = (told-below top c, from) where
    from : (n : ℕ) × Contains (told_of n) c → Contains (changes_between was is old new) c
    from p = elim (cases_lt p.0 top) [
      | inl less ↦ below-told top p.0 c less p.1
      | inr past ↦ contains-none c (rw (nothing-past p.0 past) at p.1)
    ]

-- between a list and itself there is none
module _ (was : ℕ → List ℕ) (old : List Pair) where
  none-at : (n : ℕ) → changes_at was was old old n ≡ []
  none-at n = let rights = rights_listed old n in
      rw ((bytes_eq-Decides (was n) (was n)).1 refl, eq-eqb rights rights refl) refl

  none-below : (n : ℕ) → changes_below was was old old n ≡ []
  unfolding changes_below
  none-below zero = refl
  none-below (suc n) = rw (none-below n, none-at n) refl

-- nor between two graphs that reviews don't tell apart
module _ (G H : Graph) (version : ℕ) (alike : AreAlike G H) where
  alike-list : (of : ReviewOf ℕ) → list_of H of ≡ list_of G of
  alike-list (Caps u) = rw (alike.elements, alike.assigned, alike.associations, alike.prohibitions) refl
  alike-list (Entries e) = rw (alike.elements, alike.assigned, alike.associations, alike.prohibitions) refl

  none-in : (of : ReviewOf ℕ) → changes_in G H of ≡ []
  none-in of = rw (alike-list of, alike.elements) (none-below (name_numbered G.elements) (list_of G of) _)

  alike-stays : (k : KeptReview) → settled_review G H version k ≡ k
  alike-stays k = by (kept_at G.kept k.number) refl where
    by : (o : Option KeptReview) → kept_at G.kept k.number ≡ o → settled_review G H version k ≡ k
    by None is = rw is refl
    by (Some before) is =
        rw (is, none-in k.of) (cond_both (is_same before.of k.of) k k (λ (j : KeptReview). j ≡ k) (λ of. refl) (λ of. refl))

  pub with_changes_alike : with_changes G version H ≡ H
  with_changes_alike = ap (λ (ks : List KeptReview). record H { kept = ks }) (map-stays (settled_review G H version) alike-stays H.kept)

-- ---- which reviews stand behind a change

-- one that was kept is as it was, and one that wasn't has told nothing
record Stand (G H : Graph) : Type 0 where
  same : (n : ℕ) (k j : KeptReview) → kept_at G.kept n ≡ Some k → kept_at H.kept n ≡ Some j → j ≡ k
  fresh : (n : ℕ) (j : KeptReview) → kept_at G.kept n ≡ None → kept_at H.kept n ≡ Some j → (j.at ≡ 0) × (j.changed ≡ [])

one-found : (o : Option KeptReview) (k j : KeptReview) → o ≡ Some k → o ≡ Some j → j ≡ k
one-found o k j is so = same_Some j k (sym so ∙ is)

module _ (G : Graph) (f : IsWellFormed G) where
  stays-same : (c : Change) (n : ℕ) (k j : KeptReview) → kept_at G.kept n ≡ Some k → kept_at (changed G c).kept n ≡ Some j → j ≡ k
  stays-same (Keep of) n k j at there =
      one-found (kept_at (with_review (new_review (unkept G.kept) of) G.kept) n) k j (others-found G.elements G.kept of f.kept n k at) there
  stays-same (DropReview m) n k j at there = elim (cases_eq n m) [
    | inl same ↦ absurd (let none : kept_at (without_review m G.kept) n ≡ None = rw same (dropped-none m G.kept) in cc)
    | inr apart ↦ one-found (kept_at (without_review m G.kept) n) k j (dropped-other m n G.kept k apart at) there
  ]
  stays-same _ n k j at there = one-found (kept_at G.kept n) k j at there

  -- what stood was found
  stood : {A : Type 0} (n : ℕ) (j : KeptReview) → kept_at G.kept n ≡ None → Contains G.kept j → j.number ≡ n → A
  stood n j none c numbered =
      absurd (let found : kept_at G.kept n ≡ Some j = subst (λ m. kept_at G.kept m ≡ Some j) numbered (kept-found G.elements G.kept j f.kept c) in cc)

  starts-fresh : (c : Change) (n : ℕ) (j : KeptReview) → kept_at G.kept n ≡ None → kept_at (changed G c).kept n ≡ Some j →
      (j.at ≡ 0) × (j.changed ≡ [])
  starts-fresh (Keep of) n j none there =
      let list = with_review (new_review (unkept G.kept) of) G.kept in
      elim (more-found G.elements G.kept of f.kept n j there) [
        | inl new ↦ subst (λ (k : KeptReview). (k.at ≡ 0) × (k.changed ≡ [])) new (refl, refl)
        | inr old ↦ stood n j none old (kept-is list n j there).1
      ]
  starts-fresh (DropReview m) n j none there =
      let p = kept-is (without_review m G.kept) n j there in
      stood n j none (filter-contains (λ k. not (is_kept_as m k)) G.kept j p.0).0 p.1
  starts-fresh _ n j none there = absurd (cc)

  stand-made : (H : Graph) (c : Change) → effect G c ≡ Ok H → Stand G H
  stand-made H c is = subst (Stand G) (unless-ok (refusal G c) (changed G c) H is).1 (record { same = stays-same c; fresh = starts-fresh c })

stand-itself : (G : Graph) → Stand G G
stand-itself G = record { same = λ n k j at there. one-found (kept_at G.kept n) k j at there; fresh = λ n j none there. absurd (cc) }

stand-left : (G H K : Graph) → Stand G H → AreLeft H K → Stand G K
stand-left G H K h left = record {
  same = λ n k j at there. h.same n k j at (rw (left.3) at there);
  fresh = λ n j none there. h.fresh n j none (rw (left.3) at there);
}

-- ---- what is told of them

-- the kept reviews are in no list
list-same : (H : Graph) (ks : List KeptReview) (of : ReviewOf ℕ) → list_of (record H { kept = ks }) of ≡ list_of H of
list-same H ks (Caps u) = refl
list-same H ks (Entries e) = refl

module _ (S : State) (H : Graph) (h : Stand S.graph H) where
  abbrev version : ℕ
  version = S.version + 1

  abbrev next : State
  next = record { graph = with_changes S.graph version H; version = version }

  abbrev settles : KeptReview → KeptReview
  settles k = settled_review S.graph H version k

  -- each stood before it was told of
  settled-from : (n : ℕ) (j : KeptReview) → kept_at next.graph.kept n ≡ Some j →
      (i : KeptReview) × (kept_at H.kept n ≡ Some i) × (settles i ≡ j)
  settled-from n j there = by (kept_at H.kept n) refl where
    found : option_map settles (kept_at H.kept n) ≡ Some j
    found = sym (map-found settles (settled-same S.graph H version) H.kept n) ∙ there

    by : (o : Option KeptReview) → kept_at H.kept n ≡ o → (i : KeptReview) × (kept_at H.kept n ≡ Some i) × (settles i ≡ j)
    by (Some i) is = (i, is, same_Some (settles i) j (rw is at found))
    by None is = absurd (let none = rw is at found in cc)

  told-changes : (k : KeptReview) → kept_at S.graph.kept k.number ≡ Some k → settles k ≡ with_last version (changes_in S.graph next.graph k.of) k
  told-changes k at = rw (at, is-same k.of, list-same H next.graph.kept k.of) refl

  tell-last : TellLast S next
  tell-last = record { kept = kept; new = new } where
    kept : (n : ℕ) (k j : KeptReview) → kept_at S.graph.kept n ≡ Some k → kept_at next.graph.kept n ≡ Some j →
        j ≡ with_last version (changes_in S.graph next.graph k.of) k
    kept n k j at there =
        let from = settled-from n j there in
        let same : from.0 ≡ k = h.same n k from.0 at from.1 in
        let numbered : k.number ≡ n = (kept-is S.graph.kept n k at).1 in
        sym from.2 ∙ ap settles same ∙ told-changes k (subst (λ m. kept_at S.graph.kept m ≡ Some k) (sym numbered) at)

    new : (n : ℕ) (j : KeptReview) → kept_at S.graph.kept n ≡ None → kept_at next.graph.kept n ≡ Some j → (j.at ≡ 0) × (j.changed ≡ [])
    new n j none there =
        let from = settled-from n j there in
        let numbered : from.0.number ≡ n = (kept-is H.kept n from.0 from.1).1 in
        let plain : settles from.0 ≡ from.0 = rw (numbered, none) refl in
        subst (λ (k : KeptReview). (k.at ≡ 0) × (k.changed ≡ [])) (sym plain ∙ from.2) (h.fresh n from.0 none from.1)

-- ---- answers

abbrev IsTelling : State → Answer → Type 0
IsTelling S a = (T : State) → a.next ≡ Some T → TellLast S T

told-telling : (S : State) (reply : Reply) → IsTelling S (told reply)
told-telling S reply T some = absurd (cc)

settled-telling : (S : State) (reply : Reply) (r : Result Graph Stopped) → ((H : Graph) → r ≡ Ok H → Stand S.graph H) →
    IsTelling S (settled S reply r)
settled-telling S reply (Ok H) stand = λ T some. subst (TellLast S) (same_Some (next S H (stand H refl)) T some) (tell-last S H (stand H refl))
settled-telling S reply (Err stop) stand = told-telling S (ResponseRefused stop.obligation stop.action stop.why)

made-telling : (S : State) (c : Change) (reply : Reply) (e : Option Event) (obligations : List Obligation) (r : Result Graph Refusal) →
    IsWellFormed S.graph → effect S.graph c ≡ r → IsTelling S (made S reply e obligations r)
made-telling S c reply e obligations (Ok G) f is =
    settled-telling S reply (responded S e obligations G) (λ H done.
    stand-left S.graph G H (stand-made S.graph f G c is) (responded-left S obligations G H e done))
made-telling S c reply e obligations (Err why) f is = told-telling S (Refused why)

granted-telling : (S : State) (e : Event) (obligations : List Obligation) → IsTelling S (granted_with S e obligations)
granted-telling S e [] = told-telling S (Granted 0)
granted-telling S e (o ∷ os) =
    settled-telling S (Granted (length (o ∷ os))) (responded S (Some e) (o ∷ os) S.graph) (λ H done.
    stand-left S.graph S.graph H (stand-itself S.graph) (responded-left S (o ∷ os) S.graph H (Some e) done))

-- what is accepted tells the last changes
pub last_changes_told : (S T : State) (r : Request) → IsWellFormed S.graph → (answer S r).next ≡ Some T → TellLast S T
last_changes_told S T r f =
    answer-is (IsTelling S) S r (told-telling S (Refused (Full History))) (told-telling S Ahead)
    (body-is (IsTelling S) S r.body (told-telling S (Done 0 Nothing)) (λ why. told-telling S (Refused why))
    (λ e c. made-telling S c _ e (responders S.graph (obliging S.graph c) e) (effect S.graph c) f refl)
    (λ e. granted-telling S e (responders S.graph S.graph.obligations (Some e))) (λ review. told-telling S (reviewed S.graph review))) T
