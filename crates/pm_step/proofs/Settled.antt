-- The kept reviews settled one after another.
use Rattle.std.proofs.Common.{◌≡◌, ◌≤◌, ◌<◌, ◌+◌, ◌==◌, ℕ, zero, suc, Bool, true, false, if◌then◌else◌, List, [], ◌∷◌, length, map, filter, bytes_eq, eq-eqb, Option, Some, None, option_map, is_some, IsTrue, inl, inr, slice_get, slice_set, refl, sym, ◌∙◌, ap, subst, arith}
use Rattle.std.specs.List.{list_any}
use Rattle.std.proofs.lemmas.Bool.{cond_both, eqb-true}
use Rattle.std.proofs.lemmas.List.Elements.{All-head, All-tail, All-weaker}
use Rattle.std.proofs.lemmas.Option.{same_Some, slice_get_cases}
use Rattle.std.proofs.lemmas.Slice.Eq.{bytes_eq-Decides}
use Rattle.pm_model.specs.History.{IsReplayed, Machine, replay}
use Rattle.pm_model.specs.State.{Graph, State, element_at, name_numbered}
use Rattle.pm_model.specs.KeptReviews.{KeptReview, is_kept_as, is_kept_of, kept_at}
use Rattle.pm_model.specs.LastChanges.{changed, changes_below, changes_between, changes_in, differs, rights_listed, with_last, settled_review, with_changes}
use Rattle.pm_model.specs.Reviews.{list_of}
use Rattle.pm_model.specs.declared.requests.Entry.{Entry}
use Rattle.pm_model.specs.declared.reviews.Changed.{Changed}
use Rattle.pm_model.specs.declared.reviews.Pair.{Pair}
use Rattle.pm_model.specs.declared.reviews.ReviewOf.{ReviewOf}
use Rattle.pm_model.specs.declared.reviews.ReviewOf.TheVariants.{Caps, Entries}
use Rattle.pm_laws.proofs.Items.{any-from, find-found, get-contains}
use Rattle.pm_laws.proofs.KeptReviews.{is-same, same-is}
use Rattle.pm_review.specs.Rising.{AllAlike, AllNamed}
use Rattle.pm_state.specs.Drafted.{Drafted}
use Rattle.pm_state.specs.Leaving.{AreNamesKept}
use Rattle.pm_step.specs.Settling.{is_kept_so}

-- ---- names

-- those of a list of the graph that a draft began from, where the draft has kept them
pub names-alike : (M : Machine) (D : Drafted) (list : List Pair) → IsReplayed M → D.history ≡ M.history → AreNamesKept (replay D.history).graph D.graph →
    AllNamed (λ n. is_some (element_at M.graph.elements n)) list → AllAlike (name_numbered M.graph.elements) (name_numbered D.graph.elements) list
names-alike M D list replayed same kept named =
    let began : (replay D.history).graph ≡ M.graph = ap (λ (h : List Entry). (replay h).graph) same ∙ ap (λ (S : State). S.graph) replayed.content in
    let names : AreNamesKept M.graph D.graph = subst (λ (G : Graph). AreNamesKept G D.graph) began kept in
    All-weaker (λ (p : Pair). IsTrue (is_some (element_at M.graph.elements p.element)))
    (λ (p : Pair). name_numbered M.graph.elements p.element ≡ name_numbered D.graph.elements p.element) (λ p live. sym (names.names p.element live)) list named

-- ---- lists that are the same

-- tell of no change, where the elements in them have kept their names
module _ (was is : ℕ → List ℕ) where
  -- an element with these rights in both
  abbrev IsUnchanged : ℕ → ℕ → Type 0
  IsUnchanged n r =
      filter differs (if bytes_eq (was n) (is n) then changed (is n) r r ∷ [] else changed (was n) r 0 ∷ changed (is n) 0 r ∷ []) ≡ []

  unchanged-at : (n : ℕ) (ps : List Pair) → AllAlike was is ps → IsUnchanged n (rights_listed ps n)
  unchanged-at n [] alike =
      cond_both (bytes_eq (was n) (is n)) (changed (is n) 0 0 ∷ []) (changed (was n) 0 0 ∷ changed (is n) 0 0 ∷ [])
      (λ (l : List Changed). filter differs l ≡ []) (λ yes. refl) (λ no. refl)
  unchanged-at n (p ∷ ps) alike = by (unchanged-at n ps (All-tail (λ (p : Pair). was p.element ≡ is p.element) p ps alike)) (p.element == n) refl where
    by : IsUnchanged n (rights_listed ps n) → (b : Bool) → (p.element == n) ≡ b → IsUnchanged n (rights_listed (p ∷ ps) n)
    by rest true here =
        let named : was n ≡ is n = rw (eqb-true p.element n here) at (All-head (λ (p : Pair). was p.element ≡ is p.element) p ps alike) in
        rw (here, named, (bytes_eq-Decides (is n) (is n)).1 refl, eq-eqb p.rights p.rights refl) refl
    by rest false other = rw other rest

  unchanged-below : (n : ℕ) (ps : List Pair) → AllAlike was is ps → changes_below was is ps ps n ≡ []
  unfolding changes_below
  unchanged-below zero ps alike = refl
  unchanged-below (suc n) ps alike = rw (unchanged-below n ps alike, unchanged-at n ps alike) refl

  pub same-unchanged : (old new : List Pair) → old ≡ new → AllAlike was is old → changes_between was is old new ≡ []
  same-unchanged old new same alike =
      subst (λ (l : List Pair). changes_between was is old l ≡ []) same (unchanged-below _ old alike)

-- what a review answered in the state that a draft began from
pub same-as-before : (M : Machine) (D : Drafted) (of : ReviewOf ℕ) → IsReplayed M → D.history ≡ M.history →
    list_of (replay D.history).graph of ≡ list_of D.graph of → list_of M.graph of ≡ list_of D.graph of
same-as-before M D of replayed same stays =
    let began : (replay D.history).graph ≡ M.graph = ap (λ (h : List Entry). (replay h).graph) same ∙ ap (λ (S : State). S.graph) replayed.content in
    subst (λ (G : Graph). list_of G of ≡ list_of D.graph of) began stays

-- ---- one of them

-- the number of what stands at a place, and what it is of
abbrev pub told_at : List KeptReview → ℕ → Option (ℕ × ReviewOf ℕ)
told_at ks i = option_map (λ (k : KeptReview). (k.number, k.of)) (slice_get ks i)

at-is : (ks : List KeptReview) (i n : ℕ) (of : ReviewOf ℕ) (k : KeptReview) → Some (n, of) ≡ told_at ks i → slice_get ks i ≡ Some k →
    (k.number ≡ n) × (k.of ≡ of)
at-is ks i n of k told here =
    let same : (n, of) ≡ (k.number, k.of) = same_Some (n, of) (k.number, k.of) (rw here at told) in
    (sym (ap (λ (p : ℕ × ReviewOf ℕ). p.0) same), sym (ap (λ (p : ℕ × ReviewOf ℕ). p.1) same))

-- what was kept
pub kept-before : (G : Graph) (n : ℕ) (of : ReviewOf ℕ) → is_kept_so (kept_at G.kept n) of ≡ true → list_any (is_kept_of of) G.kept ≡ true
kept-before G n of = by (kept_at G.kept n) refl where
  by : (o : Option KeptReview) → kept_at G.kept n ≡ o → is_kept_so o of ≡ true → list_any (is_kept_of of) G.kept ≡ true
  by None is so = absurd (cc)
  by (Some k) is so =
      any-from (is_kept_of of) G.kept k (find-found (is_kept_as n) G.kept k is).0 (rw (same-is k.of of so) (is-same of))

-- and what is kept
pub kept-here : (H : Graph) (i n : ℕ) (of : ReviewOf ℕ) → i < length H.kept → Some (n, of) ≡ told_at H.kept i →
    list_any (is_kept_of of) H.kept ≡ true
kept-here H i n of within told = elim ((slice_get_cases H.kept i).1) [
  | inl here ↦
      let k = here.0 in
      any-from (is_kept_of of) H.kept k (get-contains H.kept i k here.2) (rw (at-is H.kept i n of k told here.2).1 (is-same of))
  | inr past ↦ absurd (omega (arith, within, past.0))
]

set-stays : (ks : List KeptReview) (i : ℕ) (k : KeptReview) → slice_get ks i ≡ Some k → slice_set ks i k ≡ ks
set-stays [] i k here = refl
set-stays (j ∷ ks) zero k here = let same : j ≡ k = cc in rw same refl
set-stays (j ∷ ks) (suc i) k here = ap (λ (l : List KeptReview). j ∷ l) (set-stays ks i k here)

module _ (G H : Graph) (version : ℕ) where
  abbrev settles : KeptReview → KeptReview
  settles k = settled_review G H version k

  -- with what becomes of it, the graph is as it was
  stays-so : (i : ℕ) (k : KeptReview) → slice_get H.kept i ≡ Some k → settles k ≡ k →
      H ≡ record H { kept = slice_set H.kept i (settles k) }
  stays-so i k here same =
      ap (λ (ks : List KeptReview). record H { kept = ks }) (sym (ap (slice_set H.kept i) same ∙ set-stays H.kept i k here))

  settles-new : (k : KeptReview) → is_kept_so (kept_at G.kept k.number) k.of ≡ false → settles k ≡ k
  settles-new k = by (kept_at G.kept k.number) refl where
    by : (o : Option KeptReview) → kept_at G.kept k.number ≡ o → is_kept_so o k.of ≡ false → settles k ≡ k
    by None is so = rw is refl
    by (Some before) is so = rw (is, so) refl

  settles-kept : (k : KeptReview) → is_kept_so (kept_at G.kept k.number) k.of ≡ true → settles k ≡ with_last version (changes_in G H k.of) k
  settles-kept k = by (kept_at G.kept k.number) refl where
    by : (o : Option KeptReview) → kept_at G.kept k.number ≡ o → is_kept_so o k.of ≡ true → settles k ≡ with_last version (changes_in G H k.of) k
    by None is so = absurd (cc)
    by (Some before) is so = rw (is, so) refl

  module _ (i n : ℕ) (of : ReviewOf ℕ) (told : Some (n, of) ≡ told_at H.kept i) (k : KeptReview) (here : slice_get H.kept i ≡ Some k) where
    so-of : (b : Bool) → is_kept_so (kept_at G.kept n) of ≡ b → is_kept_so (kept_at G.kept k.number) k.of ≡ b
    so-of b so = let p = at-is H.kept i n of k told here in rw (p.0, p.1) so

    -- one that is new
    pub new-stays : is_kept_so (kept_at G.kept n) of ≡ false → H ≡ record H { kept = slice_set H.kept i (settles k) }
    new-stays so = stays-so i k here (settles-new k (so-of false so))

    settles-to : (changes : List Changed) → is_kept_so (kept_at G.kept n) of ≡ true → changes ≡ changes_in G H of →
        settles k ≡ with_last version changes k
    settles-to changes so is =
        settles-kept k (so-of true so)
        ∙ ap (λ (l : List Changed). with_last version l k) (ap (changes_in G H) (at-is H.kept i n of k told here).1 ∙ sym is)

    -- one whose list is the same
    pub same-stays : (changes : List Changed) → is_kept_so (kept_at G.kept n) of ≡ true → changes ≡ changes_in G H of → length changes ≡ 0 →
        H ≡ record H { kept = slice_set H.kept i (settles k) }
    same-stays [] so is none = stays-so i k here (settles-to [] so is)
    same-stays (c ∷ cs) so is none = absurd (omega (arith, none))

    -- and one whose list has changed
    pub settles-last : (changes : List Changed) → is_kept_so (kept_at G.kept n) of ≡ true → changes ≡ changes_in G H of → 0 < length changes →
        settles k ≡ record k { at = version; changed = changes }
    settles-last [] so is some = absurd (omega (arith, some))
    settles-last (c ∷ cs) so is some = settles-to (c ∷ cs) so is

-- ---- one after another

module _ {X : Type 0} (f : X → X) where
  -- the first so many, and the others as they are
  abbrev pub map_first : ℕ → List X → List X
  map_first zero xs = xs
  map_first (suc i) [] = []
  map_first (suc i) (x ∷ xs) = f x ∷ map_first i xs

  first-stands : (i : ℕ) (xs : List X) → slice_get (map_first i xs) i ≡ slice_get xs i
  first-stands zero xs = refl
  first-stands (suc i) [] = refl
  first-stands (suc i) (x ∷ xs) = first-stands i xs

  first-more : (i : ℕ) (xs : List X) (x : X) → slice_get xs i ≡ Some x → slice_set (map_first i xs) i (f x) ≡ map_first (suc i) xs
  first-more zero [] x here = absurd (cc)
  first-more zero (y ∷ xs) x here = let same : y ≡ x = cc in rw same refl
  first-more (suc i) [] x here = absurd (cc)
  first-more (suc i) (y ∷ xs) x here = ap (λ (l : List X). f y ∷ l) (first-more i xs x here)

  first-length : (i : ℕ) (xs : List X) → length (map_first i xs) ≡ length xs
  first-length zero xs = refl
  first-length (suc i) [] = refl
  first-length (suc i) (x ∷ xs) = let rest = first-length i xs in omega (arith, rest)

  first-all : (i : ℕ) (xs : List X) → length xs ≤ i → map_first i xs ≡ map f xs
  first-all zero [] past = refl
  first-all zero (x ∷ xs) past = absurd (omega (arith, past))
  first-all (suc i) [] past = refl
  first-all (suc i) (x ∷ xs) past = ap (λ (l : List X). f x ∷ l) (first-all i xs (omega (arith, past)))

-- the kept reviews are in no list
changes-alike : (G H : Graph) (ks : List KeptReview) (of : ReviewOf ℕ) → changes_in G (record H { kept = ks }) of ≡ changes_in G H of
changes-alike G H ks (Caps u) = refl
changes-alike G H ks (Entries e) = refl

module _ (G H : Graph) (version : ℕ) where
  abbrev settles_to : KeptReview → KeptReview
  settles_to k = settled_review G H version k

  -- the graph whose first kept reviews are settled
  abbrev pub settled_first : ℕ → Graph
  settled_first i = record H { kept = map_first settles_to i H.kept }

  -- what others are told changes nothing
  settles-alike : (ks : List KeptReview) (k : KeptReview) → settled_review G (record H { kept = ks }) version k ≡ settles_to k
  settles-alike ks k = by (kept_at G.kept k.number) refl where
    by : (o : Option KeptReview) → kept_at G.kept k.number ≡ o → settled_review G (record H { kept = ks }) version k ≡ settles_to k
    by None is = rw is refl
    by (Some before) is = rw (is, changes-alike G H ks k.of) refl

  pub first-within : (D : Graph) (i : ℕ) → D ≡ settled_first i → i < length H.kept → i < length D.kept
  first-within D i is within = rw is (omega (arith, within, first-length settles_to i H.kept))

  -- this one is set in the graph
  abbrev IsSet : Graph → Graph → ℕ → Type 0
  IsSet D K i = (k : KeptReview) → slice_get D.kept i ≡ Some k → K ≡ record D { kept = slice_set D.kept i (settled_review G D version k) }

  first-set : (K : Graph) (i : ℕ) → i < length H.kept → IsSet (settled_first i) K i → K ≡ settled_first (i + 1)
  first-set K i within set = elim ((slice_get_cases H.kept i).1) [
    | inl here ↦
        let k = here.0 in
        let next : suc i ≡ i + 1 = omega arith in
        set k (first-stands settles_to i H.kept ∙ here.2)
        ∙ ap (λ (j : KeptReview). record H { kept = slice_set (settled_first i).kept i j }) (settles-alike (settled_first i).kept k)
        ∙ ap (λ (ks : List KeptReview). record H { kept = ks }) (first-more settles_to i H.kept k here.2)
        ∙ ap settled_first next
    | inr past ↦ absurd (omega (arith, within, past.0))
  ]

  -- one more
  pub settled-more : (D K : Graph) (i : ℕ) → D ≡ settled_first i → i < length H.kept → IsSet D K i → K ≡ settled_first (i + 1)
  settled-more D K i is within set = first-set K i within (subst (λ (D : Graph). IsSet D K i) is set)

  -- and all
  pub settled-all : (D : Graph) (i : ℕ) → D ≡ settled_first i → length H.kept ≤ i → D ≡ with_changes G version H
  settled-all D i is past = is ∙ ap (λ (ks : List KeptReview). record H { kept = ks }) (first-all settles_to i H.kept past)
