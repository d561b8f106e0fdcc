-- Lists that were right before a change are right after it outside its region.
use Rattle.std.proofs.Common.{arith, ◌+◌, ◌≡◌, ◌==◌, ℕ, Bool, true, false, not, List, [], ◌∷◌, Ok, filter, refl, sym, ap, ◌∙◌, eq-eqb, nat_lt, ◌&&◌}
use Rattle.std.specs.List.{list_any}
use Rattle.std.proofs.lemmas.Bool.{cond_both, eqb-true, false_from_ne_true, not-false, and_parts, and_from}
use Rattle.pm_model.specs.State.{Graph, element, is_numbered}
use Rattle.pm_model.specs.Containment.{contained}
use Rattle.pm_model.specs.Effect.{effect, changed, refusal, placed}
use Rattle.pm_model.specs.Formed.{AreRising, Each, IsLive, IsUser, IsWellFormed, IsNamed}
use Rattle.pm_model.specs.Reviews.{is_user, list_of, numbers_in, rights_in, users_in}
use Rattle.pm_model.specs.declared.reviews.ReviewOf.{ReviewOf}
use Rattle.pm_model.specs.declared.reviews.ReviewOf.TheVariants as of
use Rattle.pm_model.specs.declared.elements.Element.{Element}
use Rattle.pm_model.specs.declared.requests.Change.{Change}
use Rattle.pm_model.specs.declared.requests.Change.TheVariants.{Create, Delete, Assign, Deassign, Associate, Dissociate, OpenSession, CloseSession, StartProcess, EndProcess, Prohibit, Lift, Oblige, Withdraw, DefineRight, Keep, DropReview}
use Rattle.pm_laws.proofs.Checks.{unless-ok}
use Rattle.pm_laws.proofs.Ends.{user-lives}
use Rattle.pm_laws.proofs.Items.{any-found, any-from, find-any}
use Rattle.pm_laws.proofs.Numbers.{found-at, live-found}
use Rattle.pm_affect.specs.declared.region.Region.{Region}
use Rattle.pm_affect.specs.Affected.{is_in, region, region_of}
use Rattle.pm_affect.specs.Lists.{IsInOrder, Listed, Lists, Rise, is_among}
use Rattle.pm_affect.specs.Right.{AreAmong, AreGiven, AreLists, AreLive, is_one, IsRightOutside, AreCapsRight, AreEntriesRight, AreRight}
use Rattle.pm_affect.proofs.Order.{listed, listed-order, listed-rights}
use Rattle.pm_affect.proofs.Places.{rise-lower}
use Rattle.pm_affect.proofs.Passing.{any-filter}
use Rattle.pm_affect.proofs.Ones.{one-caps, one-entries}
use Rattle.pm_affect.proofs.Lemma.{rights_outside, region_kept}

-- the numbers of those that pass the test
abbrev numbers_of : (Element → Bool) → List Element → List ℕ
numbers_of test es = numbers_in (filter test es)

module _ (test : Element → Bool) where
  -- one of them has the number
  abbrev has : ℕ → Element → Bool
  has n e = test e && e.number == n

  among-has : (es : List Element) (n : ℕ) → is_among (numbers_of test es) n ≡ list_any (has n) es
  among-has [] n = refl
  among-has (e ∷ es) n = go (test e) refl (among-has es n) where
    go : (b : Bool) → test e ≡ b → is_among (numbers_of test es) n ≡ list_any (has n) es → is_among (numbers_of test (e ∷ es)) n ≡ list_any (has n) (e ∷ es)
    go true is rest = rw (is, rest) refl
    go false is rest = rw (is, rest) refl

  has-not : (e : Element) (n : ℕ) → (e.number == n) ≡ false → has n e ≡ false
  has-not e n other = go (test e) where
    go : (b : Bool) → (b && e.number == n) ≡ false
    go true = other
    go false = refl

  any-placed : (x : Element) (es : List Element) (n : ℕ) → (x.number == n) ≡ false → list_any (has n) (placed x es) ≡ list_any (has n) es
  any-placed x [] n other = rw (has-not x n other) refl
  any-placed x (e ∷ es) n other = cond_both (nat_lt x.number e.number) (x ∷ e ∷ es) (e ∷ placed x es) (λ l. list_any (has n) l ≡ list_any (has n) (e ∷ es))
      (λ is. rw (has-not x n other) refl)
      (λ is. rw (any-placed x es n other) refl)

  any-changed : (G : Graph) (c : Change) (n : ℕ) → is_one (region_of G c) n ≡ false → list_any (has n) (changed G c).elements ≡ list_any (has n) G.elements
  any-changed G (Create id kind name into) n other = any-placed (element id kind name) G.elements n other
  any-changed G (Delete id) n other = any-filter (has n) (λ e. not (is_numbered id e)) G.elements
      (λ e gone. has-not e n (let same : e.number ≡ id = eqb-true e.number id (not-false _ gone) in rw same other))
  any-changed G (Assign x y) n other = refl
  any-changed G (Deassign x y) n other = refl
  any-changed G (Associate u r t) n other = refl
  any-changed G (Dissociate u t) n other = refl
  any-changed G (OpenSession u) n other = refl
  any-changed G (CloseSession k) n other = refl
  any-changed G (StartProcess k) n other = refl
  any-changed G (EndProcess k) n other = refl
  any-changed G (Prohibit p) n other = refl
  any-changed G (Lift i) n other = refl
  any-changed G (Oblige o) n other = refl
  any-changed G (Withdraw i) n other = refl
  any-changed G (DefineRight name) n other = refl
  any-changed G (Keep of) n other = refl
  any-changed G (DropReview i) n other = refl

  -- but for the element that was made or is gone the numbers are the same
  among-after : (G H : Graph) (c : Change) (n : ℕ) → effect G c ≡ Ok H → is_one (region_of G c) n ≡ false →
      is_among (numbers_of test H.elements) n ≡ is_among (numbers_of test G.elements) n
  among-after G H c n k other =
      let p = unless-ok (refusal G c) (changed G c) H k in
      among-has H.elements n ∙ ap (λ (H : Graph). list_any (has n) H.elements) (sym p.1) ∙ any-changed G c n other ∙ sym (among-has G.elements n)

  -- a number among them is live
  pub among-live : (es : List Element) (n : ℕ) → is_among (numbers_of test es) n ≡ true → IsLive es n
  among-live es n h =
      let p = any-found (has n) es (sym (among-has es n) ∙ h) in
      find-any (is_numbered n) es (any-from (is_numbered n) es p.0 p.1 (and_parts (test p.0) (p.0.number == n) p.2).1)

-- a live user is among the users
user-among : (es : List Element) (n : ℕ) → IsUser es n → is_among (users_in es) n ≡ true
user-among es n h =
    let e = live-found es n (user-lives es n h) in
    let there = found-at es n e.0 e.1 in
    let is : is_user e.0 ≡ true = rw e.1 at h in
    among-has is_user es n ∙ any-from (has is_user n) es e.0 there.0 (and_from (is_user e.0) (e.0.number == n) is (eq-eqb e.0.number n there.1))

-- all elements are those that pass the test which all pass
all-numbers : (es : List Element) → numbers_of (λ e. true) es ≡ numbers_in es
all-numbers [] = refl
all-numbers (e ∷ es) = rw (all-numbers es) refl

live-among : (es : List Element) (n : ℕ) → IsLive es n → is_among (numbers_in es) n ≡ true
live-among es n h =
    let e = live-found es n h in
    let there = found-at es n e.0 e.1 in
    ap (λ ns. is_among ns n) (sym (all-numbers es))
    ∙ among-has (λ e. true) es n ∙ any-from (has (λ e. true) n) es e.0 there.0 (eq-eqb e.0.number n there.1)

-- ---- a list over such numbers

module _ (G H : Graph) (c : Change) (k : effect G c ≡ Ok H) (test : Element → Bool) where
  abbrev before : List ℕ
  before = numbers_of test G.elements

  abbrev after : List ℕ
  after = numbers_of test H.elements

  right-after : (inside : ℕ → Bool) (old new : ℕ → ℕ) → ((m : ℕ) → is_one (region_of G c) m ≡ true → inside m ≡ true) →
      ((m : ℕ) → is_among before m ≡ true → is_among after m ≡ true → inside m ≡ false → new m ≡ old m) →
      IsRightOutside inside (is_one (region_of G c)) new after (listed old before)
  right-after inside old new within same = record {
    right = λ m among out.
        let other : is_one (region_of G c) m ≡ false = false_from_ne_true (is_one (region_of G c) m) (λ is. let yes = within m is in cc) in
        let there : is_among before m ≡ true = sym (among-after test G H c m k other) ∙ among in
        listed-rights old before m ∙ rw there (sym (same m there among out));
    nothing_else = λ m among other.
        let there : is_among before m ≡ false = sym (among-after test G H c m k other) ∙ among in
        listed-rights old before m ∙ rw there refl;
  }

-- ---- all lists

each_both : {X : Type 0} (P Q R : X → Type 0) → ((x : X) → P x → Q x → R x) → (xs : List X) → Each P xs → Each Q xs → Each R xs
each_both P Q R f [] p q = tt
each_both P Q R f (x ∷ xs) p q = (f x p.0 q.0, each_both P Q R f xs p.1 q.1)

module _ (G H : Graph) (c : Change) (f : IsWellFormed G) (n : IsNamed G c) (k : effect G c ≡ Ok H) where
  abbrev inside : ℕ → ℕ → Bool
  inside u e = is_in (contained H.assigned) (region_of G c) u e

  -- outside the region the rights are those before
  rights-same : (u e : ℕ) → IsLive G.elements u → IsLive G.elements e → IsLive H.elements u → IsLive H.elements e → inside u e ≡ false →
      rights_in H u e ≡ rights_in G u e
  rights-same u e lu le lu' le' out = rights_outside G H c u e f n k lu le lu' le' (sym (region_kept G H c u e f n k) ∙ out)

  -- what lies outside with another is neither made nor gone
  caps-other : (v m : ℕ) → inside v m ≡ false → is_one (region_of G c) v ≡ false
  caps-other v m out = false_from_ne_true (is_one (region_of G c) v) (λ is.
      let yes = one-entries (contained H.assigned) (region_of G c) v m is in cc)

  entries-other : (m x : ℕ) → inside m x ≡ false → is_one (region_of G c) x ≡ false
  entries-other m x out = false_from_ne_true (is_one (region_of G c) x) (λ is.
      let yes = one-caps (contained H.assigned) (region_of G c) m x is in cc)

  caps-right : (k : Listed) → k.pairs ≡ listed (λ e. rights_in G k.subject e) (numbers_in G.elements) → IsUser H.elements k.subject →
      AreCapsRight (contained H.assigned) (region_of G c) (rights_in H) (numbers_in H.elements) (users_in H.elements) k
  caps-right key is user =
      let v = key.subject in
      let live = user-among H.elements v user in (
        live,
        rw (is, ← all-numbers G.elements, ← all-numbers H.elements)
            (right-after G H c k (λ e. true) (λ e. inside v e) (λ e. rights_in G v e) (λ e. rights_in H v e)
            (λ m. one-caps (contained H.assigned) (region_of G c) v m)
            (λ m old new out.
            let was : is_among (users_in G.elements) v ≡ true = sym (among-after is_user G H c v k (caps-other v m out)) ∙ live in
            rights-same v m (among-live is_user G.elements v was) (among-live (λ e. true) G.elements m old) (among-live is_user H.elements v live)
            (among-live (λ e. true) H.elements m new) out)),
      )

  entries-right : (k : Listed) → k.pairs ≡ listed (λ u. rights_in G u k.subject) (users_in G.elements) → IsLive H.elements k.subject →
      AreEntriesRight (contained H.assigned) (region_of G c) (rights_in H) (numbers_in H.elements) (users_in H.elements) k
  entries-right key is there =
      let x = key.subject in
      let live = live-among H.elements x there in (
        live,
        rw is
            (right-after G H c k is_user (λ u. inside u x) (λ u. rights_in G u x) (λ u. rights_in H u x)
            (λ m. one-entries (contained H.assigned) (region_of G c) m x)
            (λ m old new out.
            let now : is_among (numbers_of (λ e. true) H.elements) x ≡ true = rw (all-numbers H.elements) live in
            let was : is_among (numbers_of (λ e. true) G.elements) x ≡ true = sym (among-after (λ e. true) G H c x k (entries-other m x out)) ∙ now in
            rights-same m x (among-live is_user G.elements m old) (among-live (λ e. true) G.elements x was) (among-live is_user H.elements m new)
            (among-live (λ e. true) H.elements x now) out)),
      )

  pub lists_right : (L : Lists) → AreLists G L → AreLive H L →
      AreRight (contained H.assigned) (region_of G c) (rights_in H) (numbers_in H.elements) (users_in H.elements) L
  lists_right L are live = record {
    caps = each_both _ _ _ caps-right L.caps are.caps live.caps;
    entries = each_both _ _ _ entries-right L.entries are.entries live.entries;
  }

-- ---- lists that are the graph's already

made-list : (inside gone : ℕ → Bool) (rights : ℕ → ℕ) (ns : List ℕ) → IsRightOutside inside gone rights ns (listed rights ns)
made-list inside gone rights ns = record {
  right = λ m among out. listed-rights rights ns m ∙ rw among refl;
  nothing_else = λ m among other. listed-rights rights ns m ∙ rw among refl;
}

pub made_right : (H : Graph) (below : ℕ → ℕ → Bool) (region : Region) (L : Lists) → AreLists H L → AreLive H L →
    AreRight below region (rights_in H) (numbers_in H.elements) (users_in H.elements) L
made_right H below region L are live = record {
  caps = each_both _ _ _ (λ k is user. (
    user-among H.elements k.subject user,
    rw is (made-list (λ e. is_in below region k.subject e) (is_one region) (λ e. rights_in H k.subject e) (numbers_in H.elements)),
  )) L.caps are.caps live.caps;
  entries = each_both _ _ _ (λ k is there. (
    live-among H.elements k.subject there,
    rw is (made-list (λ u. is_in below region u k.subject) (is_one region) (λ u. rights_in H u k.subject) (users_in H.elements)),
  )) L.entries are.entries live.entries;
}

-- ---- whatever gives the rights

agreed-list : (inside gone : ℕ → Bool) (was rights : ℕ → ℕ) (ns : List ℕ) → ((n : ℕ) → inside n ≡ false → rights n ≡ was n) →
    IsRightOutside inside gone rights ns (listed was ns)
agreed-list inside gone was rights ns same = record {
  right = λ m among out. listed-rights was ns m ∙ rw among (sym (same m out));
  nothing_else = λ m among other. listed-rights was ns m ∙ rw among refl;
}

pub agreed_right : (below : ℕ → ℕ → Bool) (region : Region) (was rights : ℕ → ℕ → ℕ) (elements users : List ℕ) (L : Lists) →
    AreGiven was elements users L → AreAmong elements users L → ((u e : ℕ) → is_in below region u e ≡ false → rights u e ≡ was u e) →
    AreRight below region rights elements users L
agreed_right below region was rights elements users L given among same = record {
  caps = each_both _ _ _ (λ k is live. (
    live,
    rw is (agreed-list (λ e. is_in below region k.subject e) (is_one region) (λ e. was k.subject e) (λ e. rights k.subject e) elements (λ e. same k.subject e)),
  )) L.caps given.caps among.caps;
  entries = each_both _ _ _ (λ k is live. (
    live,
    rw is (agreed-list (λ u. is_in below region u k.subject) (is_one region) (λ u. was u k.subject) (λ u. rights u k.subject) users (λ u. same u k.subject)),
  )) L.entries given.entries among.entries;
}

-- ---- a graph's list is in order

numbers-rise : (test : Element → Bool) (low : ℕ) (es : List Element) → AreRising low es → Rise low (numbers_of test es)
numbers-rise test low [] h = tt
numbers-rise test low (e ∷ es) h = let rest = numbers-rise test (e.number + 1) es h.1 in
    cond_both (test e) (e ∷ filter test es) (filter test es) (λ l. Rise low (numbers_in l))
    (λ is. (h.0, rest)) (λ is. rise-lower (e.number + 1) low (numbers_of test es) (omega (arith, h.0)) rest)

pub all_rise : (G : Graph) → IsWellFormed G → Rise 0 (numbers_in G.elements)
all_rise G f = rw (← all-numbers G.elements) (numbers-rise (λ e. true) 0 G.elements f.elements.rising)

pub users_rise : (G : Graph) → IsWellFormed G → Rise 0 (users_in G.elements)
users_rise G f = numbers-rise is_user 0 G.elements f.elements.rising

pub list_in_order : (G : Graph) (of : ReviewOf ℕ) → IsWellFormed G → IsInOrder 0 (list_of G of)
list_in_order G (of.Caps u) f =
    listed-order (rights_in G u) 0 (numbers_in G.elements) (all_rise G f)
list_in_order G (of.Entries e) f = listed-order (λ u. rights_in G u e) 0 (users_in G.elements) (users_rise G f)
