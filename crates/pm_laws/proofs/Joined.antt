-- Associations as a list: what stands in it where one comes at its place, and which pairs of ends stand once.
use Rattle.std.proofs.Common.{◌≡◌, ◌≤◌, ◌==◌, ℕ, List, [], ◌∷◌, Bool, true, false, nat_lt, refl, sym, arith, eq-eqb, filter, Contains, ◌⊎◌, inl, inr}
use Rattle.std.specs.List.{list_any}
use Rattle.std.proofs.lemmas.Bool.{eqb-true, ltb-true, ltb-false, and_parts, false_from_ne_true}
use Rattle.pm_model.specs.Effect.{joins, joined}
use Rattle.pm_model.specs.Formed.{Each, JoinOnce, AreByAttribute}
use Rattle.pm_model.specs.declared.rights.Association.{Association}
use Rattle.pm_laws.proofs.Items.{contains-first, contains-rest, contains-cases, filter-contains, each-at, each-from, none-at, none-from}

-- ---- the test of two ends

joins-itself : (a b : Association) → a.ua ≡ b.ua → a.at ≡ b.at → joins a.ua a.at b ≡ true
joins-itself a b u t = rw (eq-eqb b.ua a.ua (sym u), eq-eqb b.at a.at (sym t)) refl

-- one has the ends of the other, or neither has
joins-swapped : (a b : Association) → joins a.ua a.at b ≡ false → joins b.ua b.at a ≡ false
joins-swapped a b other = false_from_ne_true (joins b.ua b.at a) (λ is.
    let p = and_parts (a.ua == b.ua) (a.at == b.at) is in
    let yes : joins a.ua a.at b ≡ true = joins-itself a b (eqb-true a.ua b.ua p.0) (eqb-true a.at b.at p.1) in cc)

-- ---- one more, at its place

module _ (a : Association) where
  joined-before : (b : Association) (bs : List Association) → nat_lt a.ua b.ua ≡ true → joined a (b ∷ bs) ≡ a ∷ b ∷ bs
  joined-before b bs is = rw is refl

  joined-after : (b : Association) (bs : List Association) → nat_lt a.ua b.ua ≡ false → joined a (b ∷ bs) ≡ b ∷ joined a bs
  joined-after b bs is = rw is refl

  joined-cases : (bs : List Association) (c : Association) → Contains (joined a bs) c → (a ≡ c) ⊎ Contains bs c
  joined-cases [] c there = contains-cases a c [] there
  joined-cases (b ∷ bs) c there = either (joined-cases bs c) (nat_lt a.ua b.ua) refl where
    either : (Contains (joined a bs) c → (a ≡ c) ⊎ Contains bs c) → (t : Bool) → nat_lt a.ua b.ua ≡ t → (a ≡ c) ⊎ Contains (b ∷ bs) c
    either rest true is = contains-cases a c (b ∷ bs) (rw (joined-before b bs is) at there)
    either rest false is = elim (contains-cases b c (joined a bs) (rw (joined-after b bs is) at there)) [
      | inl same ↦ inr (rw same (contains-first c bs))
      | inr below ↦ elim (rest below) [ inl new ↦ inl new | inr old ↦ inr (contains-rest b c bs old) ]
    ]

  pub each-joined : (P : Association → Type 0) (bs : List Association) → Each P bs → P a → Each P (joined a bs)
  each-joined P bs h p = each-from P (joined a bs) (λ c there. elim (joined-cases bs c there) [ inl new ↦ rw (← new) p | inr old ↦ each-at P bs c h old ])

  pub once-joined : (bs : List Association) → JoinOnce bs → list_any (joins a.ua a.at) bs ≡ false → JoinOnce (joined a bs)
  once-joined [] h free = (refl, tt)
  once-joined (b ∷ bs) h free = either (once-joined bs h.1 rest) (nat_lt a.ua b.ua) refl where
    rest : list_any (joins a.ua a.at) bs ≡ false
    rest = none-from (joins a.ua a.at) bs (λ c there. none-at (joins a.ua a.at) (b ∷ bs) c free (contains-rest b c bs there))

    others : list_any (joins b.ua b.at) (joined a bs) ≡ false
    others = none-from (joins b.ua b.at) (joined a bs) (λ c there. elim (joined-cases bs c there) [
      | inl new ↦ rw (← new) (joins-swapped a b (none-at (joins a.ua a.at) (b ∷ bs) b free (contains-first b bs)))
      | inr old ↦ none-at (joins b.ua b.at) bs c h.0 old
    ])

    either : JoinOnce (joined a bs) → (t : Bool) → nat_lt a.ua b.ua ≡ t → JoinOnce (joined a (b ∷ bs))
    either further true is = rw is (free, h)
    either further false is = rw is (others, further)

  pub ordered-joined : (n : ℕ) (bs : List Association) → AreByAttribute n bs → n ≤ a.ua → AreByAttribute n (joined a bs)
  ordered-joined n [] h least = (least, tt)
  ordered-joined n (b ∷ bs) h least = either (ordered-joined b.ua bs h.1) (nat_lt a.ua b.ua) refl where
    either : (b.ua ≤ a.ua → AreByAttribute b.ua (joined a bs)) → (t : Bool) → nat_lt a.ua b.ua ≡ t → AreByAttribute n (joined a (b ∷ bs))
    either rest true is = let less = ltb-true a.ua b.ua is in rw is (least, (omega (arith, less), h.1))
    either rest false is = let more = ltb-false a.ua b.ua is in rw is (h.0, rest (omega (arith, more)))

-- ---- some taken away

module _ (test : Association → Bool) where
  pub once-kept : (bs : List Association) → JoinOnce bs → JoinOnce (filter test bs)
  once-kept [] h = tt
  once-kept (b ∷ bs) h = either (once-kept bs h.1) (test b) refl where
    others : list_any (joins b.ua b.at) (filter test bs) ≡ false
    others = none-from (joins b.ua b.at) (filter test bs) (λ c there. none-at (joins b.ua b.at) bs c h.0 (filter-contains test bs c there).0)

    either : JoinOnce (filter test bs) → (t : Bool) → test b ≡ t → JoinOnce (filter test (b ∷ bs))
    either rest true is = rw is (others, rest)
    either rest false is = rw is rest

  ordered-lower : (m n : ℕ) (bs : List Association) → AreByAttribute m bs → n ≤ m → AreByAttribute n bs
  ordered-lower m n [] h least = tt
  ordered-lower m n (b ∷ bs) h least = (omega (arith, least, h.0), h.1)

  pub ordered-kept : (n : ℕ) (bs : List Association) → AreByAttribute n bs → AreByAttribute n (filter test bs)
  ordered-kept n [] h = tt
  ordered-kept n (b ∷ bs) h = either (ordered-kept b.ua bs h.1) (test b) refl where
    either : AreByAttribute b.ua (filter test bs) → (t : Bool) → test b ≡ t → AreByAttribute n (filter test (b ∷ bs))
    either rest true is = rw is (h.0, rest)
    either rest false is = rw is (ordered-lower b.ua n (filter test bs) rest h.0)
