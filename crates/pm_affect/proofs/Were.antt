-- What lists were when they were last copied.
use Rattle.std.proofs.Common.{◌≡◌, ◌==◌, ℕ, Bool, true, false, not, List, [], ◌∷◌, map, Option, Some, None, IfSome, refl, sym, ap, subst}
use Rattle.std.proofs.lemmas.Bool.{eqb-true}
use Rattle.pm_model.specs.Formed.{Each}
use Rattle.pm_model.specs.Reviews.{list_of}
use Rattle.pm_model.specs.State.{Graph}
use Rattle.pm_model.specs.declared.reviews.Pair.{Pair}
use Rattle.pm_model.specs.declared.reviews.ReviewOf.{ReviewOf}
use Rattle.pm_model.specs.declared.reviews.ReviewOf.TheVariants.{Caps, Entries}
use Rattle.pm_laws.proofs.Items.{each-filter}
use Rattle.pm_affect.specs.Lists.{AreKept, AreListed, IsInOrder, Listed, Lists, Rise, all_copied, copied, inserted, is_of, list_in, listing, pairs_of_some, removed, subjects, was_in, was_of_some}
use Rattle.pm_affect.specs.Right.{AreLists, WereLists, caps_anew, entries_anew}
use Rattle.pm_affect.proofs.Edits.{each-with}

-- ---- copies

copied-subjects : (ks : List Listed) → subjects (map copied ks) ≡ subjects ks
copied-subjects [] = refl
copied-subjects (k ∷ ks) = ap (λ ns. k.subject ∷ ns) (copied-subjects ks)

copied-order : (ks : List Listed) → Each (λ (k : Listed). IsInOrder 0 k.pairs) ks → Each (λ (k : Listed). IsInOrder 0 k.pairs) (map copied ks)
copied-order [] h = tt
copied-order (k ∷ ks) h = (h.0, copied-order ks h.1)

copied-listed : (ks : List Listed) → AreListed ks → AreListed (map copied ks)
copied-listed ks h = record { rise = subst (Rise 0) (sym (copied-subjects ks)) h.rise; order = copied-order ks h.order }

pub copied-kept : (L : Lists) → AreKept L → AreKept (all_copied L)
copied-kept L h = record { caps = copied-listed L.caps h.caps; entries = copied-listed L.entries h.entries; few = h.few }

copied-some : (n : ℕ) (ks : List Listed) → pairs_of_some n (map copied ks) ≡ pairs_of_some n ks
copied-some n [] = refl
copied-some n (k ∷ ks) = go (k.subject == n) refl (copied-some n ks) where
  go : (b : Bool) → (k.subject == n) ≡ b → pairs_of_some n (map copied ks) ≡ pairs_of_some n ks →
      pairs_of_some n (map copied (k ∷ ks)) ≡ pairs_of_some n (k ∷ ks)
  go true is rest = rw is refl
  go false is rest = rw is rest

-- they have what there was
pub copied-in : (L : Lists) (of : ReviewOf ℕ) → list_in (all_copied L) of ≡ list_in L of
copied-in L (Caps u) = copied-some u L.caps
copied-in L (Entries e) = copied-some e L.entries

-- ---- what holds of what lists were

module _ (P : ℕ → List Pair → Type 0) where
  abbrev Was : Listed → Type 0
  Was k = IfSome k.was (P k.subject)

  were-copied : (ks : List Listed) → Each (λ (k : Listed). P k.subject k.pairs) ks → Each Was (map copied ks)
  were-copied [] h = tt
  were-copied (k ∷ ks) h = (h.0, were-copied ks h.1)

  -- of lists that keep what they were
  were-mapped : (f : Listed → Listed) → ((k : Listed) → Was k → Was (f k)) → (ks : List Listed) → Each Was ks → Each Was (map f ks)
  were-mapped f same [] h = tt
  were-mapped f same (k ∷ ks) h = (same k h.0, were-mapped f same ks h.1)

  were-found : (n : ℕ) (ks : List Listed) → Each Was ks → IfSome (was_of_some n ks) (P n)
  were-found n [] h = tt
  were-found n (k ∷ ks) h = go (k.subject == n) refl (were-found n ks h.1) where
    go : (b : Bool) → (k.subject == n) ≡ b → IfSome (was_of_some n ks) (P n) → IfSome (was_of_some n (k ∷ ks)) (P n)
    go true is rest = rw is (subst (λ m. IfSome k.was (P m)) (eqb-true k.subject n is) h.0)
    go false is rest = rw is rest

module _ (G : Graph) where
  abbrev IsCaps : ℕ → List Pair → Type 0
  IsCaps u ps = ps ≡ list_of G (Caps u)

  abbrev IsEntries : ℕ → List Pair → Type 0
  IsEntries e ps = ps ≡ list_of G (Entries e)

  pub copied-were : (L : Lists) → AreLists G L → WereLists G (all_copied L)
  copied-were L h = record { caps = were-copied IsCaps L.caps h.caps; entries = were-copied IsEntries L.entries h.entries }

  -- lists that are made anew were what they were
  pub anew-were : (rights : ℕ → ℕ → ℕ) (elements users : List ℕ) (L M : Lists) → M.caps ≡ map (caps_anew rights elements) L.caps →
      M.entries ≡ map (entries_anew rights users) L.entries → WereLists G L → WereLists G M
  anew-were rights elements users L M caps entries h = record {
    caps = subst (Each (Was IsCaps)) (sym caps) (were-mapped IsCaps (caps_anew rights elements) (λ k was. was) L.caps h.caps);
    entries = subst (Each (Was IsEntries)) (sym entries) (were-mapped IsEntries (entries_anew rights users) (λ k was. was) L.entries h.entries);
  }

  pub inserted-were : (of : ReviewOf ℕ) (ps : List Pair) (L : Lists) → WereLists G L → WereLists G (inserted of ps L)
  inserted-were (Caps u) ps L h = record { caps = each-with (Was IsCaps) (listing u ps) L.caps tt h.caps; entries = h.entries }
  inserted-were (Entries e) ps L h = record { caps = h.caps; entries = each-with (Was IsEntries) (listing e ps) L.entries tt h.entries }

  pub removed-were : (of : ReviewOf ℕ) (L : Lists) → WereLists G L → WereLists G (removed of L)
  removed-were (Caps u) L h = record { caps = each-filter (Was IsCaps) (λ k. not (is_of u k)) L.caps h.caps; entries = h.entries }
  removed-were (Entries e) L h = record { caps = h.caps; entries = each-filter (Was IsEntries) (λ k. not (is_of e k)) L.entries h.entries }

  pub found-were : (of : ReviewOf ℕ) (L : Lists) → WereLists G L → IfSome (was_in L of) (λ (ps : List Pair). ps ≡ list_of G of)
  found-were (Caps u) L h = were-found IsCaps u L.caps h.caps
  found-were (Entries e) L h = were-found IsEntries e L.entries h.entries
