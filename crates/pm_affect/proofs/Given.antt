-- What is left once all lists are made anew, and once one comes or goes.
use Rattle.std.proofs.Common.{◌≡◌, ℕ, true, List, [], ◌∷◌, map, not, refl, sym, subst}
use Rattle.pm_model.specs.Formed.{Each}
use Rattle.pm_model.specs.Reviews.{capabilities, entries, list_of}
use Rattle.pm_model.specs.State.{Graph}
use Rattle.pm_model.specs.declared.reviews.ReviewOf.{ReviewOf}
use Rattle.pm_model.specs.declared.reviews.ReviewOf.TheVariants as of
use Rattle.pm_laws.proofs.Items.{each-filter}
use Rattle.pm_affect.specs.Lists.{Listed, Lists, inserted, is_among, is_of, listing, removed}
use Rattle.pm_affect.proofs.Edits.{each-with}
use Rattle.pm_affect.specs.Right.{AreAmong, AreGiven, AreLists, caps_anew, entries_anew}

-- what each has once it is changed holds of all
each-changed : (P Q : Listed → Type 0) (f : Listed → Listed) → ((k : Listed) → P k → Q (f k)) → (ks : List Listed) → Each P ks → Each Q (map f ks)
each-changed P Q f h [] p = tt
each-changed P Q f h (k ∷ ks) p = (h k p.0, each-changed P Q f h ks p.1)

each-true : (ks : List Listed) → Each (λ k. Unit {0}) ks
each-true [] = tt
each-true (k ∷ ks) = (tt, each-true ks)

module _ (rights : ℕ → ℕ → ℕ) (elements users : List ℕ) (L M : Lists)
    (caps : M.caps ≡ map (caps_anew rights elements) L.caps) (entries_are : M.entries ≡ map (entries_anew rights users) L.entries) where
  pub anew_given : AreGiven rights elements users M
  anew_given = record {
    caps = subst (Each (λ (k : Listed). k.pairs ≡ capabilities rights elements k.subject)) (sym caps)
        (each-changed (λ k. Unit {0}) _ (caps_anew rights elements) (λ k p. refl) L.caps (each-true L.caps));
    entries = subst (Each (λ (k : Listed). k.pairs ≡ entries rights users k.subject)) (sym entries_are)
        (each-changed (λ k. Unit {0}) _ (entries_anew rights users) (λ k p. refl) L.entries (each-true L.entries));
  }

  pub anew_among : AreAmong elements users L → AreAmong elements users M
  anew_among h = record {
    caps = subst (Each (λ (k : Listed). is_among users k.subject ≡ true)) (sym caps)
        (each-changed (λ (k : Listed). is_among users k.subject ≡ true) _ (caps_anew rights elements) (λ k p. p) L.caps h.caps);
    entries = subst (Each (λ (k : Listed). is_among elements k.subject ≡ true)) (sym entries_are)
        (each-changed (λ (k : Listed). is_among elements k.subject ≡ true) _ (entries_anew rights users) (λ k p. p) L.entries h.entries);
  }

-- ---- lists come and go

pub lists_inserted : (G : Graph) (L : Lists) (of : ReviewOf ℕ) → AreLists G L → AreLists G (inserted of (list_of G of) L)
lists_inserted G L (of.Caps u) h = record {
  caps = each-with _ (listing u (list_of G (of.Caps u))) L.caps refl h.caps;
  entries = h.entries;
}
lists_inserted G L (of.Entries e) h = record {
  caps = h.caps;
  entries = each-with _ (listing e (list_of G (of.Entries e))) L.entries refl h.entries;
}

pub lists_removed : (G : Graph) (L : Lists) (of : ReviewOf ℕ) → AreLists G L → AreLists G (removed of L)
lists_removed G L (of.Caps u) h = record { caps = each-filter _ (λ k. not (is_of u k)) L.caps h.caps; entries = h.entries }
lists_removed G L (of.Entries e) h = record { caps = h.caps; entries = each-filter _ (λ k. not (is_of e k)) L.entries h.entries }
