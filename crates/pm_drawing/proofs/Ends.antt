-- Associations in the order of the names of their ends.
use Rattle.std.proofs.Common.{◌≡◌, ◌&&◌, ℕ, Bool, List, [], ◌∷◌, map, bytes_eq, refl, sym, ◌∙◌, ap, subst}
use Rattle.std.specs.Cmp.Lexicographic.{slice_cmp}
use Rattle.std.specs.Ordering.{is_eq, nat_cmp}
use Rattle.std.proofs.lemmas.Map.Text.{is_eq-slice_cmp}
use Rattle.pm_laws.proofs.Items.{each-at, each-from, none-at, none-from}
use Rattle.pm_model.specs.Formed.{Each}
use Rattle.pm_model.specs.State.{name_numbered}
use Rattle.pm_model.specs.declared.elements.Element.{Element}
use Rattle.pm_model.specs.declared.rights.Association.{Association}
use Rattle.pm_by_name.specs.Keyed.{cmp_both, goes_first, has_key_of}
use Rattle.pm_by_name.specs.declared.by_name.ByBytes.{ByBytes}
use Rattle.pm_by_name.proofs.Keyed.{once-map, sorted-map}
use Rattle.pm_policy.specs.Order.{sorted}
use Rattle.pm_policy.specs.Requests.{joins_before}
use Rattle.pm_policy.specs.Sound.{AreOnce, has_ends}
use Rattle.pm_policy.proofs.Ordered.{contains-map, map-contains}
use Rattle.pm_policy.proofs.Sorted.{has-sorted}
use Rattle.pm_drawing.specs.Gathered.{JoinsLive, association_named, ends_entry}
use Rattle.pm_drawing.proofs.Ordering.{then-eq, then-lt}

module _ (es : List Element) (rights : List (List ℕ)) where
  abbrev Entry : Type 0
  Entry = (ByBytes × ByBytes) × Association

  abbrev joins_first : Association → Association → Bool
  joins_first a b = joins_before (association_named es rights a) (association_named es rights b)

  abbrev have_ends : Association → Association → Bool
  have_ends a b = has_ends (association_named es rights a) (association_named es rights b)

  first-same : (a b : Association) → joins_first a b ≡ goes_first cmp_both (ends_entry es a) (ends_entry es b)
  first-same a b =
      then-lt (slice_cmp nat_cmp (name_numbered es a.ua) (name_numbered es b.ua)) (slice_cmp nat_cmp (name_numbered es a.at) (name_numbered es b.at))

  ends-same : (a b : Association) → has_key_of cmp_both (ends_entry es a) (ends_entry es b) ≡ have_ends a b
  ends-same a b =
      then-eq (slice_cmp nat_cmp (name_numbered es a.ua) (name_numbered es b.ua)) (slice_cmp nat_cmp (name_numbered es a.at) (name_numbered es b.at))
      ∙ ap (λ t. t && is_eq (slice_cmp nat_cmp (name_numbered es a.at) (name_numbered es b.at))) (is_eq-slice_cmp (name_numbered es a.ua) (name_numbered es b.ua))
      ∙ ap (λ t. bytes_eq (name_numbered es a.ua) (name_numbered es b.ua) && t) (is_eq-slice_cmp (name_numbered es a.at) (name_numbered es b.at))

  once-back : (xs : List Association) → AreOnce has_ends (map (association_named es rights) xs) → AreOnce have_ends xs
  once-back [] h = tt
  once-back (x ∷ xs) h = (
    none-from (have_ends x) xs (λ y c.
        none-at (has_ends (association_named es rights x)) (map (association_named es rights) xs) (association_named es rights y) h.0
        (contains-map (association_named es rights) xs y c)),
    once-back xs h.1,
  )

  pub ends-once : (xs : List Association) → AreOnce has_ends (map (association_named es rights) xs) → AreOnce (has_key_of cmp_both) (map (ends_entry es) xs)
  ends-once xs h = once-map (ends_entry es) have_ends (has_key_of cmp_both) ends-same xs (once-back xs h)

  map-map : {X Y Z : Type 0} (f : X → Y) (g : Y → Z) (xs : List X) → map g (map f xs) ≡ map (λ x. g (f x)) xs
  map-map f g [] = refl
  map-map f g (x ∷ xs) = ap (λ l. g (f x) ∷ l) (map-map f g xs)

  pub ends-sorted : (xs : List Association) →
      map (association_named es rights) (map (λ (e : Entry). e.1) (sorted (goes_first cmp_both) (map (ends_entry es) xs)))
      ≡ sorted joins_before (map (association_named es rights) xs)
  ends-sorted xs =
      ap (λ l. map (association_named es rights) (map (λ (e : Entry). e.1) l))
      (sym (sorted-map (ends_entry es) joins_first (goes_first cmp_both) xs (λ a b c d. first-same a b)))
      ∙ ap (λ l. map (association_named es rights) l) (map-map (ends_entry es) (λ (e : Entry). e.1) (sorted joins_first xs))
      ∙ map-map (λ (a : Association). a) (association_named es rights) (sorted joins_first xs)
      ∙ sorted-map (association_named es rights) joins_first joins_before xs (λ a b c d. refl)

pub ends-live : (es : List Element) (xs : List Association) → Each (JoinsLive es) xs →
    Each (JoinsLive es) (map (λ (e : (ByBytes × ByBytes) × Association). e.1) (sorted (goes_first cmp_both) (map (ends_entry es) xs)))
ends-live es xs h = each-from (JoinsLive es) _ (λ a c.
    let v = map-contains (λ (e : (ByBytes × ByBytes) × Association). e.1) (sorted (goes_first cmp_both) (map (ends_entry es) xs)) a c in
    let m = map-contains (ends_entry es) xs v.0 (has-sorted (goes_first cmp_both) (map (ends_entry es) xs) v.0 v.1) in
    let same : m.0 ≡ a = ap (λ (e : (ByBytes × ByBytes) × Association). e.1) m.2 ∙ v.2 in
    subst (λ x. JoinsLive es x) same (each-at (JoinsLive es) xs m.0 h m.1))
