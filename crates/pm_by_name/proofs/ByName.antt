-- What has names, sorted by these as keys.
use Rattle.std.proofs.Common.{◌≡◌, ℕ, true, false, ◌&&◌, bytes_eq, List, [], map, get_or, refl, ◌∙◌, ap}
use Rattle.std.specs.Cmp.Lexicographic.{slice_cmp}
use Rattle.std.specs.Ordering.{is_eq, is_lt, match_ordering, nat_cmp, ordering_then}
use Rattle.std.specs.declared.cmp.Ordering.{Ordering}
use Rattle.std.specs.declared.cmp.Ordering.TheVariants.{Less, Equal, Greater}
use Rattle.std.proofs.lemmas.Map.Text.{is_eq-slice_cmp}
use Rattle.pm_policy.specs.Order.{leads_before, sorted, stands_before}
use Rattle.pm_policy.specs.Policy.{is_called, is_same}
use Rattle.pm_policy.specs.Requests.{joins_before}
use Rattle.pm_policy.specs.Sound.{AreOnce, AreOnceAssigned, AreOnceCalled, has_ends}
use Rattle.pm_policy.specs.declared.policy.DocAssignment.{DocAssignment}
use Rattle.pm_policy.specs.declared.policy.DocAssociation.{DocAssociation}
use Rattle.pm_policy.specs.declared.policy.DocElement.{DocElement}
use Rattle.pm_by_name.specs.Keyed.{association_in, assignment_key, by_bytes, cmp_both, cmp_bytes, element_key, ends_key, have_one_key, places_by}
use Rattle.pm_by_name.proofs.Places.{once_same, places_sorted}

below-lt : (o : Ordering) → match_ordering o true false false ≡ is_lt o
below-lt Less = refl
below-lt Equal = refl
below-lt Greater = refl

pub then-lt : (o q : Ordering) → match_ordering o true (match_ordering q true false false) false ≡ is_lt (ordering_then o q)
then-lt Less q = refl
then-lt Equal q = below-lt q
then-lt Greater q = refl

then-eq : (o q : Ordering) → is_eq (ordering_then o q) ≡ (is_eq o && is_eq q)
then-eq Less q = refl
then-eq Equal q = refl
then-eq Greater q = refl

pub both-eq : (a b c d : List ℕ) → is_eq (cmp_both (by_bytes a, by_bytes b) (by_bytes c, by_bytes d)) ≡ (bytes_eq a c && bytes_eq b d)
both-eq a b c d =
    then-eq (slice_cmp nat_cmp a c) (slice_cmp nat_cmp b d) ∙ ap (λ t. t && is_eq (slice_cmp nat_cmp b d)) (is_eq-slice_cmp a c)
    ∙ ap (λ t. bytes_eq a c && t) (is_eq-slice_cmp b d)

-- ---- keys that are equal

pub elements_once : (es : List DocElement) → AreOnceCalled es → AreOnce (have_one_key cmp_bytes element_key) es
elements_once es once = once_same (λ (d e : DocElement). is_called d.name e) (have_one_key cmp_bytes element_key) (λ d e. is_eq-slice_cmp d.name e.name) es once

pub assignments_once : (ps : List DocAssignment) → AreOnceAssigned ps → AreOnce (have_one_key cmp_both assignment_key) ps
assignments_once ps once = once_same is_same (have_one_key cmp_both assignment_key) (λ p q. both-eq p.from p.to q.from q.to) ps once

pub associations_once : (xs : List DocAssociation) → AreOnce has_ends xs → AreOnce (have_one_key cmp_both ends_key) xs
associations_once xs once = once_same has_ends (have_one_key cmp_both ends_key) (λ a b. both-eq a.ua a.at b.ua b.at) xs once

-- ---- the items by the places

pub elements_sorted : (es : List DocElement) (d : DocElement) → map (λ k. get_or es k d) (places_by cmp_bytes element_key es) ≡ sorted stands_before es
elements_sorted es d = places_sorted cmp_bytes element_key stands_before (λ x y. below-lt (slice_cmp nat_cmp x.name y.name)) d es

pub assignments_sorted : (ps : List DocAssignment) (d : DocAssignment) → map (λ k. get_or ps k d) (places_by cmp_both assignment_key ps) ≡ sorted leads_before ps
assignments_sorted ps d =
    places_sorted cmp_both assignment_key leads_before (λ p q. then-lt (slice_cmp nat_cmp p.from q.from) (slice_cmp nat_cmp p.to q.to)) d ps

pub associations_sorted : (xs : List DocAssociation) → map (association_in xs) (places_by cmp_both ends_key xs) ≡ sorted joins_before xs
associations_sorted xs =
    places_sorted cmp_both ends_key joins_before (λ a b. then-lt (slice_cmp nat_cmp a.ua b.ua) (slice_cmp nat_cmp a.at b.at))
    (record { ua = []; rights = []; at = [] }) xs
