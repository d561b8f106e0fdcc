-- A list that is written item by item: what stands of it so far, and one item more.
use Rattle.std.proofs.Common.{◌≡◌, ℕ, zero, suc, min, ◌+◌, ◌<◌, ◌≤◌, Bool, true, false, List, [], ◌∷◌, ◌++◌, length, length-append, take, get_or, map, nat_lt, Some, lt-ltb, refl, sym, ap, ◌∙◌, arith, append_assoc, append-nil}
use Rattle.std.proofs.lemmas.Grind.{common_steps}
use Rattle.std.specs.List.{zip}
use Rattle.serde_json.specs.Data.{Data}
use Rattle.serde_json.specs.Written.{compact_text, comma_if, items_text}
use Rattle.pm_model.specs.Object.{items_of, listed}
use Rattle.pm_print.specs.Members.{item_text, items_front, keyed, trailing}

join : (a b c d : List ℕ) → a ++ (b ++ (c ++ d)) ≡ ((a ++ b) ++ c) ++ d
join a b c d = simp append_assoc

text-items : (later : Bool) (ds : List Data) → items_text later (items_of ds) ≡ items_front later ds ++ 93 ∷ []
text-items later [] = refl
text-items later (d ∷ ds) =
    ap (λ t. comma_if later ++ (compact_text d ++ t)) (text-items true ds) ∙ join (comma_if later) (compact_text d) (items_front true ds) (93 ∷ [])

-- the text of a list behind its opening bracket
pub listed_text : (ds : List Data) → items_text false (items_of ds) ≡ items_front false ds ++ 93 ∷ []
listed_text ds = text-items false ds

-- the member that is a list, with its comma
pub list_member : (key : List ℕ) (ds : List Data) → trailing key (Some (listed ds)) ≡ keyed key ++ (91 ∷ (items_front false ds ++ 93 ∷ 44 ∷ []))
unfolding trailing
list_member key ds =
    ap (λ t. keyed key ++ 91 ∷ (t ++ 44 ∷ [])) (listed_text ds)
    ∙ ap (λ t. keyed key ++ 91 ∷ t) (append_assoc (items_front false ds) (93 ∷ []) (44 ∷ []))

-- the list
pub list_text : (ds : List Data) → compact_text (listed ds) ≡ 91 ∷ (items_front false ds ++ 93 ∷ [])
list_text ds = ap (λ t. 91 ∷ t) (listed_text ds)

-- one item more
last-behind : (ds : List Data) (d : Data) → items_front true (ds ++ d ∷ []) ≡ items_front true ds ++ item_text true d
last-behind [] d = append-nil (item_text true d)
last-behind (e ∷ ds) d = ap (λ t. item_text true e ++ t) (last-behind ds d) ∙ sym (append_assoc (item_text true e) (items_front true ds) (item_text true d))

last : (ds : List Data) (d : Data) → items_front false (ds ++ d ∷ []) ≡ items_front false ds ++ item_text (nat_lt 0 (length ds)) d
last [] d = append-nil (item_text false d)
last (e ∷ ds) d =
    let later : nat_lt 0 (length (e ∷ ds)) ≡ true = lt-ltb 0 (suc (length ds)) (omega arith) in
    rw later (ap (λ t. item_text false e ++ t) (last-behind ds d) ∙ sym (append_assoc (item_text false e) (items_front true ds) (item_text true d)))

mapped : {X : Type 0} (f : X → Data) (xs : List X) (i : ℕ) (x : X) → i < length xs → map f (take (i + 1) xs) ≡ map f (take i xs) ++ f (get_or xs i x) ∷ []
mapped f xs i x within = grind (arith, common_steps)

pub items_more : {X : Type 0} (f : X → Data) (xs : List X) (i : ℕ) (x : X) → i < length xs → x ≡ get_or xs i x →
    items_front false (map f (take (i + 1) xs)) ≡ items_front false (map f (take i xs)) ++ item_text (nat_lt 0 i) (f x)
items_more f xs i x within is =
    let n : length (map f (take i xs)) ≡ i = grind (arith, common_steps) in
    ap (items_front false) (mapped f xs i x within) ∙ (last (map f (take i xs)) (f (get_or xs i x)) ∙ rw (n, sym is) refl)

-- what stands of it so far is no longer than the whole
pub front_within : {X : Type 0} (f : X → Data) (later : Bool) (i : ℕ) (xs : List X) →
    length (items_front later (map f (take i xs))) ≤ length (items_front later (map f xs))
front_within f later zero xs = omega arith
front_within f later (suc i) [] = omega arith
front_within f later (suc i) (x ∷ xs) =
    let rest = front_within f true i xs in
    let a = length-append (item_text later (f x)) (items_front true (map f (take i xs))) in
    let b = length-append (item_text later (f x)) (items_front true (map f xs)) in
    omega (arith, rest, a, b)

-- two lists side by side, at a place that both have
zip_at : (us cs : List ℕ) (i u c : ℕ) → i < length us → i < length cs →
    (i < length (zip us cs)) × (get_or (zip us cs) i (u, c) ≡ (get_or us i u, get_or cs i 0))
zip_at [] cs i u c first second = absurd (omega (arith, first))
zip_at (x ∷ us) [] i u c first second = absurd (omega (arith, second))
zip_at (x ∷ us) (y ∷ cs) zero u c first second = (omega arith, refl)
zip_at (x ∷ us) (y ∷ cs) (suc i) u c first second =
    let rest = zip_at us cs i u c (omega (arith, first)) (omega (arith, second)) in (omega (arith, rest.0), rest.1)

-- what stands there, by what stands in the first list
pub zip_item : (us cs : List ℕ) (i u : ℕ) → i < length us → i < length cs → u ≡ get_or us i u →
    (i < length (zip us cs)) × ((u, get_or cs i 0) ≡ get_or (zip us cs) i (u, get_or cs i 0))
zip_item us cs i u first second is =
    let at = zip_at us cs i u (get_or cs i 0) first second in (at.0, ap (λ v. (v, get_or cs i 0)) is ∙ sym at.1)

-- both together are as long as the shorter one
pub counted : (us cs : List ℕ) → length (zip us cs) ≡ min (length us) (length cs)
counted [] cs = omega arith
counted (x ∷ us) [] = omega arith
counted (x ∷ us) (y ∷ cs) = let rest = counted us cs in omega (arith, rest)
