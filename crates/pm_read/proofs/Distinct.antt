-- A list of names without its repeats.
use Rattle.std.proofs.Common.{◌≡◌, ◌<◌, ◌+◌, ℕ, List, length, take, get_or, [], ◌∷◌, ◌++◌, Bool, true, false, not, filter, bytes_eq, if◌then◌else◌, refl, sym, ap, ◌∙◌, append-nil, inl, inr}
use Rattle.std.proofs.lemmas.Bool.{cases_Bool}
use Rattle.std.proofs.lemmas.List.{take_more}
use Rattle.std.proofs.lemmas.List.Elements.{filter-append}
use Rattle.std.proofs.lemmas.Map.Views.{any-filter_same}
use Rattle.std.proofs.lemmas.Slice.Eq.{bytes_eq-Decides}
use Rattle.std.specs.Cmp.{both_ways}
use Rattle.std.specs.List.{list_any}
use Rattle.pm_model.specs.Forms.{distinct}

-- those that aren't this one
abbrev pub others : List ℕ → List (List ℕ) → List (List ℕ)
others m ns = filter (λ n. not (bytes_eq m n)) ns

-- with the name at the end, where it isn't there
abbrev pub with_last : List (List ℕ) → List ℕ → List (List ℕ)
with_last ns n = if list_any (bytes_eq n) ns then ns else ns ++ n ∷ []

pub same_names : (m n : List ℕ) → bytes_eq n m ≡ bytes_eq m n
same_names m n =
    both_ways _ _ (λ h. (bytes_eq-Decides m n).1 (sym ((bytes_eq-Decides n m).0 h))) (λ h. (bytes_eq-Decides n m).1 (sym ((bytes_eq-Decides m n).0 h)))

kept : (m n k : List ℕ) → bytes_eq m n ≡ false → bytes_eq n k ≡ true → not (bytes_eq m k) ≡ true
kept m n k differ same = let e = (bytes_eq-Decides n k).0 same in rw (sym e, differ) refl

pub any_other : (m n : List ℕ) (ns : List (List ℕ)) → bytes_eq m n ≡ false → list_any (bytes_eq n) (others m ns) ≡ list_any (bytes_eq n) ns
any_other m n ns differ = any-filter_same (bytes_eq n) (λ k. not (bytes_eq m k)) true (λ k same. kept m n k differ same) ns

-- a name at the end of the others is the first one, and goes
last_gone : (m n : List ℕ) (ns : List (List ℕ)) → bytes_eq m n ≡ true → others m (ns ++ n ∷ []) ≡ others m ns
last_gone m n ns same = filter-append _ ns (n ∷ []) ∙ (rw same (append-nil _))

-- or another one, and stays
last_kept : (m n : List ℕ) (ns : List (List ℕ)) → bytes_eq m n ≡ false → others m (ns ++ n ∷ []) ≡ others m ns ++ n ∷ []
last_kept m n ns differ = filter-append _ ns (n ∷ []) ∙ (rw differ refl)

gone : (m n : List ℕ) (ns : List (List ℕ)) (b : Bool) → bytes_eq m n ≡ true → others m (if b then ns else ns ++ n ∷ []) ≡ others m ns
gone m n ns true same = refl
gone m n ns false same = last_gone m n ns same

stays : (m n : List ℕ) (ns : List (List ℕ)) (b : Bool) → bytes_eq m n ≡ false →
    m ∷ others m (if b then ns else ns ++ n ∷ []) ≡ (if b then m ∷ others m ns else (m ∷ others m ns) ++ n ∷ [])
stays m n ns true differ = refl
stays m n ns false differ = ap (λ l. m ∷ l) (last_kept m n ns differ)

step : (m n : List ℕ) (ns : List (List ℕ)) → m ∷ others m (with_last ns n) ≡ with_last (m ∷ others m ns) n
step m n ns = elim (cases_Bool (bytes_eq m n)) [
  | inl same ↦ let e = same_names m n ∙ same in rw e (ap (λ l. m ∷ l) (gone m n ns (list_any (bytes_eq n) ns) same))
  | inr differ ↦ let e = same_names m n ∙ differ in let a = any_other m n ns differ in rw (e, a) (stays m n ns (list_any (bytes_eq n) ns) differ)
]

-- one name more
pub distinct-last : (ns : List (List ℕ)) (n : List ℕ) → distinct (ns ++ n ∷ []) ≡ with_last (distinct ns) n
distinct-last [] n = refl
distinct-last (m ∷ ns) n = ap (λ l. m ∷ others m l) (distinct-last ns n) ∙ step m n (distinct ns)

-- the names up to a place, and the one that stands there
next : (ns : List (List ℕ)) (i : ℕ) (n : List ℕ) → i < length ns → n ≡ get_or ns i n → distinct (take (i + 1) ns) ≡ with_last (distinct (take i ns)) n
next ns i n within is = ap distinct (take_more ns i n within) ∙ rw (sym is) (distinct-last (take i ns) n)

pub next_seen : (ns done : List (List ℕ)) (i : ℕ) (n : List ℕ) → i < length ns → n ≡ get_or ns i n → done ≡ distinct (take i ns) →
    list_any (bytes_eq n) done ≡ true → done ≡ distinct (take (i + 1) ns)
next_seen ns done i n within is before seen = rw (next ns i n within is, sym before, seen) refl

pub next_new : (ns done : List (List ℕ)) (i : ℕ) (n : List ℕ) → i < length ns → n ≡ get_or ns i n → done ≡ distinct (take i ns) →
    list_any (bytes_eq n) done ≡ false → done ++ n ∷ [] ≡ distinct (take (i + 1) ns)
next_new ns done i n within is before new = rw (next ns i n within is, sym before, new) refl
