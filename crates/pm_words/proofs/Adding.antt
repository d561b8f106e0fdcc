-- What a loop over the list has made, with one item more.
use Rattle.std.proofs.Common.{◌≡◌, ◌∙◌, ◌+◌, ◌<◌, ℕ, List, [], ◌∷◌, ◌++◌, ap, append_assoc, fold, get_or, length, map, sym, take}
use Rattle.std.proofs.lemmas.List.{map-append, map_more}
use Rattle.std.proofs.lemmas.List.Sums.{fold-append}

pub fold_more : {X A B : Type 0} (f : B → A → B) (b : B) (g : X → A) (xs : List X) (i : ℕ) (d : X) → i < length xs
    → fold f b (map g (take (i + 1) xs)) ≡ f (fold f b (map g (take i xs))) (g (get_or xs i d))
fold_more f b g xs i d lt = ap (fold f b) (map_more g xs i d lt) ∙ fold-append f b (map g (take i xs)) (g (get_or xs i d) ∷ [])

pub map_twice_more : {X A B : Type 0} (f : A → B) (g : X → A) (xs : List X) (i : ℕ) (d : X) → i < length xs
    → map f (map g (take (i + 1) xs)) ≡ map f (map g (take i xs)) ++ f (g (get_or xs i d)) ∷ []
map_twice_more f g xs i d lt = ap (map f) (map_more g xs i d lt) ∙ map-append f (map g (take i xs)) (g (get_or xs i d) ∷ [])

-- one more behind others
pub behind_more : {X A : Type 0} (before : List A) (g : X → A) (xs : List X) (i : ℕ) (d : X) → i < length xs
    → before ++ map g (take (i + 1) xs) ≡ (before ++ map g (take i xs)) ++ g (get_or xs i d) ∷ []
behind_more before g xs i d lt =
    ap (λ behind. before ++ behind) (map_more g xs i d lt) ∙ sym (append_assoc before (map g (take i xs)) (g (get_or xs i d) ∷ []))

pub map_one_more : {A B : Type 0} (f : A → B) (xs ys : List A) (x : A) → ys ≡ xs ++ x ∷ [] → map f xs ++ f x ∷ [] ≡ map f ys
map_one_more f xs ys x more = sym (ap (map f) more ∙ map-append f xs (x ∷ []))
