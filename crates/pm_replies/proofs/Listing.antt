-- A list is read item by item.
use Rattle.std.proofs.Common.{◌≡◌, ◌<◌, ◌+◌, ℕ, List, [], ◌∷◌, ◌++◌, length, get_or, drop, suc, Option, None, Some, option_map, refl, sym, ap, ◌∙◌, append_assoc, add-one, drop-cons}
use Rattle.serde_json.specs.Data.{Data, item}
use Rattle.serde_json.specs.View.{view, items_view}
use Rattle.serde_json.specs.declared.value.Value.{Value}
use Rattle.pm_model.specs.Forms.{list_of}

-- what stands behind these, where it can be read
abbrev pub behind : {A : Type 0} → List A → Option (List A) → Option (List A)
behind done rest = option_map (λ xs. done ++ xs) rest

one_more : {A : Type 0} (done : List A) (x : A) (rest : Option (List A)) → behind (done ++ x ∷ []) rest ≡ behind done (option_map (λ xs. x ∷ xs) rest)
one_more done x None = refl
one_more done x (Some xs) = ap Some (append_assoc done (x ∷ []) xs)

first_item : (vs : List Value) (i : ℕ) (v : Value) → i < length vs → v ≡ get_or vs i v → items_view (drop i vs) ≡ item (view v) (items_view (drop (i + 1) vs))
first_item vs i v within is = rw (add-one i, drop-cons vs i v within) (ap (λ (w : Value). item (view w) (items_view (drop (suc i) vs))) (sym is))

-- an item that has the form comes to those that were read
pub behind_next : {A : Type 0} (form : Data → Option A) (done : List A) (vs : List Value) (i : ℕ) (v : Value) (x : A) (whole : Option (List A))
    → i < length vs → v ≡ get_or vs i v → form (view v) ≡ Some x → behind done (list_of form (items_view (drop i vs))) ≡ whole
    → behind (done ++ x ∷ []) (list_of form (items_view (drop (i + 1) vs))) ≡ whole
behind_next form done vs i v x whole within is formed before =
    let split = first_item vs i v within is in
    one_more done x (list_of form (items_view (drop (i + 1) vs))) ∙ (rw (split, formed) at before)
