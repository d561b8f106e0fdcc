-- Looking into an object of present members, and what makes it fair.
use Rattle.std.proofs.Common.{◌≡◌, ◌≤◌, arith, ℕ, List, [], ◌∷◌, ◌&&◌, Bool, true, Option, None, Some, refl, sym, ap, ◌∙◌}
use Rattle.std.proofs.lemmas.Bool.{and_parts, and_from}
use Rattle.std.proofs.Math.Path.{fun_ext}
use Rattle.std.specs.Ordering.{nat_cmp, match_ordering, is_gt}
use Rattle.std.specs.Cmp.Lexicographic.{slice_cmp}
use Rattle.std.specs.declared.cmp.Ordering.{Ordering}
use Rattle.std.specs.declared.cmp.Ordering.TheVariants.{Less, Equal, Greater}
use Rattle.json.proofs.Printed.Utf8.{are_ascii, IsUtf8-are_ascii}
use Rattle.serde_json.specs.Data.{Data, object, depth, members_depth}
use Rattle.serde_json.specs.Find.{get_member}
use Rattle.pm_model.specs.Object.{present}
use Rattle.pm_model.specs.Forms.{looking}
use Rattle.pm_print.proofs.Fair.{all_above, IsFair, MembersFair}

abbrev pub or_else : Option Data → Option Data → Option Data
or_else None o = o
or_else (Some d) o = Some d

pub or_none : (o : Option Data) → or_else o None ≡ o
or_none None = refl
or_none (Some d) = refl

-- the value at the key, among members that may be absent
abbrev pub find : List ℕ → List (List ℕ × Option Data) → Option Data
find k [] = None
find k (f ∷ fs) = match_ordering (slice_cmp nat_cmp k f.0) (find k fs) (or_else f.1 (find k fs)) (find k fs)

same_either : (o : Ordering) (a : Option Data) → match_ordering o a a a ≡ a
same_either Less a = refl
same_either Equal a = refl
same_either Greater a = refl

pub get-present : (k : List ℕ) (fs : List (List ℕ × Option Data)) → get_member k (present fs) ≡ find k fs
get-present k [] = refl
get-present k ((l, None) ∷ fs) = get-present k fs ∙ sym (same_either (slice_cmp nat_cmp k l) (find k fs))
get-present k ((l, Some d) ∷ fs) = ap (λ (o : Option Data). match_ordering (slice_cmp nat_cmp k l) o (Some d) o) (get-present k fs)

abbrev pub finding : List (List ℕ × Option Data) → List ℕ → Option Data
finding fs k = find k fs

pub looks : (fs : List (List ℕ × Option Data)) → looking (object (present fs)) ≡ finding fs
looks fs = fun_ext (λ k. get-present k fs)

-- ---- order of keys

abbrev pub keys_above : List ℕ → List (List ℕ × Option Data) → Bool
keys_above k [] = true
keys_above k (f ∷ fs) = is_gt (slice_cmp nat_cmp f.0 k) && keys_above k fs

abbrev pub in_order : List (List ℕ × Option Data) → Bool
in_order [] = true
in_order (f ∷ fs) = (are_ascii f.0 && keys_above f.0 fs) && in_order fs

-- the value is fair and no deeper than this, where it is there
abbrev pub ValueIn : ℕ → Option Data → Type 0
ValueIn n None = Unit {0}
ValueIn n (Some d) = IsFair d × (depth d ≤ n)

abbrev pub ValuesIn : ℕ → List (List ℕ × Option Data) → Type 0
ValuesIn n [] = Unit {0}
ValuesIn n (f ∷ fs) = ValueIn n f.1 × ValuesIn n fs

abbrev pub ValueFair : Option Data → Type 0
ValueFair o = ValueIn 100 o

abbrev pub ValuesFair : List (List ℕ × Option Data) → Type 0
ValuesFair fs = ValuesIn 100 fs

above-present : (k : List ℕ) (fs : List (List ℕ × Option Data)) → keys_above k fs ≡ true → all_above k (present fs) ≡ true
above-present k [] h = refl
above-present k ((l, None) ∷ fs) h = above-present k fs (and_parts (is_gt (slice_cmp nat_cmp l k)) (keys_above k fs) h).1
above-present k ((l, Some d) ∷ fs) h =
    let p = and_parts (is_gt (slice_cmp nat_cmp l k)) (keys_above k fs) h in
    and_from (is_gt (slice_cmp nat_cmp l k)) (all_above k (present fs)) p.0 (above-present k fs p.1)

pub MembersFair-in : (n : ℕ) (fs : List (List ℕ × Option Data)) → in_order fs ≡ true → ValuesIn n fs → MembersFair (present fs)
MembersFair-in n [] h v = tt
MembersFair-in n ((l, None) ∷ fs) h v = MembersFair-in n fs (and_parts (are_ascii l && keys_above l fs) (in_order fs) h).1 v.1
MembersFair-in n ((l, Some d) ∷ fs) h v =
    let p = and_parts (are_ascii l && keys_above l fs) (in_order fs) h in
    let q = and_parts (are_ascii l) (keys_above l fs) p.0 in
    (IsUtf8-are_ascii l q.0, v.0.0, above-present l fs q.1, MembersFair-in n fs p.1 v.1)

pub MembersFair-present : (fs : List (List ℕ × Option Data)) → in_order fs ≡ true → ValuesFair fs → MembersFair (present fs)
MembersFair-present fs h v = MembersFair-in 100 fs h v

pub shallow-in : (n : ℕ) (fs : List (List ℕ × Option Data)) → ValuesIn n fs → members_depth (present fs) ≤ n
shallow-in n [] v = omega arith
shallow-in n ((l, None) ∷ fs) v = shallow-in n fs v.1
shallow-in n ((l, Some d) ∷ fs) v = let a = v.0.1 in let b = shallow-in n fs v.1 in omega (arith, a, b)

pub shallow-present : (fs : List (List ℕ × Option Data)) → ValuesFair fs → members_depth (present fs) ≤ 100
shallow-present fs v = shallow-in 100 fs v
