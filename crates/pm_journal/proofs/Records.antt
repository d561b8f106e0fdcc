-- Records one behind another.
use Rattle.std.proofs.Common.{◌≡◌, ◌≢◌, ℕ, zero, suc, ◌+◌, ◌-◌, ◌<◌, ◌≤◌, Bool, true, false, List, [], ◌∷◌, ◌++◌, length, take, drop, nat_lt, if◌then◌else◌, Option, None, Some, option_map, refl, sym, ◌∙◌, ap, subst, arith, append_assoc, length-append}
use Rattle.std.proofs.lemmas.Bool.Decides.{nat_tests}
use Rattle.std.proofs.lemmas.Bool.{cases_eq}
use Rattle.std.proofs.lemmas.List.{drop_all, drop_at, drop-append-le}
use Rattle.pm_model.specs.Formed.{Each}
use Rattle.pm_journal.specs.Notes.{Note, IsNote, size, note_of, notes_in}
use Rattle.pm_journal.specs.Images.{IsBody}
use Rattle.pm_journal.proofs.Bodies.{size_before, note_before}

-- what a list of records begins with
pub record Begins (k : ℕ) (bytes : List ℕ) (notes : List Note) : Type 0 where
  pub whole : size bytes ≤ length bytes
  pub more : List Note
  pub rest : notes_in k (drop (size bytes) bytes) ≡ Some more
  pub notes_are : notes ≡ note_of bytes ∷ more

mapped : {A B : Type 0} (f : A → B) (o : Option A) (y : B) → option_map f o ≡ Some y → (x : A) × (o ≡ Some x) × (y ≡ f x)
mapped f None y is = absurd (cc (is))
mapped f (Some x) y is = (x, refl, cc (is))

split : (k : ℕ) (bytes : List ℕ) (notes : List Note) (b : Bool) → nat_lt (length bytes) (size bytes) ≡ b
    → (if b then None else option_map (λ (ns : List Note). note_of bytes ∷ ns) (notes_in k (drop (size bytes) bytes))) ≡ Some notes → Begins k bytes notes
split k bytes notes true short is = absurd (cc (is))
split k bytes notes false long is =
    let m = mapped (λ (ns : List Note). note_of bytes ∷ ns) (notes_in k (drop (size bytes) bytes)) notes is in
    record { whole = grind (arith, nat_tests); more = m.0; rest = m.1; notes_are = m.2 }

pub begins : (k g : ℕ) (bytes : List ℕ) (notes : List Note) → notes_in (suc k) (suc g ∷ bytes) ≡ Some notes → Begins k bytes notes
begins k g bytes notes is = split k bytes notes (nat_lt (length bytes) (size bytes)) refl is

joined : (k : ℕ) (bytes : List ℕ) (more : List Note) (b : Bool) → nat_lt (length bytes) (size bytes) ≡ b → size bytes ≤ length bytes → notes_in k (drop (size bytes) bytes) ≡ Some more
    → (if b then None else option_map (λ (ns : List Note). note_of bytes ∷ ns) (notes_in k (drop (size bytes) bytes))) ≡ Some (note_of bytes ∷ more)
joined k bytes more true short whole rest = absurd (grind (arith, nat_tests))
joined k bytes more false long whole rest = ap (option_map (λ (ns : List Note). note_of bytes ∷ ns)) rest

-- a record, and others behind it
pub begun : (k g : ℕ) (bytes : List ℕ) (more : List Note) → size bytes ≤ length bytes → notes_in k (drop (size bytes) bytes) ≡ Some more → notes_in (suc k) (suc g ∷ bytes) ≡ Some (note_of bytes ∷ more)
begun k g bytes more whole rest = joined k bytes more (nat_lt (length bytes) (size bytes)) refl whole rest

-- one more record, whose gate is open
pub one_more : (k g : ℕ) (bytes b : List ℕ) (notes : List Note) → notes_in k bytes ≡ Some notes → IsBody b → notes_in (suc k) (bytes ++ suc g ∷ b) ≡ Some (notes ++ note_of b ∷ [])
one_more zero g [] b notes is body =
    let none : [] ≡ notes = cc (is) in
    let end : drop (size b) b ≡ [] = drop_all (size b) b (omega (arith, body.whole)) in
    begun zero g b [] (omega (arith, body.whole)) (ap (notes_in zero) end) ∙ ap (λ (ns : List Note). Some (ns ++ note_of b ∷ [])) none
one_more zero g (x ∷ bytes) b notes is body = absurd (cc (is))
one_more (suc k) g [] b notes is body = absurd (cc (is))
one_more (suc k) g (zero ∷ bytes) b notes is body = absurd (cc (is))
one_more (suc k) g (suc h ∷ bytes) b notes is body =
    let first = begins k h bytes notes is in
    let tail = suc g ∷ b in
    let size_is : size (bytes ++ tail) ≡ size bytes = size_before bytes tail (omega (arith, first.whole)) in
    let note_is : note_of (bytes ++ tail) ≡ note_of bytes = note_before bytes tail first.whole in
    let rest_is : drop (size (bytes ++ tail)) (bytes ++ tail) ≡ drop (size bytes) bytes ++ tail =
    ap (λ (n : ℕ). drop n (bytes ++ tail)) size_is ∙ drop-append-le (size bytes) bytes tail first.whole in
    let rest = ap (notes_in (suc k)) rest_is ∙ one_more k g (drop (size bytes) bytes) b first.more first.rest body in
    let all = begun (suc k) h (bytes ++ tail) (first.more ++ note_of b ∷ []) (omega (arith, size_is, first.whole, length-append bytes tail)) rest in
    all ∙ ap (λ (n : Note). Some (n ∷ (first.more ++ note_of b ∷ []))) note_is ∙ ap (λ (ns : List Note). Some (ns ++ note_of b ∷ [])) (sym first.notes_are)

pub lines_more : (notes : List Note) (note : Note) → Each IsNote notes → IsNote note → Each IsNote (notes ++ note ∷ [])
lines_more [] note all last = (last, all)
lines_more (n ∷ notes) note all last = (all.0, lines_more notes note all.1 last)

-- as many notes as records
pub as_many : (k : ℕ) (bytes : List ℕ) (notes : List Note) → notes_in k bytes ≡ Some notes → length notes ≡ k
as_many zero [] notes is = let none : [] ≡ notes = cc (is) in ap length (sym none)
as_many zero (x ∷ bytes) notes is = absurd (cc (is))
as_many (suc k) [] notes is = absurd (cc (is))
as_many (suc k) (zero ∷ bytes) notes is = absurd (cc (is))
as_many (suc k) (suc h ∷ bytes) notes is =
    let first = begins k h bytes notes is in
    ap length first.notes_are ∙ ap suc (as_many k (drop (size bytes) bytes) first.more first.rest)
