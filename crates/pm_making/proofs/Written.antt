-- Lines that are written one after another.
use Rattle.std.proofs.Common.{◌≡◌, ◌<◌, ◌+◌, ℕ, List, [], ◌∷◌, ◌++◌, length, map, take, get_or, None, Option, Some, option_map, Result, Ok, Err, refl, sym, ◌∙◌, ap, subst, append_assoc}
use Rattle.std.specs.Prelude.{⊤}
use Rattle.std.specs.Result.{OnOk, OnErr}
use Rattle.std.proofs.lemmas.List.{append-nil, take_more}
use Rattle.std.proofs.Math.Seq.{take-append_seam, take-length}
use Rattle.pm_model.specs.declared.requests.Command.{Command}
use Rattle.pm_model.specs.declared.requests.Command.TheVariants as command
use Rattle.pm_by_name.specs.Keyed.{association_in}
use Rattle.pm_order.specs.Ranked.{turn}
use Rattle.pm_policy.specs.Order.{order, sorted}
use Rattle.pm_policy.specs.Requests.{asked, assign, associate, by_name, create, created_in, first_assignment, joins_before, others, prohibit}
use Rattle.pm_policy.specs.declared.policy.DocAssignment.{DocAssignment}
use Rattle.pm_policy.specs.declared.policy.DocElement.{DocElement}
use Rattle.pm_policy.specs.declared.policy.Policy.{Policy}
use Rattle.pm_print.specs.Requested.{request_text}
use Rattle.pm_making.specs.Lines.{created_into, creating, document_lines, lines_of, ArePartsOf}
use Rattle.pm_making.specs.declared.lines.Parts.{Parts}

-- ---- what stood stands

pub front_itself : (xs : List ℕ) → take (length xs) xs ≡ xs
front_itself xs = take-length xs

pub front-told : {E : Type 0} (r : Result ⊤ E) (old new text : List ℕ) → OnOk r (new ≡ old ++ text) → OnErr r (new ≡ old) → take (length old) new ≡ old
front-told (Ok u) old new text ok err = ap (λ l. take (length old) l) ok ∙ take-append_seam old text
front-told (Err e) old new text ok err = ap (λ l. take (length old) l) err ∙ take-length old

front-less : (xs ys zs : List ℕ) → take (length (xs ++ ys)) zs ≡ xs ++ ys → take (length xs) zs ≡ xs
front-less [] ys zs h = refl
front-less (x ∷ xs) ys [] h = absurd (cc)
front-less (x ∷ xs) ys (z ∷ zs) h =
    let head : z ≡ x = cc in
    let rest : take (length (xs ++ ys)) zs ≡ xs ++ ys = cc in
    let less = front-less xs ys zs rest in cc

-- what is taken back after a failure
both-ok : {E : Type 0} (r : Result ⊤ E) (old mid new text : List ℕ) → OnOk r (new ≡ mid) → OnOk r (mid ≡ old ++ text) → OnOk r (new ≡ old ++ text)
both-ok (Ok u) old mid new text a b = a ∙ b
both-ok (Err e) old mid new text a b = tt

pub whole-ok : {E : Type 0} (r w : Result ⊤ E) (old mid new text : List ℕ) → r ≡ w → OnOk r (new ≡ mid) → OnOk w (mid ≡ old ++ text) → OnOk r (new ≡ old ++ text)
whole-ok r w old mid new text same a b = both-ok r old mid new text a (subst (λ s. OnOk s (mid ≡ old ++ text)) (sym same) b)

-- what stood before something was written, too
pub front_then : (old some mid new : List ℕ) → mid ≡ old ++ some → take (length mid) new ≡ mid → take (length old) new ≡ old
front_then old some mid new is h = front-less old some new (subst (λ l. take (length l) new ≡ l) is h)

-- ---- lines one after another

pub lines-append : (xs ys : List Command) → lines_of (xs ++ ys) ≡ lines_of xs ++ lines_of ys
lines-append [] ys = refl
lines-append (x ∷ xs) ys = ap (λ l. request_text None (asked x) ++ l) (lines-append xs ys) ∙ sym (append_assoc (request_text None (asked x)) (lines_of xs) (lines_of ys))

-- the line of one item more
pub line-more : {X : Type 0} (made_by : X → Command) (done : List X) (x : X) →
    lines_of (map made_by (done ++ x ∷ [])) ≡ lines_of (map made_by done) ++ request_text None (asked (made_by x))
line-more made_by [] x = append-nil (request_text None (asked (made_by x)))
line-more made_by (d ∷ done) x =
    ap (λ l. request_text None (asked (made_by d)) ++ l) (line-more made_by done x)
    ∙ sym (append_assoc (request_text None (asked (made_by d))) (lines_of (map made_by done)) (request_text None (asked (made_by x))))

-- the line of the item at the place behind those before it
pub lines-step : {X : Type 0} (made_by : X → Command) (items : List X) (k : ℕ) (x : X) (old mid new : List ℕ) → k < length items → x ≡ get_or items k x →
    mid ≡ old ++ lines_of (map made_by (take k items)) → new ≡ mid ++ request_text None (asked (made_by x)) →
    new ≡ old ++ lines_of (map made_by (take (k + 1) items))
lines-step {X = X} made_by items k x old mid new below is before written =
    let more : take k items ++ x ∷ [] ≡ take (k + 1) items = ap (λ (y : X). take k items ++ y ∷ []) is ∙ sym (take_more items k x below) in
    let line = request_text None (asked (made_by x)) in
    written ∙ ap (λ l. l ++ line) before ∙ append_assoc old (lines_of (map made_by (take k items))) line
    ∙ ap (λ l. old ++ l) (sym (line-more made_by (take k items) x)) ∙ ap (λ l. old ++ lines_of (map made_by l)) more

map-map : {X Y Z : Type 0} (f : X → Y) (g : Y → Z) (xs : List X) → map g (map f xs) ≡ map (λ x. g (f x)) xs
map-map f g [] = refl
map-map f g (x ∷ xs) = ap (λ l. g (f x) ∷ l) (map-map f g xs)

-- an element is made in the first of its containers
created-same : (e : DocElement) (first : Option DocAssignment) → created_into e (option_map (λ (p : DocAssignment). p.to) first) ≡ created_in e first
created-same e None = refl
created-same e (Some p) = refl

created-turns : (pairs : List DocAssignment) (es : List DocElement) → map creating (map (turn pairs) es) ≡ map (create pairs) es
created-turns pairs [] = refl
created-turns pairs (e ∷ es) =
    let this : creating (turn pairs e) ≡ create pairs e = created-same e (first_assignment pairs e.name) in
    let rest = created-turns pairs es in cc

-- the lines of the parts are those of the document
pub parts-lines : (D : Policy) (p : Parts) → ArePartsOf D p →
    lines_of (map command.DefineRight D.rights) ++ lines_of (map creating p.making.turns.items) ++ lines_of (map assign p.making.others.items)
    ++ lines_of (map (λ k. associate (association_in D.associations k)) p.associations.items) ++ lines_of (map prohibit D.prohibitions)
    ≡ document_lines D
parts-lines D p parts =
    let rights = map command.DefineRight D.rights in
    let creations = map (create (by_name D)) (order (by_name D) D.elements) in
    let assigned = map assign (others D.elements (by_name D)) in
    let associated = map associate (sorted joins_before D.associations) in
    let made : map creating p.making.turns.items ≡ creations = ap (λ l. map creating l) parts.turns ∙ created-turns (by_name D) (order (by_name D) D.elements) in
    let other : map assign p.making.others.items ≡ assigned = ap (λ l. map assign l) parts.others in
    let joined : map (λ k. associate (association_in D.associations k)) p.associations.items ≡ associated =
    sym (map-map (association_in D.associations) associate p.associations.items) ∙ ap (λ l. map associate l) parts.associations in
    rw (made, other, joined)
    (sym (lines-append (rights ++ creations ++ assigned ++ associated) (map prohibit D.prohibitions)
    ∙ ap (λ l. l ++ lines_of (map prohibit D.prohibitions)) (lines-append (rights ++ creations ++ assigned) associated
    ∙ ap (λ l. l ++ lines_of associated) (lines-append (rights ++ creations) assigned
    ∙ ap (λ l. l ++ lines_of assigned) (lines-append rights creations)))))

-- five texts, each behind the one before
pub five : (old a b c d e n1 n2 n3 n4 n5 : List ℕ) → n1 ≡ old ++ a → n2 ≡ n1 ++ b → n3 ≡ n2 ++ c → n4 ≡ n3 ++ d → n5 ≡ n4 ++ e →
    n5 ≡ old ++ (a ++ b ++ c ++ d ++ e)
five old a b c d e n1 n2 n3 n4 n5 h1 h2 h3 h4 h5 =
    behind old (a ++ b ++ c ++ d) e n4 n5 (behind old (a ++ b ++ c) d n3 n4 (behind old (a ++ b) c n2 n3 (behind old a b n1 n2 h1 h2) h3) h4) h5 where
      behind : (old some more mid new : List ℕ) → mid ≡ old ++ some → new ≡ mid ++ more → new ≡ old ++ (some ++ more)
      behind old some more mid new h k = k ∙ ap (λ l. l ++ more) h ∙ append_assoc old some more
