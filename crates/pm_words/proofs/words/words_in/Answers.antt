use Rattle.std.proofs.Common.{◌≡◌, ◌∙◌, ◌<◌, ℕ, List, [], ◌∷◌, ◌++◌, Option, None, Some, arith, refl, sym, ap, drop, length}
use Rattle.std.specs.Prelude.{IsSome}
use Rattle.std.specs.Option.{option_to_list}
use Rattle.std.specs.Vec.Iter.{into_iter_items, into_iter_len}
use Rattle.std.proofs.lemmas.Result.{IfOk-weaker}
use Rattle.std.proofs.lemmas.Iterator.{items_from_collect}
use Rattle.std.proofs.lemmas.Iterator.Adapters.{YieldsList-from_vec}
use Rattle.pm_words.proofs.words.words_in.Goals as goal

behind_first : {X : Type 0} (items left : List X) (first : Option X) (n : ℕ) → n ≡ length items → items ≡ option_to_list first ++ left → (0 < n → IsSome first)
    → left ≡ drop 1 items
behind_first [] left None n len is some = sym is
behind_first (x ∷ xs) left None n len is some = absurd (cc (some (omega (arith, len))))
behind_first items left (Some x) n len is some = sym (ap (drop 1) is)

pub returns : goal.returns
returns c =
    let left = c.next-name.new.self in
    let next = c.next-name.ensures in
    let behind = behind_first (into_iter_items c.args.args) (into_iter_items left) c.next-name.result (into_iter_len c.args.args) c.args.args.rest.ok.0 next.items next.variant.1 in
    let items = items_from_collect c.collect.result c.collect.ensures.ran (YieldsList-from_vec {s = left} (into_iter_items left) refl left.rest.ok.0) in
    IfOk-weaker c.collect.result _ _ (λ words is. is ∙ behind) items
