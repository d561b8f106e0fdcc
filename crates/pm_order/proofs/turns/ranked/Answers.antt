use Rattle.std.proofs.Common.{rules, ◌≡◌, ◌<◌, ◌∙◌, ap, refl, sym, subst, length, true, false, ◌+◌, ◌-◌, [], ◌∷◌, ◌++◌, get_or, slice_set, None, Some, arith, append_assoc, Contains, vec_len}
use Rattle.std.proofs.lemmas.List.{append-nil, get_or_default, length-set}
use Rattle.pm_order.specs.Ranked.{first_from, ranked, AreFree, IsTaken}
use Rattle.pm_order.proofs.Children.{child_there}
use Rattle.pm_order.proofs.Free.{queued-free, queued-none, taken-first, taken-free, taken-made, AreFreeOf}
use Rattle.pm_order.proofs.Least.{ranked_none, ranked_some}
use Rattle.pm_order.proofs.turns.ranked.Goals as goal

pub loop-init : goal.loop-init
loop-init c =
    let above = c.args.containers.now in (
      search rules,
      queued-free above c.args.made.items c.in_ok-free.free (subst (λ l. AreFree c.in_ok-free.free above l) c.as_slice.ensures.value c.in_ok-free.ensures),
      ap (λ l. l ++ ranked above (c.args.most - 0) c.args.made.items) c.in_ok-out.ensures.items
          ∙ ap (λ n. ranked above n c.args.made.items) (let e : c.args.most - 0 ≡ c.args.most = omega arith in e),
    )

pub index_mut-requires : goal.index_mut-requires
index_mut-requires c =
    let k = c.in-Some.place in
    let next = c.first_unmade.new.places in
    let taken : IsTaken k c.loop.made.items c.loop.free next =
    subst (λ m. IsTaken k m c.loop.free next) c.as_slice-in-loop.ensures.value c.in-Some.ensures.some in
    let free = taken-free c.args.containers.now c.loop.made.items k c.loop.free next c.loop.invariant.1 taken in
    let there = free.0 in
    let len : vec_len c.loop.made ≡ length c.loop.made.items = search rules in
    let many = c.loop.invariant.0 in omega (arith, there, len, many)

pub bounds-children-place : goal.bounds-children-place
bounds-children-place c =
    let k = c.in-Some.place in
    let next = c.first_unmade.new.places in
    let taken : IsTaken k c.loop.made.items c.loop.free next =
    subst (λ m. IsTaken k m c.loop.free next) c.as_slice-in-loop.ensures.value c.in-Some.ensures.some in
    let free = taken-free c.args.containers.now c.loop.made.items k c.loop.free next c.loop.invariant.1 taken in
    let there = free.0 in omega (arith, there, c.requires.count)

pub add_free-requires-clause-places : goal.add_free-requires-clause-places
add_free-requires-clause-places c i h =
    let below = c.args.children.now in
    let k = c.in-Some.place in
    let next = c.first_unmade.new.places in
    let taken : IsTaken k c.loop.made.items c.loop.free next =
    subst (λ m. IsTaken k m c.loop.free next) c.as_slice-in-loop.ensures.value c.in-Some.ensures.some in
    let free = taken-free c.args.containers.now c.loop.made.items k c.loop.free next c.loop.invariant.1 taken in
    let there = free.0 in
    let parent : k < length below = omega (arith, there, c.requires.count) in
    let children : c.as_slice-in-Some-2.result.now ≡ get_or below k [] =
    c.as_slice-in-Some-2.ensures ∙ c.index-children-place.is ∙ get_or_default below k c.index-children-place.result [] parent in
    child_there below c.args.containers.now c.requires.children k i (subst (λ l. Contains l i) children h)

pub returns-in-None : goal.returns-in-None
returns-in-None c =
    let above = c.args.containers.now in
    let made = c.loop.made.items in
    let none : first_from 0 made above ≡ None =
    queued-none above made c.loop.free c.loop.invariant.1
    (subst (λ m. (i : _) → Contains c.loop.free i → get_or m i false ≡ true) c.as_slice-in-loop.ensures.value (c.in-None.ensures.none refl)) in
    sym (append-nil c.loop.out.items)
    ∙ ap (λ l. c.loop.out.items ++ l) (sym (ranked_none above (c.args.most - c.loop.counter) made none)) ∙ c.loop.invariant.2

pub loop-preserved : goal.loop-preserved
loop-preserved c =
    let above = c.args.containers.now in
    let below = c.args.children.now in
    let made = c.loop.made.items in
    let k = c.in-Some.place in
    let next = c.first_unmade.new.places in
    let queued = c.loop.invariant.1 in
    let taken : IsTaken k made c.loop.free next = subst (λ m. IsTaken k m c.loop.free next) c.as_slice-in-loop.ensures.value c.in-Some.ensures.some in
    let some : first_from 0 made above ≡ Some k = taken-first above made k c.loop.free next queued taken in
    let free = taken-free above made k c.loop.free next queued taken in
    let there = free.0 in
    let many = c.loop.invariant.0 in
    let marked : k < length made = omega (arith, there, many) in
    let parent : k < length below = omega (arith, there, c.requires.count) in
    let children : c.as_slice-in-Some-2.result.now ≡ get_or below k [] =
    c.as_slice-in-Some-2.ensures ∙ c.index-children-place.is ∙ get_or_default below k c.index-children-place.result [] parent in
    let n = c.args.most - (c.loop.counter + 1) in
    let test : c.loop.counter < c.args.most = c.loop-test.true in
    let added : AreFreeOf above (slice_set made k true) next (get_or below k []) c.add_free.new.free =
    subst (λ l. AreFreeOf above (slice_set made k true) next l c.add_free.new.free) children
    (subst (λ m. AreFreeOf above m next c.as_slice-in-Some-2.result.now c.add_free.new.free) c.as_slice-in-Some.ensures.value c.in_ok-add_free-in-Some.ensures) in
    let later = ranked above n (slice_set made k true) in (
      length-set made k true ∙ many,
      taken-made above made k marked below c.loop.free next c.add_free.new.free c.requires.children queued taken added,
      ap (λ l. l ++ later) c.in_ok-push-in-Some.ensures.items
          ∙ append_assoc c.loop.out.items (k ∷ []) later
          ∙ ap (λ l. c.loop.out.items ++ l) (sym (ranked_some above n (c.args.most - c.loop.counter) k made some (omega (arith, test))))
          ∙ c.loop.invariant.2,
    )

pub returns : goal.returns
returns c =
    let done : c.args.most - c.loop.counter ≡ 0 = let past = c.loop-test.false in omega (arith, past) in
    sym (append-nil c.loop.out.items)
    ∙ ap (λ n. c.loop.out.items ++ ranked c.args.containers.now n c.loop.made.items) (sym done) ∙ c.loop.invariant.2
