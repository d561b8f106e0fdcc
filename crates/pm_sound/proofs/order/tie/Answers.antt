use Rattle.std.proofs.Common.{◌≡◌, ◌+◌, ◌∙◌, ap, sym, subst, arith, [], ◌∷◌, ◌++◌, length, take, append_assoc}
use Rattle.std.proofs.lemmas.List.{append-nil, length-set}
use Rattle.pm_laws.proofs.Items.{each-push}
use Rattle.pm_model.specs.Formed.{Each}
use Rattle.pm_order.specs.Ranked.{containers}
use Rattle.pm_order.proofs.Placed.{containers-added, place-within}
use Rattle.pm_policy.specs.Sound.{FitAssigned}
use Rattle.pm_sound.proofs.Known.{fitting}
use Rattle.pm_sound.proofs.Twice.{pushed}
use Rattle.pm_sound.proofs.order.tie.Goals as goal

pub loop-pair-init : goal.loop-pair-init
loop-pair-init c = (c.requires.count, tt, λ before is. is ∙ ap (λ l. containers c.args.standing.now l) (sym (append-nil before)))

pub add-requires : goal.add-requires
add-requires c =
    let es = c.args.standing.now in
    let p = c.pair-item.result in
    let from = c.in-Some.ensures.places.0 in
    let within = place-within es p.from (fitting es p (sym c.in-Some.ensures.fit)).0 in
    let many = c.loop-pair.invariant.0 in omega (arith, from, within, many)

pub loop-pair-preserved : goal.loop-pair-preserved
loop-pair-preserved c =
    let es = c.args.standing.now in
    let pairs = c.args.pairs.now in
    let p = c.pair-item.result in
    let k = c.loop-pair.pair-index in
    let fit : FitAssigned es p = sym c.in-Some.ensures.fit in
    let more : take (k + 1) pairs ≡ take k pairs ++ p ∷ [] = pushed pairs k p c.loop-pair-test.true c.pair-item.is in
    let added = c.in_ok-add-in-Some.ensures in (
      ap length added ∙ length-set c.loop-pair.above c.in-Some.from _ ∙ c.loop-pair.invariant.0,
      subst (λ l. Each (FitAssigned es) l) (sym more) (each-push (FitAssigned es) (take k pairs) p c.loop-pair.invariant.1 fit),
      λ before is. added
          ∙ containers-added es (before ++ take k pairs) p c.loop-pair.above c.in-Some.from c.in-Some.to (c.loop-pair.invariant.2 before is)
          c.in-Some.ensures.places.0 c.in-Some.ensures.places.1 c.requires.once (fitting es p fit).0
          ∙ ap (λ l. containers es l) (append_assoc before (take k pairs) (p ∷ []) ∙ ap (λ l. before ++ l) (sym more)),
    )
