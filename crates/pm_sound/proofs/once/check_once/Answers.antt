use Rattle.std.proofs.Common.{◌≡◌, ◌∙◌, ◌+◌, ◌++◌, ◌∷◌, [], map, take, drop, true, false, ap, sym, subst, arith}
use Rattle.std.specs.List.{list_any}
use Rattle.std.proofs.lemmas.List.{take_all}
use Rattle.indexmap.specs.IndexSet.{insert_key}
use Rattle.pm_policy.specs.Sound.{AreOnce}
use Rattle.pm_sound.proofs.Twice.{parted, pushed, seen-keys, seen-once, seen-twice, was-new, was-seen}
use Rattle.pm_sound.proofs.once.check_once.Goals as goal

pub returns-then-not-branch : goal.returns-then-not-branch
returns-then-not-branch g c once =
    let eq = g.T.Key.PartialEq.eq in
    let key = g.T.Keyed.key in
    let xs = c.args.items.now in
    let i = c.loop-item.item-index in
    let x = c.item-item.result in
    let there : list_any (eq c.key.result) c.loop-item.seen.keys ≡ true = was-seen _ _ c.in_ok-insert.ensures.added c.if-not-branch.true in
    let old = rw (c.key.ensures, c.loop-item.invariant.0) at there in
    let whole = subst (λ l. AreOnce (λ a b. eq (key a) (key b)) l) (sym (parted xs i x (omega arith) c.item-item.is)) once in
    seen-twice eq g.met.T.Key.Eq.laws key (take i xs) x (drop (i + 1) xs) old whole

pub loop-item-preserved : goal.loop-item-preserved
loop-item-preserved g c =
    let eq = g.T.Key.PartialEq.eq in
    let key = g.T.Keyed.key in
    let xs = c.args.items.now in
    let i = c.loop-item.item-index in
    let x = c.item-item.result in
    let laws = g.met.T.Key.Eq.laws in
    let there : list_any (eq c.key.result) c.loop-item.seen.keys ≡ false = was-new _ _ c.in_ok-insert.ensures.added c.if-not-branch.false in
    let new = rw (c.key.ensures, c.loop-item.invariant.0) at there in
    let keys : insert_key eq c.loop-item.seen.keys c.key.result ≡ map key (take i xs ++ x ∷ []) =
    rw (c.key.ensures, c.loop-item.invariant.0) (seen-keys eq laws key (take i xs) x new) in
    let more = sym (pushed xs i x (omega arith) c.item-item.is) in (
      c.in_ok-insert.ensures.keys ∙ keys ∙ ap (λ l. map key l) more,
      subst (λ l. AreOnce (λ a b. eq (key a) (key b)) l) more (seen-once eq laws key (take i xs) x c.loop-item.invariant.1 new),
    )

pub returns : goal.returns
returns g c =
    subst (λ l. AreOnce (λ a b. g.T.Key.PartialEq.eq (g.T.Keyed.key a) (g.T.Keyed.key b)) l) (take_all c.loop-item.item-index c.args.items.now (omega arith)) c.loop-item.invariant.1
