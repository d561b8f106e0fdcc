use Rattle.std.proofs.Common.{◌≡◌, ◌+◌, ◌<◌, length, arith}
use Rattle.pm_review.specs.Rising.{AllAlike, AllNamed}
use Rattle.pm_review.specs.declared.differences.Names.TheVariants.{Stay}
use Rattle.pm_review.proofs.Walking.{Walked, walked-none, walked-next, walked-unchanged, walked-all, walked-shorter, after-named, after-alike, dropped-named, dropped-alike, dropped-shorter, first-alike}
use Rattle.pm_review.proofs.differences.walk.Goals as goal

pub loop-id-init : goal.loop-id-init
loop-id-init g c = rw (c.new-list.ensures, c.as_slice-old_rest.ensures, c.as_slice-new_rest.ensures) (record {
  walked =
      walked-none (g.B.NameOf.name_at c.args.before.now) (g.A.NameOf.name_at c.args.after.now) c.args.old.now c.args.new.now c.requires.old_rises c.requires.new_rises;
  old_named = c.requires.old_named;
  new_named = c.requires.new_named;
  names = c.requires.names;
})

pub loop-id-preserved : goal.loop-id-preserved
loop-id-preserved g c =
    let was = g.B.NameOf.name_at c.args.before.now in
    let is = g.A.NameOf.name_at c.args.after.now in
    let n = c.unchanged-n.result in
    let old = c.after_first-old_rest.result.now in
    let new = c.after_first-new_rest.result.now in
    let walked : Walked was is c.args.old.now c.args.new.now c.push_changes.new.list old new =
    rw (c.after_first-old_rest.ensures, c.after_first-new_rest.ensures) (walked-next was is c.args.old.now c.args.new.now c.loop-id.list
    c.push_changes.new.list c.loop-id.old_rest.now c.loop-id.new_rest.now c.in-Some.id c.loop-id.invariant.walked c.in-Some.ensures
    (rw (c.first_rights-was.ensures, c.first_rights-is.ensures) at c.in_ok-push_changes.ensures)) in
    let old_named : AllNamed (g.B.NameOf.named c.args.before.now) old =
    rw (c.after_first-old_rest.ensures) (after-named (g.B.NameOf.named c.args.before.now) c.in-Some.id c.loop-id.old_rest.now c.loop-id.invariant.old_named) in
    let new_named : AllNamed (g.A.NameOf.named c.args.after.now) new =
    rw (c.after_first-new_rest.ensures) (after-named (g.A.NameOf.named c.args.after.now) c.in-Some.id c.loop-id.new_rest.now c.loop-id.invariant.new_named) in
    let names : c.args.names ≡ Stay → AllAlike was is old =
    λ stay. rw (c.after_first-old_rest.ensures) (after-alike was is c.in-Some.id c.loop-id.old_rest.now (c.loop-id.invariant.names stay)) in
    rw (c.skip-old_rest.ensures, c.skip-new_rest.ensures) (record {
      walked = walked-unchanged was is c.args.old.now c.args.new.now c.push_changes.new.list n old new walked (λ some. names (c.unchanged-n.ensures.names some))
          c.unchanged-n.ensures.old c.unchanged-n.ensures.new c.unchanged-n.ensures.same;
      old_named = dropped-named (g.B.NameOf.named c.args.before.now) n old old_named;
      new_named = dropped-named (g.A.NameOf.named c.args.after.now) n new new_named;
      names = λ stay. dropped-alike was is n old (names stay);
    })

pub loop-id-smaller : goal.loop-id-smaller
loop-id-smaller g c =
    let n = c.unchanged-n.result in
    let old = c.after_first-old_rest.result.now in
    let new = c.after_first-new_rest.result.now in
    let fewer : length old + length new < length c.loop-id.old_rest.now + length c.loop-id.new_rest.now =
    rw (c.after_first-old_rest.ensures, c.after_first-new_rest.ensures) (walked-shorter (g.B.NameOf.name_at c.args.before.now)
    (g.A.NameOf.name_at c.args.after.now) c.args.old.now c.args.new.now c.loop-id.list c.loop-id.list
    c.loop-id.old_rest.now c.loop-id.new_rest.now c.in-Some.id c.loop-id.invariant.walked c.in-Some.ensures) in
    rw (c.skip-old_rest.ensures, c.skip-new_rest.ensures) (omega (arith, fewer, dropped-shorter n old, dropped-shorter n new))

pub returns : goal.returns
returns g c =
    walked-all (g.B.NameOf.name_at c.args.before.now) (g.A.NameOf.name_at c.args.after.now) c.args.old.now c.args.new.now c.loop-id.list
    c.loop-id.old_rest.now c.loop-id.new_rest.now c.loop-id.invariant.walked c.in_default.ensures
