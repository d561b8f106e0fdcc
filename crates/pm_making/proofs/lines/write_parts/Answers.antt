use Rattle.std.proofs.Common.{◌≡◌, ◌<◌, ◌∙◌, ◌++◌, ap, sym, subst, length, map, Contains}
use Rattle.std.proofs.lemmas.Result.{on_ok_weaker}
use Rattle.pm_model.specs.declared.requests.Command.TheVariants as command
use Rattle.pm_by_name.specs.Keyed.{association_in}
use Rattle.pm_policy.specs.Requests.{assign, associate, prohibit}
use Rattle.pm_making.specs.Lines.{creating, lines_of}
use Rattle.pm_making.proofs.Written.{five, front_then, parts-lines}
use Rattle.pm_making.proofs.lines.write_parts.Goals as goal

pub write_associations-requires : goal.write_associations-requires
write_associations-requires c = λ k there.
    subst (λ all. k < length all) (sym c.as_slice-4.ensures) (c.requires.places k (subst (λ l. Contains l k) c.as_slice-5.ensures.value there))

pub returns-clause-ok : goal.returns-clause-ok
returns-clause-ok c =
    let D = c.args.policy.now in
    let p = c.args.parts.now in
    let old = c.args.out.now.items in
    let rights : c.write_all.new.out.items ≡ old ++ lines_of (map command.DefineRight D.rights) =
    c.in_ok-write_all.ensures.ok ∙ ap (λ l. old ++ lines_of (map command.DefineRight l)) c.as_slice.ensures in
    let created : c.write_all-2.new.out.items ≡ c.write_all.new.out.items ++ lines_of (map creating p.making.turns.items) =
    c.in_ok-write_all-2.ensures.ok ∙ ap (λ l. c.write_all.new.out.items ++ lines_of (map creating l)) c.as_slice-2.ensures.value in
    let assigned : c.write_all-3.new.out.items ≡ c.write_all-2.new.out.items ++ lines_of (map assign p.making.others.items) =
    c.in_ok-write_all-3.ensures.ok ∙ ap (λ l. c.write_all-2.new.out.items ++ lines_of (map assign l)) c.as_slice-3.ensures.value in
    let associated : c.write_associations.new.out.items
    ≡ c.write_all-3.new.out.items ++ lines_of (map (λ k. associate (association_in D.associations k)) p.associations.items) =
    c.in_ok-write_associations.ensures.ok
    ∙ ap (λ l. c.write_all-3.new.out.items ++ lines_of (map (λ k. associate (association_in l k)) c.as_slice-5.result.now)) c.as_slice-4.ensures
    ∙ ap (λ l. c.write_all-3.new.out.items ++ lines_of (map (λ k. associate (association_in D.associations k)) l)) c.as_slice-5.ensures.value in
    on_ok_weaker c.write_all-4.result
    (λ is. five old (lines_of (map command.DefineRight D.rights)) (lines_of (map creating p.making.turns.items)) (lines_of (map assign p.making.others.items))
    (lines_of (map (λ k. associate (association_in D.associations k)) p.associations.items)) (lines_of (map prohibit D.prohibitions))
    c.write_all.new.out.items c.write_all-2.new.out.items c.write_all-3.new.out.items c.write_associations.new.out.items c.write_all-4.new.out.items
    rights created assigned associated (is ∙ ap (λ l. c.write_associations.new.out.items ++ lines_of (map prohibit l)) c.as_slice-6.ensures)
    ∙ ap (λ l. old ++ l) (parts-lines D p c.requires))
    c.write_all-4.ensures.ok

pub returns-in_err-write_all-2-clause-front : goal.returns-in_err-write_all-2-clause-front
returns-in_err-write_all-2-clause-front c =
    front_then c.args.out.now.items _ c.write_all.new.out.items c.write_all-2.new.out.items c.in_ok-write_all.ensures.ok c.write_all-2.ensures.front

pub returns-in_err-write_all-3-clause-front : goal.returns-in_err-write_all-3-clause-front
returns-in_err-write_all-3-clause-front c =
    front_then c.args.out.now.items _ c.write_all.new.out.items c.write_all-3.new.out.items c.in_ok-write_all.ensures.ok
    (front_then c.write_all.new.out.items _ c.write_all-2.new.out.items c.write_all-3.new.out.items c.in_ok-write_all-2.ensures.ok c.write_all-3.ensures.front)

pub returns-in_err-write_associations-clause-front : goal.returns-in_err-write_associations-clause-front
returns-in_err-write_associations-clause-front c =
    front_then c.args.out.now.items _ c.write_all.new.out.items c.write_associations.new.out.items c.in_ok-write_all.ensures.ok
    (front_then c.write_all.new.out.items _ c.write_all-2.new.out.items c.write_associations.new.out.items c.in_ok-write_all-2.ensures.ok
    (front_then c.write_all-2.new.out.items _ c.write_all-3.new.out.items c.write_associations.new.out.items c.in_ok-write_all-3.ensures.ok c.write_associations.ensures.front))

pub returns-clause-front : goal.returns-clause-front
returns-clause-front c =
    let new = c.write_all-4.new.out.items in
    front_then c.args.out.now.items _ c.write_all.new.out.items new c.in_ok-write_all.ensures.ok
    (front_then c.write_all.new.out.items _ c.write_all-2.new.out.items new c.in_ok-write_all-2.ensures.ok
    (front_then c.write_all-2.new.out.items _ c.write_all-3.new.out.items new c.in_ok-write_all-3.ensures.ok
    (front_then c.write_all-3.new.out.items _ c.write_associations.new.out.items new c.in_ok-write_associations.ensures.ok c.write_all-4.ensures.front)))
