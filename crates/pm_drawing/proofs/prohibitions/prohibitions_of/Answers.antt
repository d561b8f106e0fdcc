use Rattle.std.proofs.Common.{◌≡◌, ◌∙◌, Some, slice_get, sym, ap, arith, map, filter, length}
use Rattle.std.proofs.lemmas.Option.{get_or_from_slice_get, slice_get_within}
use Rattle.pm_laws.proofs.Items.{each-at, get-contains}
use Rattle.pm_model.specs.Formed.{IsProhibition}
use Rattle.pm_policy.specs.PolicyOf.{policy_prohibition}
use Rattle.pm_drawing.specs.Gathered.{is_shown}
use Rattle.pm_drawing.proofs.Steps.{kept-step, take-past}
use Rattle.pm_drawing.proofs.prohibitions.prohibitions_of.Goals as goal

pub loop-i-init : goal.loop-i-init
loop-i-init c = c.new-list.ensures

pub push_prohibition-requires : goal.push_prohibition-requires
push_prohibition-requires c =
    let G = c.args.graph.now in
    each-at (IsProhibition G.elements G.procs G.rights) G.prohibitions c.at.result.now c.formed.ensures.prohibitions.each
    (get-contains G.prohibitions c.loop-i.i c.at.result.now (ap (λ l. slice_get l c.loop-i.i) (sym c.deny-deny.ensures) ∙ c.at.ensures))

pub loop-i-preserved : goal.loop-i-preserved
loop-i-preserved c =
    let G = c.args.graph.now in
    let got : slice_get G.prohibitions c.loop-i.i ≡ Some c.at.result.now = ap (λ l. slice_get l c.loop-i.i) (sym c.deny-deny.ensures) ∙ c.at.ensures in
    kept-step G.prohibitions c.loop-i.i c.at.result.now (policy_prohibition G) is_shown c.loop-i.list c.push_prohibition.new.list
    (slice_get_within G.prohibitions c.loop-i.i c.at.result.now got) (sym (get_or_from_slice_get G.prohibitions c.loop-i.i c.at.result.now c.at.result.now got))
    c.loop-i.invariant c.in_ok-push_prohibition.ensures

pub returns : goal.returns
returns c =
    let G = c.args.graph.now in
    let all : c.len-i-end.result ≡ length G.prohibitions = c.len-i-end.ensures.len ∙ ap length c.deny-deny.ensures in
    let past = c.loop-i-test.false in
    c.loop-i.invariant ∙ ap (λ l. map (policy_prohibition G) (filter is_shown l)) (take-past c.loop-i.i G.prohibitions (omega (arith, all, past)))
