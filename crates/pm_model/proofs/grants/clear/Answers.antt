use Rattle.std.proofs.Common.{◌≡◌, ◌<◌, ◌==◌, ◌&&◌, not, false, length, get_or, arith, sym, ap, ◌∙◌}
use Rattle.std.proofs.lemmas.List.{get_or_read}
use Rattle.std.proofs.lemmas.Bool.{eq-eqb}
use Rattle.pm_model.specs.Grants.{is_in}
use Rattle.pm_model.proofs.Places.{told_cleared, none_ahead, cleared_self}
use Rattle.pm_model.proofs.grants.clear.Goals as goal

pub loop-i-preserved : goal.loop-i-preserved
loop-i-preserved c =
    let items = c.loop-i.places.items in
    let i = c.loop-i.i in
    let d = c.index_mut.result.now in
    let m = c.args.number in
    let within : i < length items = omega (arith, c.loop-i.places.ok.0, c.len.ensures, c.loop-i-test.true) in
    let was : d ≡ get_or items i d = get_or_read items i _ within c.index_mut.ensures.value _ in
    record {
      others = λ n. told_cleared items i d c.clear_number.new.place m within (λ n. c.clear_number.ensures n ∙ ap (λ p. is_in n p && not (n == m)) was) n ∙ c.loop-i.invariant.others n;
      none = none_ahead items i c.clear_number.new.place m within c.loop-i.invariant.none (c.clear_number.ensures m ∙ cleared_self d m);
    }
