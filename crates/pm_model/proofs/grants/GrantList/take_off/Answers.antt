use Rattle.std.proofs.Common.{◌≡◌, ◌<◌, ◌==◌, ◌&&◌, not, ℕ, length, vec_len, arith, sym, ap, ◌∙◌}
use Rattle.std.proofs.lemmas.Bool.{eqb-false}
use Rattle.pm_model.specs.Grants.{grants_off, is_told, is_on}
use Rattle.std.specs.List.{list_any}
use Rattle.pm_model.proofs.Places.{told_less}
use Rattle.pm_model.proofs.grants.GrantList.take_off.Goals as goal

pub invariant_of-self : goal.invariant_of-self
invariant_of-self c =
    let was = c.self.inside in
    let full = eqb-false (vec_len was.places) 0 (sym c.if-not-is_empty.ensures) in
    let some : 0 < length was.places.items = omega (arith, was.places.ok.0, full) in
    record {
      told = λ _ n.
          let same = ap (λ gs. list_any (is_on n) gs) c.drop_grants.ensures in
          told_less was.places.items c.drop_empty.new.places.items was.items.items c.args.at (c.self.invariant.told some)
          (λ n. c.drop_empty.ensures n ∙ c.clear.ensures n ∙ ap (λ m. is_told was.places.items n && not (n == m)) c.number.ensures) n ∙ sym same;
    }
