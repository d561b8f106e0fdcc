-- What the patterns of obligations give is live.
use Rattle.std.proofs.Common.{◌≡◌, ℕ, Option, Some, None, IfSome, slice_get}
use Rattle.pm_model.specs.State.{Graph}
use Rattle.pm_model.specs.Formed.{IsLive, IsObligation, IsWellFormed}
use Rattle.pm_model.specs.declared.obligations.Obligation.{Obligation}
use Rattle.pm_laws.proofs.Items.{each-all, each-at, each-to, get-contains}
use Rattle.pm_laws.proofs.Obligations.{watched-live}
use Rattle.pm_pattern.specs.Live.{IsGivenLive, IsPatternLive}
use Rattle.pm_runner.specs.Standing.{ArePatternsLive}
use Rattle.pm_state.specs.Containing.{relation_in}

pub pattern-live : (G : Graph) (i : ℕ) (o : Obligation) → IsWellFormed G → slice_get G.obligations i ≡ Some o →
    IfSome o.pattern.user (IsLive G.elements) × IfSome o.pattern.target (IsLive G.elements)
pattern-live G i o f at =
    let is = each-at (IsObligation G.elements) G.obligations o f.obligations.each (get-contains G.obligations i o at) in
    (watched-live G.elements o.pattern.user is.user, is.target)

given-live : (G : Graph) (o : Option ℕ) → IfSome o (IsLive G.elements) → IsGivenLive (relation_in G) o
given-live G (Some x) h = h
given-live G None h = tt

-- so each may be asked whether it matches
pub obligations-watch : (G : Graph) → IsWellFormed G → ArePatternsLive (relation_in G) G.obligations
obligations-watch G f =
    each-all (λ (o : Obligation). IsPatternLive (relation_in G) o.pattern) G.obligations
    (each-to (IsObligation G.elements) (λ (o : Obligation). IsPatternLive (relation_in G) o.pattern)
    (λ o is. record {
      user = given-live G o.pattern.user (watched-live G.elements o.pattern.user is.user);
      target = given-live G o.pattern.target is.target;
    }) G.obligations f.obligations.each)
