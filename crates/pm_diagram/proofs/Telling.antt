-- Rows that tell the same relation as those of a diagram tell its containment as well.
use Rattle.std.proofs.Common.{◌≡◌, sym, ap, ◌∙◌}
use Rattle.pm_model.specs.Containment.{Relation}
use Rattle.pm_reach.specs.Rows.{Readied, relation_of}
use Rattle.pm_diagram.specs.Shape.{Shape}
use Rattle.pm_diagram.specs.Drawn.{IsTold}

pub told-again : (d : Shape) (before after : Readied) → relation_of after ≡ relation_of before → IsTold d before.rows → IsTold d after.rows
told-again d before after same is = record {
  live = λ x. ap (λ (r : Relation). r.live x) same ∙ is.live x;
  told = λ p q there. ap (λ (r : Relation). r.below p q) same ∙ is.told p q (sym (ap (λ (r : Relation). r.live p) same) ∙ there);
}
