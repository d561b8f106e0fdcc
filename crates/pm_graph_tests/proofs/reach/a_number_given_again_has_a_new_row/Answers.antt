use Rattle.std.proofs.Common.{arith}
use Rattle.pm_graph_tests.proofs.OpeningRows.{alone}
use Rattle.pm_graph_tests.proofs.reach.a_number_given_again_has_a_new_row.Goals as goal

pub on_remove-requires-clause-empty : goal.on_remove-requires-clause-empty
on_remove-requires-clause-empty g c p h = alone c.rows_of-rows.result.rows c.rows_of-rows.ensures.rows p c.id.result (omega (arith, c.id.ensures)) (rw c.in_ok-other.ensures.rows at h)

pub prepare-requires : goal.prepare-requires
prepare-requires g c = record {
  possible = (
    rw c.id-2.ensures (c.rows_of-rows.ensures.live 66),
    λ p h. alone c.rows_of-rows.result.rows c.rows_of-rows.ensures.rows p c.id-2.result (omega (arith, c.id-2.ensures)) h,
  );
}
