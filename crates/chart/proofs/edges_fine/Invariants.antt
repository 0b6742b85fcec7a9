-- `chart::edges_fine` meets its contract.
use Rattle.semantics.specs.Layout.{edge_size}
use Rattle.chart.specs.Encoded.{edge_fine}
use Rattle.chart.proofs.RowLoops.{RowsPassed}
use Rattle.chart.proofs.edges_fine.Given as goal

abbrev pub invariant-loop-i : goal.invariant-loop-i
invariant-loop-i l = RowsPassed (edge_fine l.vars l.v l.l) (λ r. r) edge_size l.n l.edges l.ok l.i
