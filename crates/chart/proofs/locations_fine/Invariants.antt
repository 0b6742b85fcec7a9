-- `chart::locations_fine` meets its contract.
use Rattle.semantics.specs.Layout.{location_size}
use Rattle.chart.specs.Encoded.{location_fine}
use Rattle.chart.proofs.RowLoops.{RowsPassed}
use Rattle.chart.proofs.locations_fine.Given as goal

abbrev pub invariant-loop-i : goal.invariant-loop-i
invariant-loop-i l = RowsPassed location_fine (λ r. r) location_size l.n l.locations l.ok l.i
