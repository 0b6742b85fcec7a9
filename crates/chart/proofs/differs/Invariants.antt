-- `chart::differs` meets its contract.
use Rattle.semantics.specs.Layout.{location_size}
use Rattle.chart.specs.Encoded.{other_row}
use Rattle.chart.proofs.RowLoops.{BesidePassed}
use Rattle.chart.proofs.differs.Given as goal

abbrev pub invariant-loop-i : goal.invariant-loop-i
invariant-loop-i l = BesidePassed (other_row l.row l.number) location_size l.locations l.numbers l.ok l.i
