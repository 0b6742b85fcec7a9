-- `chart::name_is_new` meets its contract.
use Rattle.semantics.specs.Layout.{location_size}
use Rattle.semantics.specs.Encoding.{loc_in}
use Rattle.chart.proofs.RowLoops.{RowsPassed}
use Rattle.chart.proofs.Names.{other_name}
use Rattle.chart.proofs.name_is_new.Given as goal

abbrev pub invariant-loop-i : goal.invariant-loop-i
invariant-loop-i l = RowsPassed (other_name l.row) loc_in location_size l.n l.locations l.ok l.i
