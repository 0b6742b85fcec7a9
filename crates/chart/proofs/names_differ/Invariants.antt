-- `chart::names_differ` meets its contract. The invariant: the first numbers are those of the rows passed.
use Rattle.semantics.proofs.Prelude.{◌≡◌, take, length}
use Rattle.semantics.specs.Layout.{location_size, most_locations}
use Rattle.semantics.specs.Encoding.{several}
use Rattle.chart.specs.Encoded.{name_number}
use Rattle.chart.proofs.names_differ.Given as goal

abbrev pub invariant-loop-i : goal.invariant-loop-i
invariant-loop-i l = (length l.numbers ≡ most_locations) × (take l.i l.numbers ≡ several name_number location_size l.i l.locations)
