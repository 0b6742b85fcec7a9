-- `chart::name_number` meets its contract.
use Rattle.semantics.proofs.Prelude.{◌≡◌, ◌+◌, ◌-◌, drop}
use Rattle.semantics.specs.Layout.{name_size, name_place}
use Rattle.semantics.specs.Encoding.{name_in, loc_in}
use Rattle.chart.specs.Encoded.{number_from}
use Rattle.chart.proofs.NameNumbers.{Small}
use Rattle.chart.proofs.name_number.Given as goal

abbrev pub invariant-loop-i : goal.invariant-loop-i
invariant-loop-i l = (number_from 0 (loc_in l.row).name ≡ number_from l.n (name_in (name_size - l.i) (drop (l.i + name_place) l.row))) × Small l.i l.n
