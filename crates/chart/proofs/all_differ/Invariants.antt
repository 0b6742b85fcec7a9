-- `chart::all_differ` meets its contract. The invariant: the locations differ if those passed do and those left do.
use Rattle.semantics.proofs.Prelude.{◌≡◌, ◌&&◌, ◌-◌, ◌*◌, length, drop}
use Rattle.semantics.specs.Layout.{location_size}
use Rattle.semantics.specs.Encoding.{loc_in, several, distinct_names}
use Rattle.chart.proofs.all_differ.Given as goal

abbrev pub invariant-loop-i : goal.invariant-loop-i
invariant-loop-i l =
    distinct_names (several loc_in location_size (length l.numbers) l.locations) ≡ l.ok && distinct_names (several loc_in location_size (length l.numbers - l.i) (drop (location_size * l.i) l.locations))
