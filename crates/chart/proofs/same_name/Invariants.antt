-- `chart::same_name` meets its contract.
use Rattle.semantics.proofs.Prelude.{◌≡◌, ◌+◌, ◌-◌, drop}
use Rattle.semantics.specs.Layout.{name_size, name_place}
use Rattle.semantics.specs.Text.{same_bytes}
use Rattle.semantics.specs.Encoding.{name_in, loc_in}
use Rattle.chart.proofs.same_name.Given as goal

abbrev pub invariant-loop-i : goal.invariant-loop-i
invariant-loop-i l =
    (same_bytes (loc_in l.a).name (loc_in l.b).name ≡ same_bytes (name_in (name_size - l.i) (drop (l.i + name_place) l.a)) (name_in (name_size - l.i) (drop (l.i + name_place) l.b)))
