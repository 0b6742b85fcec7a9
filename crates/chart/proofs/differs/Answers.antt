-- `chart::differs` meets its contract.
use Rattle.semantics.proofs.Prelude.{◌≡◌, ◌&&◌, ◌*◌, ap, not, take, drop, pos, get_or, SFits, w32, of_z, to_z, to_z-of_z, rules}
use Rattle.semantics.specs.Layout.{location_size}
use Rattle.semantics.specs.Text.{same_bytes}
use Rattle.semantics.specs.Chart.{eq_z}
use Rattle.semantics.specs.Encoding.{loc_in}
use Rattle.chart.specs.Encoded.{other_row}
use Rattle.chart.proofs.RowLoops.{beside_turn}
use Rattle.chart.proofs.differs.Goals as goal

pub loop-i-preserved : goal.loop-i-preserved
loop-i-preserved c =
    let a = c.args in
    let l = c.loop-i in
    let k = to_z w32 (of_z w32 a.number) in
    let n = get_or a.numbers.now l.i (pos 0) in
    let other = take location_size (drop (location_size * l.i) a.locations.now) in
    let fits : SFits w32 n = search rules in
    let says : c.has_name.result ≡ eq_z k n && same_bytes (loc_in a.row.now).name (loc_in other).name = rw (to_z-of_z w32 n fits, c.row_at-other.ensures) at c.has_name.ensures in
    beside_turn (other_row a.row.now k) location_size a.locations.now a.numbers.now l.ok l.i l.invariant c.loop-i-test.true (not c.has_name.result) (ap not says)
