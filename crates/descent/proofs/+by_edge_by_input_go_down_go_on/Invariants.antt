-- The measure of the descent: four times the moves left, and three, two and one more on the way to the next state, so that it
-- falls at each call. A loop's invariant: what is found by what is left of its list is what is found by all of it.
use Rattle.semantics.proofs.Prelude.{◌≡◌, ◌+◌, ◌-◌, ◌*◌, drop, ℤ}
use Rattle.semantics.specs.Lists.{In}
use Rattle.semantics.specs.Chart.{numbered}
use Rattle.semantics.specs.Encoding.{decode}
use Rattle.semantics.specs.Search.{found, first_of, interval, inputs, explicit}
use Rattle.descent.specs.Rows.{state_of, edge_of}
use Rattle.descent.specs.Trails.{by_input, by_edge}
use Rattle.descent.proofs.+by_edge_by_input_go_down_go_on.Given as goal

abbrev pub decreases-go_down : goal.decreases-go_down
decreases-go_down l = 4 * l.left

abbrev pub decreases-by_edge : goal.decreases-by_edge
decreases-by_edge l = 4 * l.left + 3

abbrev pub decreases-by_input : goal.decreases-by_input
decreases-by_input l = 4 * l.left + 2

abbrev pub decreases-go_on : goal.decreases-go_on
decreases-go_on l = 4 * l.left + 1

abbrev pub invariant-go_down-loop-number : goal.invariant-go_down-loop-number
invariant-go_down-loop-number l =
    (l.path ≡ l.initial.path)
    × (found (explicit (decode l.guide.chart.now)) l.left (state_of l.row) ≡ first_of (by_edge (decode l.guide.chart.now) (l.left - 1) (state_of l.row)) (drop (l.number - 1) (numbered (decode l.guide.chart.now))))

abbrev pub invariant-by_edge-loop-z : goal.invariant-by_edge-loop-z
invariant-by_edge-loop-z l =
    (l.path ≡ l.initial.path) × ((x : ℤ) → In x (interval l.z l.high) → In x (inputs (edge_of l.guide.chart.now l.edge).edge.op))
    × (by_edge (decode l.guide.chart.now) l.left (state_of l.row) (edge_of l.guide.chart.now l.edge) ≡ first_of (by_input (decode l.guide.chart.now) l.left (state_of l.row) (edge_of l.guide.chart.now l.edge)) (interval l.z l.high))
