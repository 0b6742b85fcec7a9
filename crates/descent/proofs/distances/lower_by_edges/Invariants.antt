-- `descent::distances::lower_by_edges` meets its contract.
use Rattle.semantics.proofs.Prelude.{◌≡◌, true, ◌≤◌, ◌<◌}
use Rattle.semantics.specs.Encoding.{edge_count}
use Rattle.descent.proofs.DistanceTests.{Asked, Settled}
use Rattle.descent.proofs.distances.lower_by_edges.Given as goal

abbrev pub invariant-loop-number : goal.invariant-loop-number
invariant-loop-number l = l.still ≡ true → Settled (Asked l.chart) (λ n. (l.number < n) × (n ≤ edge_count l.chart)) l.initial.dist l.dist
