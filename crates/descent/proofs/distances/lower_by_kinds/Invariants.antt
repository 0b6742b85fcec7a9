-- `descent::distances::lower_by_kinds` meets its contract.
use Rattle.semantics.proofs.Prelude.{◌≡◌, true, ◌<◌}
use Rattle.descent.proofs.DistanceTests.{ZeroAtError, Settled}
use Rattle.descent.proofs.distances.lower_by_kinds.Given as goal

abbrev pub invariant-loop-location : goal.invariant-loop-location
invariant-loop-location l = l.still ≡ true → Settled (ZeroAtError l.chart) (λ n. n < l.location) l.initial.dist l.dist
