-- `descent::attempt` meets its contract. The invariant: the row is that of a starting state, and what is found from it and
-- those after it is what is found from all. How many these are falls.
use Rattle.semantics.proofs.Prelude.{◌≡◌, ◌∷◌, length}
use Rattle.semantics.specs.Encoding.{decode}
use Rattle.semantics.specs.Search.{attempt, first_of, explicit}
use Rattle.state.specs.Rows.{values_of}
use Rattle.descent.specs.Starts.{Starts, starts_after}
use Rattle.descent.proofs.Attempts.{from_values}
use Rattle.descent.proofs.attempt.Given as goal

abbrev pub invariant-loop-end : goal.invariant-loop-end
invariant-loop-end l =
    (l.path ≡ l.initial.path) × Starts (decode l.guide.chart.now) l.start
    × (attempt (explicit (decode l.guide.chart.now)) l.moves ≡ first_of (from_values (decode l.guide.chart.now) l.moves) (values_of l.start ∷ starts_after (decode l.guide.chart.now).vars (values_of l.start)))

abbrev pub decreases-loop-end : goal.decreases-loop-end
decreases-loop-end l = length (starts_after (decode l.guide.chart.now).vars (values_of l.start))
