-- `descent::deepen` meets its contract. The invariant: none has fewer moves than are tried next.
use Rattle.semantics.proofs.Prelude.{◌≡◌}
use Rattle.semantics.specs.Encoding.{decode}
use Rattle.semantics.specs.Search.{first_run, explicit}
use Rattle.descent.proofs.Attempts.{from_moves}
use Rattle.descent.proofs.deepen.Given as goal

abbrev pub invariant-loop-moves : goal.invariant-loop-moves
invariant-loop-moves l = first_run (explicit (decode l.guide.chart.now)) l.k ≡ from_moves (decode l.guide.chart.now) l.k l.moves
