-- `descent::starts::first_start` meets its contract.
use Rattle.semantics.proofs.Prelude.{◌≡◌, ◌+◌, length}
use Rattle.semantics.specs.Encoding.{decode, variable_count}
use Rattle.descent.proofs.StartingValues.{Written}
use Rattle.descent.proofs.starts.first_start.Given as goal

abbrev pub invariant-loop-k : goal.invariant-loop-k
invariant-loop-k l = (length l.row ≡ variable_count l.chart + 1) × Written (decode l.chart).vars l.row l.k
