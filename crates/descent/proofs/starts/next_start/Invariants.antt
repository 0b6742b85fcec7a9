-- `descent::starts::next_start` meets its contract.
use Rattle.semantics.specs.Encoding.{decode}
use Rattle.state.specs.Rows.{values_of}
use Rattle.descent.proofs.StartingValues.{PutBack}
use Rattle.descent.proofs.starts.next_start.Given as goal

abbrev pub invariant-loop-k : goal.invariant-loop-k
invariant-loop-k l = PutBack (decode l.chart).vars (values_of l.initial.row) l.row l.k
