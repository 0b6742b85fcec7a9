-- `descent::starts::has_wide_input` meets its contract.
use Rattle.semantics.proofs.Prelude.{◌≡◌, ◌-◌, drop}
use Rattle.semantics.specs.Encoding.{decode}
use Rattle.descent.proofs.StartingValues.{some_wide}
use Rattle.descent.proofs.starts.has_wide_input.Given as goal

abbrev pub invariant-loop-number : goal.invariant-loop-number
invariant-loop-number l = some_wide (decode l.chart).edges ≡ some_wide (drop (l.number - 1) (decode l.chart).edges)
