-- `reached::covered` meets its contract: the slots before the loop's are passed.
use Rattle.semantics.proofs.Prelude.{◌≡◌, ◌-◌}
use Rattle.reached.specs.Reached.{lies_from}
use Rattle.reached.proofs.covered.Given as goal

abbrev pub invariant-loop-scan : goal.invariant-loop-scan
invariant-loop-scan l = lies_from l.layout l.used l.e l.table 0 ≡ lies_from l.layout l.used l.e l.table l.id.0

abbrev pub decreases-loop-scan : goal.decreases-loop-scan
decreases-loop-scan l = l.used - l.id.0
