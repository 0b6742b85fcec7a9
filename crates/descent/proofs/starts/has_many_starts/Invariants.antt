-- `descent::starts::has_many_starts` meets its contract.
use Rattle.semantics.proofs.Prelude.{◌≡◌, ◌*◌, ◌≤◌, drop}
use Rattle.semantics.specs.Layout.{most_starts}
use Rattle.semantics.specs.RunListing.{start_count}
use Rattle.semantics.specs.Encoding.{decode}
use Rattle.descent.proofs.starts.has_many_starts.Given as goal

abbrev pub invariant-loop-k : goal.invariant-loop-k
invariant-loop-k l = (l.starts ≤ most_starts) × (start_count (decode l.chart).vars ≡ l.starts * start_count (drop l.k (decode l.chart).vars))
