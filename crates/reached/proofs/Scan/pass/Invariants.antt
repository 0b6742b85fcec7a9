-- `reached::Scan::pass` meets its contract: the slots up to `last`, the one before the loop's, are passed.
use Rattle.semantics.proofs.Prelude.{◌≡◌, ◌+◌, ◌≤◌}
use Rattle.state.specs.Rows.{Placed}
use Rattle.reached.specs.Scanned.{lies_after}
use Rattle.reached.proofs.Scan.pass.Given as goal

abbrev pub invariant-loop : goal.invariant-loop
invariant-loop l = record {
  placed : Placed l.self.layout l.last;
  at : l.last.id.0 + 1 ≡ l.counter;
  later : l.initial.last.id.0 ≤ l.last.id.0;
  apart : lies_after l.self l.initial.last.id.0 ≡ lies_after l.self l.last.id.0;
}
