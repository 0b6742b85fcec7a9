-- `search::put_rows` meets its contract. The invariant: with the lines of the rows left, all are written.
use Rattle.semantics.proofs.Prelude.{◌-◌}
use Rattle.semantics.specs.Encoding.{decode}
use Rattle.writer.proofs.Written.{Completes}
use Rattle.search.specs.RunLines.{Rows, rows_text}
use Rattle.search.proofs.put_rows.Given as goal

abbrev pub invariant-loop-done : goal.invariant-loop-done
invariant-loop-done l =
    Rows (decode l.found.chart.now) (l.rows - l._done) l.left
    × Completes (rows_text (decode l.found.chart.now) l.rows l.found.path.now) l.initial.out (rows_text (decode l.found.chart.now) (l.rows - l._done) l.left) l.out
