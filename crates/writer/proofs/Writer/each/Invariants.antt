-- `writer::Writer::each` meets its contract: with the bytes left, all are written.
use Rattle.semantics.proofs.Prelude.{drop}
use Rattle.writer.proofs.Written.{Completes}
use Rattle.writer.proofs.Writer.each.Given as goal

abbrev pub invariant-loop-b : goal.invariant-loop-b
invariant-loop-b l = Completes l.s l.initial.self (drop l.b-index l.s) l.self
