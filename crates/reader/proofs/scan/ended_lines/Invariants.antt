-- `reader::scan::ended_lines` ends. The invariant: the lines counted are those that the bytes passed end.
use Rattle.semantics.proofs.Prelude.{◌≡◌, eqb, take}
use Rattle.std.specs.Prelude.{count_by}
use Rattle.reader.proofs.scan.ended_lines.Given as goal

abbrev pub invariant-loop-i : goal.invariant-loop-i
invariant-loop-i l = l.n ≡ count_by (λ b. eqb b 10) (take l.i l.text)
