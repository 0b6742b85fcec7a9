-- `program::put_line` meets its contract.
use Rattle.semantics.specs.Text.{line_of}
use Rattle.writer.proofs.Written.{writes_then}
use Rattle.program.proofs.put_line.Goals as goal

pub returns : goal.returns
unfolding line_of
returns c =
    rw c.from.ensures at (writes_then c.bytes.ensures (writes_then c.decimal.ensures (writes_then c.byte.ensures (writes_then c.decimal-2.ensures c.byte-2.ensures))))
