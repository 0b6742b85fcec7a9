-- `search::put_none` meets its contract.
use Rattle.semantics.specs.Text.{line_of}
use Rattle.writer.proofs.Written.{writes_then}
use Rattle.search.proofs.put_none.Goals as goal

pub returns : goal.returns
unfolding line_of
returns c = writes_then c.bytes.ensures (writes_then c.put_number.ensures c.byte.ensures)
