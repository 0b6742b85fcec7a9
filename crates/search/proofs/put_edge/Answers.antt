-- `search::put_edge` meets its contract.
use Rattle.semantics.specs.Text.{line_of}
use Rattle.writer.proofs.Written.{writes_then}
use Rattle.search.proofs.put_edge.Goals as goal

pub returns : goal.returns
unfolding line_of
returns c = writes_then c.decimal.ensures c.byte.ensures
