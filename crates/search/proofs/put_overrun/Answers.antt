-- `search::put_overrun` meets its contract.
use Rattle.writer.proofs.Written.{writes_then}
use Rattle.search.proofs.put_overrun.Goals as goal

pub returns : goal.returns
returns c = writes_then c.put_states.ensures c.put_edge.ensures
