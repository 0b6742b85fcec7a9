-- `search::put_states` meets its contract.
use Rattle.semantics.specs.Text.{line_of}
use Rattle.writer.proofs.Written.{writes_then}
use Rattle.search.specs.RunLines.{states_text}
use Rattle.search.proofs.put_states.Goals as goal

pub returns : goal.returns
unfolding line_of states_text
returns c = writes_then (writes_then c.bytes.ensures (writes_then c.put_number.ensures c.byte.ensures)) (writes_then c.put_state.ensures c.put_rows.ensures)
