-- `state::id_word` meets its contract.
use Rattle.state.proofs.Layouts.{from_try}
use Rattle.semantics.proofs.Prelude.{rules}
use Rattle.state.proofs.id_word.Goals as goal

pub returns : goal.returns
returns c = search (rules, from_try _ _ c.try_from.ensures)
