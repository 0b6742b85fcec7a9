-- What `walk::search` prints lies within the bytes that `respond_search_to` was lent.
use Rattle.semantics.specs.Program.{search_output}
use Rattle.program.proofs.BufferEnough.{printed_within}
use Rattle.walk.proofs.fn.search.answer.Goals as goal

pub returns : goal.returns
returns c = printed_within (search_output _) c.respond_search_to.ensures
