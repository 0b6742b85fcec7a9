-- What `walk::show` prints lies within the bytes that `respond_to` was lent.
use Rattle.semantics.specs.Program.{output}
use Rattle.program.proofs.BufferEnough.{printed_within}
use Rattle.walk.proofs.fn.show.answer.Goals as goal

pub returns : goal.returns
returns c = printed_within (output _) c.respond_to.ensures
