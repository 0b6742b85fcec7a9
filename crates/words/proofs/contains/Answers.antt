use Rattle.words.proofs.Iterating.{contains_is}
use Rattle.words.proofs.contains.Goals as goal

pub returns : goal.returns
returns c = contains_is c.args.x c.args.s.now c.ranges.x c.contains.ensures.value
