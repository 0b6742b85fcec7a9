-- `listing::put_number` meets its contract.
use Rattle.writer.proofs.Written.{writes_then}
use Rattle.listing.proofs.put_number.Goals as goal

pub returns : goal.returns
returns c = writes_then c.byte.ensures c.decimal.ensures
