-- `listing::put_field` meets its contract.
use Rattle.writer.proofs.Written.{writes_then}
use Rattle.listing.proofs.put_field.Goals as goal

pub returns : goal.returns
returns c = writes_then c.byte.ensures c.bytes.ensures
