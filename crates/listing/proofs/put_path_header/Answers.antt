-- `listing::put_path_header` meets its contract.
use Rattle.semantics.specs.Text.{line_of}
use Rattle.writer.proofs.Written.{writes_then}
use Rattle.listing.proofs.TextPieces.{field}
use Rattle.listing.proofs.put_path_header.Goals as goal

pub returns : goal.returns
unfolding line_of
returns c = writes_then c.bytes.ensures (writes_then (field c.word.ensures c.put_field.ensures) (writes_then c.put_number.ensures c.byte.ensures))
