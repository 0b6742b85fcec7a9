-- `listing::put_header` meets its contract.
use Rattle.semantics.specs.Text.{line_of}
use Rattle.writer.proofs.Written.{writes_then}
use Rattle.listing.proofs.TextPieces.{field}
use Rattle.listing.proofs.put_header.Goals as goal

pub returns : goal.returns
unfolding line_of
returns c =
    writes_then c.bytes.ensures (
    writes_then (field c.word.ensures c.put_field.ensures) (
    writes_then (field c.word-2.ensures c.put_field-2.ensures) (
    writes_then (field c.word-3.ensures c.put_field-3.ensures) (
    writes_then (field c.word-4.ensures c.put_field-4.ensures) (
    writes_then c.put_number.ensures (
    writes_then c.put_number-2.ensures (
    writes_then c.put_number-3.ensures c.byte.ensures
    )))))))
