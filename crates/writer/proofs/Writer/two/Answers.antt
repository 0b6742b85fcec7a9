-- `writer::Writer::two` meets its contract.
use Rattle.writer.proofs.Writer.two.Goals as goal

pub returns : goal.returns
returns c = rw (← c.last_digit.ensures, ← c.last_digit-2.ensures) c.bytes.ensures
