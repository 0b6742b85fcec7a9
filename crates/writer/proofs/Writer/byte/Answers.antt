-- `writer::Writer::byte` meets its contract: past the end nothing is written.
use Rattle.semantics.proofs.Prelude.{arith, refl, sym}
use Rattle.writer.proofs.Written.{written_set, written_past}
use Rattle.writer.proofs.Writer.byte.Goals as goal

pub returns-then-self : goal.returns-then-self
returns-then-self c = record { same = refl; put = record { bytes = sym (written_set _ _ _ c.if-self.true); place = omega arith; small = omega arith } }

pub returns-else-self : goal.returns-else-self
returns-else-self c = record { same = refl; put = record { bytes = sym (written_past _ _ _ c.if-self.false); place = omega arith; small = omega arith } }
