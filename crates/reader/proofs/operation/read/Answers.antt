-- `reader::operation::read` meets its contract: where its fields lie.
use Rattle.semantics.proofs.Prelude.{}
use Rattle.text.proofs.LineFields.{field_lies_at}
use Rattle.reader.proofs.operation.read.Goals as goal

pub field_bytes-requires-2 : goal.field_bytes-requires-2
field_bytes-requires-2 c = field_lies_at _ 5 (c.field_after-first.ensures 4 (c.field_after-target.ensures 3 c.requires))

pub field_bytes-requires-3 : goal.field_bytes-requires-3
field_bytes-requires-3 c = field_lies_at _ 6 (c.field_after-second.ensures 5 (c.field_after-first.ensures 4 (c.field_after-target.ensures 3 c.requires)))
