-- `reader::variable::judged` meets its contract: where its fields lie.
use Rattle.semantics.proofs.Prelude.{}
use Rattle.text.proofs.LineFields.{field_lies_at}
use Rattle.reader.proofs.variable.judged.Goals as goal

pub field_bytes-requires-2 : goal.field_bytes-requires-2
field_bytes-requires-2 c = field_lies_at _ 2 (c.field_after-lo.ensures 1 c.requires)

pub field_bytes-requires-3 : goal.field_bytes-requires-3
field_bytes-requires-3 c = field_lies_at _ 3 (c.field_after-hi.ensures 2 (c.field_after-lo.ensures 1 c.requires))

pub field_bytes-requires-4 : goal.field_bytes-requires-4
field_bytes-requires-4 c = field_lies_at _ 4 (c.field_after-init.ensures 3 (c.field_after-hi.ensures 2 (c.field_after-lo.ensures 1 c.requires)))
