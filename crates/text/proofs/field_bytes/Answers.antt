-- `text::field_bytes` meets its contract.
use Rattle.semantics.proofs.Prelude.{}
use Rattle.text.proofs.LineFields.{bytes_of}
use Rattle.text.proofs.field_bytes.Goals as goal

pub returns : goal.returns
returns c = λ k e. bytes_of _ k e
