-- `text::is_name_byte` meets its contract.
use Rattle.semantics.proofs.Prelude.{◌||◌, ap, ◌∙◌, eqb, Bool}
use Rattle.text.proofs.Bytes.{name_ranges}
use Rattle.text.proofs.is_name_byte.Goals as goal

pub returns : goal.returns
returns c = ap (λ (b : Bool). b || eqb c.args.b 45) c.is_ascii_alphanumeric.ensures.value ∙ name_ranges c.args.b
