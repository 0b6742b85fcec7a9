-- `text::number` meets its contract where no `-` stands.
use Rattle.semantics.proofs.Prelude.{sym, ap, ◌∙◌}
use Rattle.std.proofs.Common.{rules}
use Rattle.text.specs.Fields.{number_read}
use Rattle.text.proofs.Digits.{number_plain}
use Rattle.text.proofs.number.Goals as goal

pub returns-in_default : goal.returns-in_default
returns-in_default c = c.unsigned.ensures ∙ ap number_read (sym (number_plain _ (search rules)))
