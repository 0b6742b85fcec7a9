-- `text::positive_in` meets its contract: many digits reach the cut.
use Rattle.semantics.proofs.Prelude.{◌∙◌}
use Rattle.text.proofs.Digits.{digits_many}
use Rattle.text.proofs.positive_in.Goals as goal

pub returns : goal.returns
returns c = c.then_some.ensures ∙ digits_many _ c.requires c.if-f-lt-CUT_DIGITS.false _ c.all_digits.ensures
