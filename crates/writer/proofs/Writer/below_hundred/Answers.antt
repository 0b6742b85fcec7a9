-- `writer::Writer::below_hundred` meets its contract: one digit, or two.
use Rattle.semantics.proofs.Prelude.{sym, ap, ◌∙◌, [], ◌∷◌, ℕ}
use Rattle.writer.proofs.Written.{writes_same}
use Rattle.writer.proofs.Decimals.{decimal_one, decimal_two}
use Rattle.writer.proofs.Writer.below_hundred.Goals as goal

pub returns-then-n-lt10 : goal.returns-then-n-lt10
returns-then-n-lt10 c = writes_same (ap (λ (d : ℕ). d ∷ []) c.last_digit.ensures ∙ sym (decimal_one c.args.n c.if-n-lt10.true)) c.byte.ensures

pub returns : goal.returns
returns c = writes_same (sym (decimal_two c.args.n c.if-n-lt10.false c.requires)) c.two.ensures
