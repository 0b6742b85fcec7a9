-- `text::digits_in` meets its contract: the digits passed, cut, say as much of the answer as all.
use Rattle.semantics.proofs.Prelude.{arith, sym, ap, ◌∙◌}
use Rattle.std.specs.Prelude.{Some}
use Rattle.text.specs.Fields.{natural_read}
use Rattle.text.proofs.Digits.{digits_end, digits_step, digits_other, capped_same}
use Rattle.text.proofs.digits_in.Goals as goal

pub returns-then-not-is_ascii_digit : goal.returns-then-not-is_ascii_digit
unfolding natural_read
returns-then-not-is_ascii_digit c =
    sym (c.loop-b.invariant.1 ∙ ap natural_read (digits_other _ _ _ c.loop-b-test.true (sym c.is_ascii_digit.ensures.value ∙ c.if-not-is_ascii_digit.true)))

pub loop-b-preserved : goal.loop-b-preserved
loop-b-preserved c = (
  omega arith,
  c.loop-b.invariant.1 ∙ ap natural_read (digits_step _ _ _ c.loop-b-test.true (sym c.is_ascii_digit.ensures.value ∙ c.if-not-is_ascii_digit.false)) ∙ capped_same _ _ _ (omega arith),
)

pub returns : goal.returns
unfolding natural_read
returns c = sym (c.loop-b.invariant.1 ∙ ap natural_read (digits_end _ _ _ c.loop-b-test.false) ∙ ap Some (omega arith))
