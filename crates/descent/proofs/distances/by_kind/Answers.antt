use Rattle.semantics.proofs.Prelude.{◌∙◌}
use Rattle.semantics.proofs.Bools.{from_true, from_false}
use Rattle.descent.proofs.DistanceTests.{kind_says}
use Rattle.descent.proofs.distances.by_kind.Goals as goal

pub returns : goal.returns
returns c = λ h. absurd (from_false c.if-is_error_location.false (from_true ((rw c.words.ensures.words at c.is_error_location.ensures) ∙ kind_says c.args.chart.now c.words.ensures.in_form c.args.l.0 h)))
