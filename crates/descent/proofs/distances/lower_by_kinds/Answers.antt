use Rattle.semantics.proofs.Prelude.{ap, ◌∙◌, arith}
use Rattle.semantics.specs.Encoding.{location_count}
use Rattle.descent.proofs.DistanceTests.{every_location}
use Rattle.descent.proofs.distances.lower_by_kinds.Goals as goal

pub returns : goal.returns
returns c =
    let count = c.location_count-location-end.ensures.count ∙ ap location_count c.words.ensures.words in
    λ e. every_location c.args.chart.now c.words.ensures.in_form c.loop-location.dist (λ l h. (c.loop-location.invariant e).1 l (omega arith))
