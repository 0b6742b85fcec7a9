use Rattle.semantics.proofs.Prelude.{◌||◌}
use Rattle.semantics.specs.RunListing.{too_wide}
use Rattle.descent.proofs.starts.is_too_wide.Goals as goal

pub returns : goal.returns
unfolding too_wide
returns c = λ i. c.has_wide_input.ensures i || c.has_many_starts.ensures i
