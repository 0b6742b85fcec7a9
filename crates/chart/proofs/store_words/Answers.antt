-- `chart::store_words` meets its contract.
use Rattle.semantics.proofs.Prelude.{}
use Rattle.words.proofs.Rows.{span}
use Rattle.chart.specs.Rows.{stored}
use Rattle.chart.proofs.store_words.Goals as goal

pub returns : goal.returns
unfolding stored
returns c = rw (span, c.copy_from_slice.ensures.after)
