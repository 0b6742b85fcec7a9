-- `listing::Held::new` meets its contract.
use Rattle.semantics.proofs.Prelude.{sym}
use Rattle.checks.specs.Form.{lent}
use Rattle.listing.proofs.TextPieces.{waiting_long}
use Rattle.listing.proofs.Refusals.{unrefused}
use Rattle.listing.proofs.Held.new.Goals as goal

pub slice_bounds-marks_of-end : goal.slice_bounds-marks_of-end
slice_bounds-marks_of-end c = let a = c.args in sym (waiting_long a.words.now (lent a.table.now a.list.now a.analysis) (unrefused a.words.now (lent a.table.now a.list.now a.analysis) c.in_ok-chart.ensures.refused))
