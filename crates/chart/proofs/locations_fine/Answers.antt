-- `chart::locations_fine` meets its contract.
use Rattle.semantics.proofs.Prelude.{ap, ◌∙◌, arith}
use Rattle.semantics.specs.Layout.{location_size}
use Rattle.chart.specs.Encoded.{location_fine}
use Rattle.chart.proofs.RowLoops.{rows_turn}
use Rattle.chart.proofs.RowParts.{location_part}
use Rattle.chart.proofs.locations_fine.Goals as goal

pub loop-i-preserved : goal.loop-i-preserved
loop-i-preserved c =
    let l = c.loop-i in
    let e = c.location_fine-ok.ensures ∙ ap location_fine c.row_at.ensures in
    rows_turn location_fine (λ r. r) location_size c.args.n c.args.locations.now location_part l.ok l.i (omega arith) l.invariant c.loop-i-test.true c.location_fine-ok.result e
