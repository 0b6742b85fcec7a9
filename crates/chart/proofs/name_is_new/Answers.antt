-- `chart::name_is_new` meets its contract.
use Rattle.semantics.proofs.Prelude.{ap, ◌∙◌, not, arith, List, ℤ}
use Rattle.semantics.specs.Layout.{location_size}
use Rattle.semantics.specs.Encoding.{loc_in}
use Rattle.chart.proofs.RowLoops.{rows_turn}
use Rattle.chart.proofs.RowParts.{loc_part}
use Rattle.chart.proofs.Names.{other_name}
use Rattle.chart.proofs.name_is_new.Goals as goal

pub loop-i-preserved : goal.loop-i-preserved
loop-i-preserved c =
    let l = c.loop-i in
    let test = other_name c.args.row.now in
    let e = ap not c.same_name.ensures ∙ ap (λ (r : List ℤ). test (loc_in r)) c.row_at.ensures in
    rows_turn test loc_in location_size c.args.n c.args.locations.now (λ r h. ap test (loc_part r h)) l.ok l.i (omega arith) l.invariant c.loop-i-test.true (not c.same_name.result) e
