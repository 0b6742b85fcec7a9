-- `chart::edges_fine` meets its contract.
use Rattle.semantics.proofs.Prelude.{ap, ◌∙◌, arith}
use Rattle.semantics.specs.Layout.{edge_size}
use Rattle.chart.specs.Encoded.{edge_fine}
use Rattle.chart.proofs.RowLoops.{rows_turn}
use Rattle.chart.proofs.RowParts.{edge_part}
use Rattle.chart.proofs.edges_fine.Goals as goal

pub loop-i-preserved : goal.loop-i-preserved
loop-i-preserved c =
    let a = c.args in
    let l = c.loop-i in
    let test = edge_fine a.vars.now a.v a.l in
    let e = c.edge_fine-ok.ensures ∙ ap test c.row_at.ensures in
    rows_turn test (λ r. r) edge_size a.n a.edges.now (edge_part a.vars.now a.v a.l) l.ok l.i (omega arith) l.invariant c.loop-i-test.true c.edge_fine-ok.result e
