-- `analysis::resume` meets its contract: a chart in form has numbers that do not wrap and rows that are not too wide.
use Rattle.semantics.proofs.Prelude.{ap, ◌∙◌, arith, ◌≤◌, ◌<◌}
use Rattle.semantics.specs.Layout.{index_limit}
use Rattle.chart.proofs.Places.{edges_near}
use Rattle.state.specs.Rows.{layout_of, width_of, most_width}
use Rattle.state.proofs.Layouts.{is_layout}
use Rattle.transfer.specs.Transfer.{edge_at}
use Rattle.analysis.proofs.ChartSizes.{narrow}
use Rattle.analysis.proofs.resume.Goals as goal

pub run_core-requires : goal.run_core-requires
run_core-requires c =
    let ws = c.args.chart.now in
    let ok = c.words-chart.ensures.in_form in
    let laid = c.layout_of-layout.ensures.layout ∙ ap layout_of c.words-chart.ensures.words in
    let small : edge_at c.words-chart.result.now c.edge_count-edges.result < index_limit = rw (c.edge_count-edges.ensures.count, c.words-chart.ensures.words) (edges_near ws ok) in
    let thin : width_of c.layout_of-layout.result ≤ most_width = omega (arith, (is_layout ws _ laid).wide, narrow ws ok) in
    (rw (laid, c.edge_count-edges.ensures.count, c.words-chart.ensures.words) c.requires.0, c.requires.1, thin, small)
