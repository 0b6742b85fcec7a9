-- `chart::rows_fine` meets its contract.
use Rattle.semantics.proofs.Prelude.{}
use Rattle.semantics.specs.Layout.{counts_size}
use Rattle.words.proofs.Rows.{tail}
use Rattle.chart.specs.Encoded.{rows_fine}
use Rattle.chart.proofs.rows_fine.Goals as goal

pub returns : goal.returns
unfolding rows_fine
returns c =
    let ws = c.args.chart.now in
    rw (
      c.edges_fine.ensures,
      c.names_differ.ensures,
      c.locations_fine.ensures,
      c.vars_ok.ensures,
      tail ws counts_size,
      tail ws c.locations_at.result,
      tail ws c.edges_at.result,
      c.locations_at.ensures.place,
      c.edges_at.ensures.place,
      c.edge_count.ensures.count,
      c.location_count-l.ensures.count,
      c.variable_count-v.ensures.count,
    )
