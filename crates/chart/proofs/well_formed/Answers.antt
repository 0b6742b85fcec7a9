-- `chart::well_formed` meets its contract.
use Rattle.semantics.proofs.Prelude.{sym, ◌∙◌, arith, length, lt-leb}
use Rattle.chart.proofs.WellFormed.{few_locations, no_counts, no_room, by_rows}
use Rattle.chart.proofs.well_formed.Goals as goal

pub returns-then-not-counts_fine : goal.returns-then-not-counts_fine
returns-then-not-counts_fine c = sym (no_counts c.args.chart.now (sym c.counts_fine.ensures ∙ c.if-not-counts_fine.true))

pub rows_fine-requires : goal.rows_fine-requires
rows_fine-requires c = (omega (arith, c.chart_size.ensures), few_locations c.args.chart.now (sym c.counts_fine.ensures ∙ c.if-not-counts_fine.false))

pub returns-then-chart_size-chart : goal.returns-then-chart_size-chart
returns-then-chart_size-chart c =
    let ws = c.args.chart.now in
    c.rows_fine.ensures ∙ sym (by_rows ws (omega (arith, c.chart_size.ensures)) (sym c.counts_fine.ensures ∙ c.if-not-counts_fine.false))

pub returns-else-chart_size-chart : goal.returns-else-chart_size-chart
returns-else-chart_size-chart c =
    let ws = c.args.chart.now in
    lt-leb c.chart_size.result (length ws) (omega arith) ∙ sym (no_room ws (omega (arith, c.chart_size.ensures)))
