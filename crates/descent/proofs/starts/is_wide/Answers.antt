use Rattle.semantics.proofs.Prelude.{refl, sym, ap, ◌∙◌, arith, sfits_of, ltb, ◌-ℤ◌, w32}
use Rattle.semantics.specs.Layout.{most_inputs}
use Rattle.semantics.specs.Search.{size}
use Rattle.words.proofs.Words.{told}
use Rattle.descent.specs.Rows.{edge_of}
use Rattle.descent.proofs.Inputs.{wide_by_range}
use Rattle.descent.proofs.starts.is_wide.Goals as goal

pub returns : goal.returns
returns c =
    let r = c.input_range-low.result in
    let p = told {z = r.0} (sfits_of {w = w32} {z = r.0} (omega arith)) refl in
    let q = told {z = r.1} (sfits_of {w = w32} {z = r.1} (omega arith)) refl in
    ap (ltb most_inputs) (c.size.ensures.size ∙ λ i. size (q i -ℤ p i))
    ∙ sym (wide_by_range (edge_of c.args.chart.now c.args.edge).edge.op r.0 r.1 c.input_range-low.ensures)
