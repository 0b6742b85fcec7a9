use Rattle.semantics.proofs.Prelude.{sym, ◌∙◌, sfits_of, arith, w32}
use Rattle.words.proofs.Words.{told}
use Rattle.descent.proofs.Inputs.{one_value, values_of_in}
use Rattle.descent.proofs.input_range.Goals as goal

pub returns-in-In : goal.returns-in-In
returns-in-In c =
    let x = c.edge_operand in
    let y = c.edge_operand-in-In in
    let p = told {z = x.result.value} (sfits_of {w = w32} {z = x.result.value} (omega arith)) x.ensures.value in
    let q = told {z = y.result.value} (sfits_of {w = w32} {z = y.result.value} (omega arith)) y.ensures.value in
    rw (p, q) (values_of_in c.args.chart.now c.args.edge (sym c.edge_kind.ensures ∙ c.in-In.is))

pub returns-in_default : goal.returns-in_default
returns-in_default c = one_value c.args.chart.now c.args.edge (λ e. c.in_default.not-In (c.edge_kind.ensures ∙ e))
