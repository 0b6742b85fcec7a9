-- `chart::vars_ok` meets its contract.
use Rattle.semantics.proofs.Prelude.{ap, ◌∙◌, arith, List, ℤ}
use Rattle.semantics.specs.Layout.{variable_size}
use Rattle.semantics.specs.Encoding.{var_in, var_ok}
use Rattle.chart.proofs.RowLoops.{rows_turn}
use Rattle.chart.proofs.RowParts.{var_part}
use Rattle.chart.proofs.vars_ok.Goals as goal

pub loop-i-preserved : goal.loop-i-preserved
loop-i-preserved c =
    let l = c.loop-i in
    let e = c.var_row_ok-ok.ensures ∙ ap (λ (r : List ℤ). var_ok (var_in r)) c.row_at.ensures in
    rows_turn var_ok var_in variable_size c.args.n c.args.vars.now (λ r h. ap var_ok (var_part r h)) l.ok l.i (omega arith) l.invariant c.loop-i-test.true c.var_row_ok-ok.result e
