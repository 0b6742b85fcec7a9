-- `chart::vars_ok` meets its contract.
use Rattle.semantics.specs.Layout.{variable_size}
use Rattle.semantics.specs.Encoding.{var_in, var_ok}
use Rattle.chart.proofs.RowLoops.{RowsPassed}
use Rattle.chart.proofs.vars_ok.Given as goal

abbrev pub invariant-loop-i : goal.invariant-loop-i
invariant-loop-i l = RowsPassed var_ok var_in variable_size l.n l.vars l.ok l.i
