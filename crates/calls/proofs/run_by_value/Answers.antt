-- `calls::run_by_value` meets its contract: refused, nothing has changed; else the run is put into the words lent.
use Rattle.semantics.proofs.Prelude.{refl, [], w32, to_z-of_z}
use Rattle.std.proofs.lemmas.Result.{err_from_is_err_and}
use Rattle.semantics.specs.Outcomes.{run_outcome}
use Rattle.checks.specs.Form.{lent}
use Rattle.calls.proofs.Refusals.{ends_refused, ends_through}
use Rattle.calls.proofs.run_by_value.Goals as goal

pub returns-in_err-chart : goal.returns-in_err-chart
unfolding run_outcome
returns-in_err-chart c =
    let s = c.args in
    let said = rw (to_z-of_z w32 s.budget c.ranges.budget) at c.in_err-chart.ensures.refused in
    let p = err_from_is_err_and c.from_residual.result c.from_residual.ensures.1 in
    rw (p.1, p.2) (ends_refused c.in_err-chart.field-0.0 _ (lent s.table.now s.list.now s.a) [] _ said)

pub returns : goal.returns
unfolding run_outcome
returns c =
    let s = c.args in
    let k = c.run_through in
    let said = rw (to_z-of_z w32 s.budget c.ranges.budget) at c.in_ok-chart.ensures.refused in
    ends_through _ (lent s.table.now s.list.now s.a) (lent k.new.table k.new.list k.result) [] _ said refl
    (rw (c.in_ok-chart.ensures.chart, to_z-of_z w32 s.budget c.ranges.budget) at k.ensures)
