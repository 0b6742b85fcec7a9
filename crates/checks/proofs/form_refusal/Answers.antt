-- `checks::form_refusal` meets its contract: 21 where 20 and 14 refuse nothing.
use Rattle.semantics.proofs.Prelude.{sym, length}
use Rattle.semantics.specs.Encoding.{decode}
use Rattle.semantics.specs.Outcomes.{size_of}
use Rattle.semantics.proofs.FirstCase.{none_met, enough}
use Rattle.checks.proofs.form_refusal.Goals as goal

pub analysis_ok-requires : goal.analysis_ok-requires
analysis_ok-requires c =
    let s = c.args in
    let none = none_met (size_of s.words.now s.a.capacity (length s.table.now) (length s.list.now)) tt (sym c.in_ok-chart.ensures.refused) in
    rw c.in_ok-chart.ensures.chart (enough (decode s.words.now) s.a.capacity (length s.table.now) (length s.list.now) none.1.0)
