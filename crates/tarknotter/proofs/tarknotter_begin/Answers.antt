-- `tarknotter::tarknotter_begin` meets its contract: of named settings it is a beginning.
use Rattle.semantics.proofs.Prelude.{◌≡◌, sym, rules, w32, to_z, of_z}
use Rattle.checks.specs.Form.{lent}
use Rattle.tarknotter.specs.Records.{analysis_in}
use Rattle.tarknotter.proofs.ByCodes.{by_codes, begin_named}
use Rattle.tarknotter.proofs.tarknotter_begin.Goals as goal

pub returns : goal.returns
returns c =
    let a = c.args in
    let p : to_z w32 (of_z w32 a.capacity) ≡ a.capacity = search rules in
    let q : to_z w32 (of_z w32 a.budget) ≡ a.budget = search rules in
    let m = lent a.table.now a.list.now (analysis_in a.record) in
    rw (sym (begin_named a.chart.now a.merge a.stop a.order a.capacity a.budget m (sym c.if-not-settings_named.ensures)))
    (by_codes _ _ _ _ _ _ (rw (p, q, c.settings_in-settings.ensures) at (c.begin.ensures (analysis_in a.record))) c.answered-2.ensures.reply c.answered-2.ensures.record)
