-- `analysis::visit_all` meets its contract.
use Rattle.semantics.proofs.Prelude.{◌≡◌, ◌++◌, ◌+◌, ◌-◌, ◌≤◌, length}
use Rattle.semantics.specs.Algorithm.{brought, visit_all, takers}
use Rattle.state.specs.Rows.{rows_of, origins_of}
use Rattle.waitlist.specs.Waits.{waits}
use Rattle.transfer.specs.Transfer.{edges_from}
use Rattle.analysis.specs.Loaded.{Ready, domain_of}
use Rattle.analysis.proofs.visit_all.Given as goal

abbrev pub invariant-loop-slot : goal.invariant-loop-slot
invariant-loop-slot l =
    Ready l.outline.layout l.at l.table l.list l.copy l.links
    × (1 ≤ l.id.0)
    × (visit_all (domain_of l.outline.chart.now) l.initial.at.settings (length l.initial.list) l.copy (edges_from 0 l.outline.edges) (rows_of l.outline.layout l.initial.at.used l.initial.table) (waits l.initial.at.waiting l.initial.list)
    ≡ visit_all (domain_of l.outline.chart.now) l.at.settings (length l.initial.list) l.copy (edges_from (l.id.0 - 1) (l.outline.edges - (l.id.0 - 1))) (rows_of l.outline.layout l.at.used l.table) (waits l.at.waiting l.list))
    × (origins_of l.outline.layout l.initial.at.used l.initial.table
    ++ brought l.slot.0 (takers (domain_of l.outline.chart.now) l.initial.at.settings (length l.initial.list) l.copy (edges_from 0 l.outline.edges) (rows_of l.outline.layout l.initial.at.used l.initial.table) (waits l.initial.at.waiting l.initial.list))
    ≡ origins_of l.outline.layout l.at.used l.table
    ++ brought l.slot.0 (takers (domain_of l.outline.chart.now) l.at.settings (length l.initial.list) l.copy (edges_from (l.id.0 - 1) (l.outline.edges - (l.id.0 - 1))) (rows_of l.outline.layout l.at.used l.table) (waits l.at.waiting l.list)))

abbrev pub decreases-loop-slot : goal.decreases-loop-slot
decreases-loop-slot l = l.outline.edges + 1 - l.id.0
