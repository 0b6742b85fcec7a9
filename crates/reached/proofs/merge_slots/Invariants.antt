-- `reached::merge_slots` meets its contract.
use Rattle.semantics.proofs.Prelude.{◌≡◌, ◌++◌, ◌-◌, ◌*◌, length, take, drop}
use Rattle.semantics.specs.Tidy.{Queue}
use Rattle.state.specs.Rows.{rows_merge, rows_of}
use Rattle.waitlist.specs.Waits.{waits, Stored}
use Rattle.reached.specs.Reached.{rewaits}
use Rattle.reached.proofs.merge_slots.Given as goal

abbrev pub invariant-loop-layout : goal.invariant-loop-layout
invariant-loop-layout l =
    (drop (l.id.0 * l.layout.stride) l.table ≡ drop (l.id.0 * l.layout.stride) l.initial.table)
    × (length l.table ≡ length l.initial.table)
    × (rows_merge l.e l.layout l.used l.initial.table ≡ take (l.id.0 * l.layout.stride) l.table ++ rows_merge l.e l.layout (l.used - l.id.0) (drop (l.id.0 * l.layout.stride) l.table))
    × (length l.list ≡ length l.initial.list)
    × Stored l.list l.count (waits l.count l.list)
    × Queue l.used (waits l.count l.list)
    × (rewaits l.e 0 (rows_of l.layout l.used l.initial.table) (waits l.waiting l.initial.list) ≡ rewaits l.e l.id.0 (rows_of l.layout (l.used - l.id.0) (drop (l.id.0 * l.layout.stride) l.table)) (waits l.count l.list))

abbrev pub decreases-loop-layout : goal.decreases-loop-layout
decreases-loop-layout l = l.used - l.id.0
