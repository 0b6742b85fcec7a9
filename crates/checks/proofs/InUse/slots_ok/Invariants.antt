-- `checks::InUse::slots_ok` meets its contract. The invariant: the slots in use pass exactly when those from the loop's
-- slot on do.
use Rattle.semantics.proofs.Prelude.{◌≡◌, ◌-◌, ◌*◌, drop}
use Rattle.semantics.specs.Encoding.{decode}
use Rattle.semantics.specs.Memory.{slots_ok}
use Rattle.checks.proofs.InUse.slots_ok.Given as goal

abbrev pub invariant-loop-id : goal.invariant-loop-id
invariant-loop-id l =
    slots_ok (decode l.self.chart.now) l.self.used l.self.table.now ≡ slots_ok (decode l.self.chart.now) (l.self.used - l.id) (drop (l.id * l.self.layout.stride) l.self.table.now)
