-- `checks::waits_ok` meets its contract. The invariant: the list passes exactly when what is left passes, where the slots
-- named before are marked.
use Rattle.semantics.proofs.Prelude.{◌≡◌, ◌&&◌, length, drop}
use Rattle.semantics.specs.Layout.{most_slots}
use Rattle.semantics.specs.Lists.{all}
use Rattle.semantics.specs.Memory.{below, each_once}
use Rattle.checks.proofs.Marks.{passes}
use Rattle.checks.proofs.waits_ok.Given as goal

abbrev pub invariant-loop-x : goal.invariant-loop-x
invariant-loop-x l = (length l.marks ≡ most_slots) × ((all (below l.used) l.list && each_once l.list) ≡ passes l.used l.marks (drop l.x-index l.list))
