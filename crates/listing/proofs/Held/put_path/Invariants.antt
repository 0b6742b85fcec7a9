-- `listing::Held::put_path` meets its contract: with the lines of the slots left, all are written.
use Rattle.semantics.proofs.Prelude.{ℕ, List, drop}
use Rattle.semantics.specs.Lists.{each}
use Rattle.semantics.specs.Encoding.{decode}
use Rattle.semantics.specs.Memory.{load}
use Rattle.semantics.specs.Path.{path_line}
use Rattle.writer.proofs.Written.{Completes}
use Rattle.listing.specs.declared.Held.{Held}
use Rattle.listing.specs.Shown.{memory}
use Rattle.listing.proofs.Held.put_path.Given as goal

abbrev lines : Held → List ℕ → List ℕ
lines h slots = each (path_line (decode h.chart) (load (decode h.chart) (memory h))) slots

abbrev pub invariant-loop-id : goal.invariant-loop-id
invariant-loop-id l = Completes (lines l.self l.slots) l.initial.out (lines l.self (drop l.id-index l.slots)) l.out
