-- `listing::Held::trace_back` meets its contract. The invariant: the way to the loop's slot, and what is written after that
-- slot, are the whole. A slot is never above its place, since parents fall.
use Rattle.semantics.proofs.Prelude.{◌≡◌, ◌++◌, ◌+◌, ◌≤◌, ◌<◌, length, drop, get_or}
use Rattle.semantics.specs.Path.{way_to}
use Rattle.listing.specs.Shown.{origins}
use Rattle.listing.proofs.Held.trace_back.Given as goal

abbrev pub invariant-loop-slot : goal.invariant-loop-slot
invariant-loop-slot l = record {
  long : length l.way ≡ length l.initial.way;
  inside : l.at < length l.way;
  below : l.slot.0 ≤ l.at;
  used : l.slot.0 < l.self.analysis.used;
  here : get_or l.way l.at 0 ≡ l.slot.0;
  left : way_to (origins l.self) l.initial.slot.0 l.initial.slot.0 ≡ way_to (origins l.self) l.slot.0 l.slot.0 ++ drop (l.at + 1) l.way;
}

abbrev pub decreases-loop-slot : goal.decreases-loop-slot
decreases-loop-slot l = l.slot.0
