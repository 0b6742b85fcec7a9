-- `listing::Held::put_listing` meets its contract: with the lines of the slots left, all are written.
use Rattle.semantics.proofs.Prelude.{List, ℕ, ◌-◌, ◌*◌, ℤ, drop}
use Rattle.semantics.specs.Encoding.{decode}
use Rattle.semantics.specs.Memory.{states_in}
use Rattle.semantics.specs.Listing.{slots_text}
use Rattle.writer.proofs.Written.{Completes}
use Rattle.listing.specs.declared.Held.{Held}
use Rattle.listing.specs.Shown.{waiting}
use Rattle.listing.proofs.Held.put_listing.Given as goal

-- the lines of n slots whose words are t, from slot s on
abbrev lines : Held → ℕ → ℕ → List ℤ → List ℕ
lines h s n t = slots_text (decode h.chart) (waiting h) s (states_in (decode h.chart) n t)

abbrev pub invariant-loop-id : goal.invariant-loop-id
invariant-loop-id l = Completes (lines l.self 0 l.self.analysis.used l.self.table.now) l.initial.out (lines l.self l.id (l.self.analysis.used - l.id) (drop (l.id * l.self.layout.stride) l.self.table.now)) l.out
