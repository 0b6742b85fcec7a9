-- `listing::put_name` meets its contract: with the bytes left, the name is written after the tab.
use Rattle.semantics.proofs.Prelude.{map, nat_abs, drop}
use Rattle.writer.proofs.Written.{Completes}
use Rattle.listing.proofs.put_name.Given as goal

abbrev pub invariant-loop-w : goal.invariant-loop-w
invariant-loop-w l = Completes (map nat_abs l.name) l.initial.out (drop l.w-index (map nat_abs l.name)) l.out
