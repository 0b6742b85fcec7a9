-- `listing::put_values` meets its contract: with the values left, all are written.
use Rattle.semantics.proofs.Prelude.{drop}
use Rattle.writer.proofs.Written.{Completes}
use Rattle.listing.specs.Pieces.{values_text}
use Rattle.listing.proofs.put_values.Given as goal

abbrev pub invariant-loop-w : goal.invariant-loop-w
invariant-loop-w l = Completes (values_text l.values) l.initial.out (values_text (drop l.w-index l.values)) l.out
