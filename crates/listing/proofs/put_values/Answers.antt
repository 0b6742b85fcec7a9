-- `listing::put_values` meets its contract: with the values left, all are written.
use Rattle.semantics.proofs.Prelude.{pos, rules, get_or, drop_of_length-le}
use Rattle.semantics.specs.Encoding.{val}
use Rattle.semantics.specs.Listing.{val_text}
use Rattle.writer.specs.Writers.{Writes}
use Rattle.writer.proofs.Written.{one_more, all_put}
use Rattle.listing.specs.Pieces.{tabbed, values_text}
use Rattle.listing.proofs.TextPieces.{values_turn}
use Rattle.listing.proofs.put_values.Goals as goal

pub loop-w-preserved : goal.loop-w-preserved
loop-w-preserved c =
    let put : Writes (tabbed (val_text (val (get_or c.args.values.now c.loop-w.w-index (pos 0))))) c.loop-w.out c.put_value.new.out = search rules in
    one_more c.loop-w.invariant (values_turn _ c.loop-w.w-index c.loop-w-test.true) put

pub returns : goal.returns
unfolding values_text
returns c = all_put c.loop-w.invariant (rw (drop_of_length-le _ c.loop-w-test.false))
