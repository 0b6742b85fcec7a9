-- `writer::Writer::each` meets its contract: with the bytes left, all are written.
use Rattle.semantics.proofs.Prelude.{add-one, drop_of_length-le, drop-cons}
use Rattle.writer.proofs.Written.{one_more, all_put}
use Rattle.writer.proofs.Writer.each.Goals as goal

pub loop-b-preserved : goal.loop-b-preserved
loop-b-preserved c = one_more c.loop-b.invariant (rw (add-one, drop-cons c.args.s.now c.loop-b.b-index 0 c.loop-b-test.true)) c.byte.ensures

pub returns : goal.returns
returns c = all_put c.loop-b.invariant (drop_of_length-le _ c.loop-b-test.false)
