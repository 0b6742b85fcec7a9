-- `writer::Writer::large` meets its contract: the digits before the last two are those of the hundredth.
use Rattle.semantics.proofs.Prelude.{refl}
use Rattle.writer.proofs.Decimals.{writes_pair}
use Rattle.writer.proofs.Writer.+large.Goals as goal

pub returns : goal.returns
returns t c = writes_pair c.args.n _ c.if-n-lt100.false refl c.large.ensures c.two.ensures
