-- `writer::Writer::decimal` meets its contract: the digits before the last two are those of the hundredth.
use Rattle.semantics.proofs.Prelude.{arith, refl, ◌/◌}
use Rattle.writer.proofs.Decimals.{writes_pair}
use Rattle.writer.proofs.Writer.decimal.Goals as goal

pub returns-then-n-lt10000 : goal.returns-then-n-lt10000
returns-then-n-lt10000 c = writes_pair c.args.n _ c.if-n-lt100.false refl c.below_hundred-then-n-lt10000.ensures c.two.ensures

pub returns-then-n-lt1000000 : goal.returns-then-n-lt1000000
returns-then-n-lt1000000 c =
    let n = c.args.n in
    let first = writes_pair (n / 100) (n / 10000) (omega (arith, c.if-n-lt10000.false)) (omega arith) c.below_hundred-then-n-lt1000000.ensures c.two-then-n-lt1000000.ensures in
    writes_pair n (n / 100) (omega (arith, c.if-n-lt10000.false)) refl first c.two-then-n-lt1000000-2.ensures
