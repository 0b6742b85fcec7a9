-- `writer::Writer::large` ends: the hundredth is smaller.
use Rattle.writer.proofs.Writer.+large.Given as goal

abbrev pub decreases-large : goal.decreases-large
decreases-large l = l.n
