-- `listing::put_value` meets its contract.
use Rattle.semantics.proofs.Prelude.{w32, sfits_lit, to_z-of_z}
use Rattle.semantics.specs.Layout.{top_word}
use Rattle.words.proofs.Words.{bits_eq, bits_ne}
use Rattle.writer.proofs.Written.{writes_then}
use Rattle.listing.proofs.put_value.Goals as goal

pub returns-then-w-eq-TOP : goal.returns-then-w-eq-TOP
returns-then-w-eq-TOP c = rw (bits_eq w32 c.ranges.w (sfits_lit tt) c.if-w-eq-TOP.true) (writes_then c.byte.ensures c.byte-then-w-eq-TOP.ensures)

pub returns : goal.returns
returns c =
    let put = rw (to_z-of_z w32 c.args.w c.ranges.w) at c.signed.ensures in
    rw (bits_ne w32 {a = c.args.w} {b = top_word} c.ranges.w (sfits_lit tt) c.if-w-eq-TOP.false) (writes_then c.byte.ensures put)
