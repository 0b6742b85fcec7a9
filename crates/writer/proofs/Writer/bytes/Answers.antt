-- `writer::Writer::bytes` meets its contract: where all fit, they are copied over their place.
use Rattle.semantics.proofs.Prelude.{◌≡◌, ◌+◌, arith, refl, length}
use Rattle.words.proofs.Rows.{span}
use Rattle.writer.proofs.Written.{put_whole}
use Rattle.writer.proofs.Writer.bytes.Goals as goal

pub returns : goal.returns
returns c =
    let e : c.saturating_add-end.result ≡ c.args.self.now.at + length c.args.s.now = omega arith in
    record { same = refl; put = rw (e, span, c.copy_from_slice.ensures.after) (put_whole _ _ _ (omega arith) (omega arith)) }
