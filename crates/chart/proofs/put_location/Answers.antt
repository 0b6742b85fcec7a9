-- `chart::put_location` meets its contract.
use Rattle.semantics.proofs.Prelude.{arith, sfits_of}
use Rattle.semantics.specs.Layout.{name_size}
use Rattle.semantics.specs.Encoding.{kind_word}
use Rattle.words.proofs.Words.{told}
use Rattle.chart.proofs.Storing.{byte_stored}
use Rattle.chart.proofs.put_location.Goals as goal

pub loop-i-preserved : goal.loop-i-preserved
loop-i-preserved c =
    let l = c.loop-i in
    let b = c.from-in-loop-i in
    rw l.invariant (byte_stored (kind_word c.args.error) _ c.args.name.now l.i name_size c.loop-i-test.true (omega arith) (told (sfits_of {z = b.result} b.type_inv) b.ensures))
