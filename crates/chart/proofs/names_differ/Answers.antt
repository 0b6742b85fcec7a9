-- `chart::names_differ` meets its contract.
use Rattle.semantics.proofs.Prelude.{◌≡◌, ◌*◌, take, drop, arith, sfits_of, length-set}
use Rattle.semantics.specs.Layout.{location_size}
use Rattle.words.proofs.Words.{told}
use Rattle.chart.specs.Encoded.{name_number}
use Rattle.chart.proofs.NameNumbers.{numbers_turn}
use Rattle.chart.proofs.names_differ.Goals as goal

pub loop-i-preserved : goal.loop-i-preserved
loop-i-preserved c =
    let l = c.loop-i in
    let k = c.name_number in
    let ws = c.args.locations.now in
    let own : k.result ≡ name_number (take location_size (drop (location_size * l.i) ws)) = cc in
    let e = told (sfits_of {z = k.result} k.type_inv) own in
    (simp length-set l.invariant.0, numbers_turn l.numbers ws l.i (omega arith) (omega arith) l.invariant.1 _ e)
