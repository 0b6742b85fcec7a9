-- `transfer::initial` meets its contract.
use Rattle.semantics.proofs.Prelude.{◌≡◌, ◌∙◌, ◌+◌, ◌<◌, ◌≤◌, arith, length, w32, to_z-of_z, sfits_of}
use Rattle.semantics.specs.Layout.{variable_size, variable_at, init_place}
use Rattle.state.specs.Rows.{id_word}
use Rattle.transfer.proofs.TransferTests.{initial_start, initial_turn}
use Rattle.transfer.proofs.initial.Goals as goal

pub loop-k-init : goal.loop-k-init
unfolding id_word
loop-k-init c =
    let v = c.variable_count-n in
    let o = c.args.out.now in
    let h : 0 < length o = omega arith in
    (omega (arith, c.set_location.auto.row, v.ensures.count), rw c.set_location.ensures (initial_start c.args.chart.now o v.result h v.ensures.count))

pub loop-k-preserved : goal.loop-k-preserved
loop-k-preserved c =
    let s = c.set_value in
    let o = c.loop-k.out in
    let k = c.loop-k.k in
    let n = c.variable_count-n.result in
    let h : k + 1 < length o = omega arith in
    let l : k + 1 ≤ n = omega arith in
    let next : variable_at k + init_place + variable_size ≡ variable_at (k + 1) + init_place = omega arith in (
      s.auto.row ∙ c.loop-k.invariant.0,
      rw (s.ensures, to_z-of_z w32 c.variable_init.result (sfits_of c.variable_init.type_inv), ← next) (c.loop-k.invariant.1 ∙ initial_turn c.args.chart.now o (k + 1) (variable_at k + init_place) n c.variable_init.result c.variable_init.ensures h l),
    )
