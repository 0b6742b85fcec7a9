-- `state::join_row` meets its contract: the row is what is joined so far, and then what is left to join.
use Rattle.semantics.proofs.Prelude.{◌≡◌, ◌∙◌, ◌<◌, arith, length, w32, to_z, of_z, eqb, rules}
use Rattle.semantics.specs.Chart.{eq_z}
use Rattle.semantics.specs.Encoding.{word_at}
use Rattle.state.specs.Rows.{word_join}
use Rattle.state.proofs.RowLoops.{join_turn, same_turn}
use Rattle.state.proofs.join_row.Goals as goal

pub loop-i-preserved : goal.loop-i-preserved
loop-i-preserved c =
    let e = c.args.e.now in
    let s = c.loop-i.s in
    let i = c.loop-i.i in
    let x = word_at e i in
    let y = word_at s i in
    let z = c.join_word-joined.result in
    let joined : z ≡ word_join x y = search rules in
    let he : i < length e = omega arith in
    let hs : i < length s = omega arith in
    let bz : to_z w32 (of_z w32 z) ≡ z = search rules in
    let flag : eqb (of_z w32 z) (of_z w32 y) ≡ eq_z z y = search rules in
    (rw bz (c.loop-i.invariant.0 ∙ join_turn e s i he hs z joined), rw (flag, bz) (c.loop-i.invariant.1 ∙ same_turn e s i he hs z joined c.loop-i.same))
