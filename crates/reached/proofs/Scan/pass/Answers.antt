-- `reached::Scan::pass` meets its contract: a slot that a word tells apart is none that the row lies under.
use Rattle.semantics.proofs.Prelude.{◌≡◌, sym, ap, ◌∙◌, false, arith}
use Rattle.state.specs.Rows.{row_leq, row_of}
use Rattle.state.proofs.RowLoops.{apart_over}
use Rattle.reached.proofs.SlotLoops.{slot_tested}
use Rattle.reached.proofs.Scan.pass.Goals as goal

pub loop-preserved : goal.loop-preserved
loop-preserved c =
    let a = c.args in
    let n = a.self.now in
    let i = c.loop.invariant in
    let s = c.loop.counter in
    let next = c.after-next in
    let is = next.ensures.id ∙ i.at in
    let told = sym c.told_apart.ensures ∙ c.if-not-told_apart.false in
    let over : row_leq n.e.now (row_of n.layout s n.table.now) ≡ false =
    ap (row_leq n.e.now) (rw is at (sym c.row_of.ensures.row)) ∙ apart_over n.e.now c.row_of.result.now a.i (c.row_of.ensures.long ∙ sym n.laid.row) c.requires.0 told in
    record {
      placed = next.ensures.placed;
      at = omega (arith, is);
      later = omega (arith, i.later, i.at, is);
      apart = i.apart ∙ rw (i.at, is) (slot_tested n.layout n.used n.e.now n.table.now s false c.loop-test.true over);
    }
