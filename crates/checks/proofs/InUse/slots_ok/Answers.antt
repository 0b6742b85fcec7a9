-- `checks::InUse::slots_ok` meets its contract.
use Rattle.semantics.proofs.Prelude.{◌≡◌, sym, ap, ◌∙◌, Bool, true, false, ◌&&◌, List, ℕ, suc, ◌+◌, ◌-◌, ◌*◌, ◌<◌, arith, ℤ, drop, non_neg}
use Rattle.semantics.specs.Lists.{all}
use Rattle.semantics.specs.Encoding.{decode}
use Rattle.semantics.specs.Memory.{row_ok, slots_ok}
use Rattle.state.specs.declared.Layout.{Layout}
use Rattle.state.specs.Rows.{row_of, tail_of}
use Rattle.state.proofs.Layouts.{LayoutOf, is_layout}
use Rattle.checks.proofs.FormTests.{slots_ok_turn}
use Rattle.checks.proofs.InUse.slots_ok.Goals as goal

-- a slot in use is tested, which says b, and those after it are left
turn : (chart table : List ℤ) (y : Layout) → LayoutOf (decode chart) y → (used s : ℕ) → s < used → (whole b r q : Bool) → r && q ≡ b
    → r ≡ row_ok (decode chart) (row_of y s table) → q ≡ all non_neg (tail_of y s table)
    → whole ≡ slots_ok (decode chart) (used - s) (drop (s * y.stride) table)
    → whole ≡ b && slots_ok (decode chart) (used - (s + 1)) (drop ((s + 1) * y.stride) table)
turn chart table y o used s h whole b r q e row tail inv =
    let left : used - s ≡ suc (used - (s + 1)) = omega (arith, h) in
    inv ∙ ap (λ (n : ℕ). slots_ok (decode chart) n (drop (s * y.stride) table)) left
    ∙ slots_ok_turn chart table y o s (used - (s + 1)) b (sym (λ j. row j && tail j) ∙ e)

pub row_ok-row-requires : goal.row_ok-row-requires
row_ok-row-requires c =
    let s = c.args.self.now in
    let laid = is_layout s.chart.now s.layout s.laid.0 in
    rw (c.words-words.ensures.words, c.row_of.ensures.long) (laid.wide, s.laid.1)

pub returns-then-not-row-tail : goal.returns-then-not-row-tail
returns-then-not-row-tail c =
    let s = c.args.self.now in
    let row = rw (c.words-words.ensures.words, c.row_of.ensures.row, c.slot-slot.ensures.id) at c.row_ok-row.ensures in
    let tail = rw (c.tail_of.ensures.tail, c.slot-slot.ensures.id) at c.tail_ok-tail.ensures in
    sym (turn s.chart.now s.table.now s.layout (is_layout s.chart.now s.layout s.laid.0) s.used c.loop-id.id c.loop-id-test.true _ false _ _ c.if-not-row-tail.true row tail c.loop-id.invariant)

pub loop-id-preserved : goal.loop-id-preserved
loop-id-preserved c =
    let s = c.args.self.now in
    let row = rw (c.words-words.ensures.words, c.row_of.ensures.row, c.slot-slot.ensures.id) at c.row_ok-row.ensures in
    let tail = rw (c.tail_of.ensures.tail, c.slot-slot.ensures.id) at c.tail_ok-tail.ensures in
    turn s.chart.now s.table.now s.layout (is_layout s.chart.now s.layout s.laid.0) s.used c.loop-id.id c.loop-id-test.true _ true _ _ c.if-not-row-tail.false row tail c.loop-id.invariant
