-- `checks::InUse::origins_ok` meets its contract.
use Rattle.semantics.proofs.Prelude.{◌≡◌, sym, ap, ◌∙◌, Bool, true, false, ◌&&◌, List, ℕ, suc, ◌+◌, ◌-◌, ◌*◌, ◌<◌, arith, ℤ, drop}
use Rattle.semantics.specs.Encoding.{decode}
use Rattle.semantics.specs.Memory.{origin_in, origins_in, origin_ok, origins_ok}
use Rattle.state.specs.declared.Layout.{Layout}
use Rattle.state.specs.Rows.{tail_of}
use Rattle.state.proofs.Layouts.{LayoutOf, is_layout}
use Rattle.checks.proofs.Origins.{origins_ok_turn}
use Rattle.checks.proofs.InUse.origins_ok.Goals as goal

-- the origin of a slot in use is tested, which says b, and those after it are left
turn : (chart table : List ℤ) (y : Layout) → LayoutOf (decode chart) y → (ls : List ℕ) (used s : ℕ) → s < used → (whole b r : Bool) → r ≡ b
    → r ≡ origin_ok (decode chart) ls s (origin_in (tail_of y s table))
    → whole ≡ origins_ok (decode chart) ls s (origins_in (decode chart) (used - s) (drop (s * y.stride) table))
    → whole ≡ b && origins_ok (decode chart) ls (s + 1) (origins_in (decode chart) (used - (s + 1)) (drop ((s + 1) * y.stride) table))
turn chart table y o ls used s h whole b r e said inv =
    let left : used - s ≡ suc (used - (s + 1)) = omega (arith, h) in
    inv ∙ ap (λ (n : ℕ). origins_ok (decode chart) ls s (origins_in (decode chart) n (drop (s * y.stride) table))) left
    ∙ origins_ok_turn (decode chart) y o ls table s (used - (s + 1)) b (sym said ∙ e)

pub returns-then-not-origin_ok : goal.returns-then-not-origin_ok
returns-then-not-origin_ok c =
    let s = c.args.self.now in
    let said = rw c.slot.ensures.id at c.origin_ok.ensures in
    sym (turn s.chart.now s.table.now s.layout (is_layout s.chart.now s.layout s.laid.0) _ s.used c.loop-id.id c.loop-id-test.true _ false _ c.if-not-origin_ok.true said c.loop-id.invariant)

pub loop-id-preserved : goal.loop-id-preserved
loop-id-preserved c =
    let s = c.args.self.now in
    let said = rw c.slot.ensures.id at c.origin_ok.ensures in
    turn s.chart.now s.table.now s.layout (is_layout s.chart.now s.layout s.laid.0) _ s.used c.loop-id.id c.loop-id-test.true _ true _ c.if-not-origin_ok.false said c.loop-id.invariant
