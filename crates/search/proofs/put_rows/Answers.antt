use Rattle.semantics.proofs.Prelude.{◌≡◌, sym, ap, subst, ◌∙◌, ◌++◌, List, ℕ, ℤ, suc, ◌+◌, ◌-◌, ◌<◌, arith, length, take, drop, length-drop, take_all}
use Rattle.semantics.specs.Chart.{Chart}
use Rattle.semantics.specs.Encoding.{decode, count}
use Rattle.semantics.specs.Memory.{width}
use Rattle.semantics.specs.RunListing.{state_text}
use Rattle.state.specs.declared.Layout.{Layout}
use Rattle.state.specs.Rows.{layout_of, width_of}
use Rattle.state.proofs.Layouts.{is_layout}
use Rattle.descent.specs.Rows.{state_of, Concrete}
use Rattle.writer.proofs.Written.{one_more, all_put}
use Rattle.search.specs.RunLines.{Rows, rows_text}
use Rattle.search.proofs.RunPieces.{Turn, turn}
use Rattle.search.proofs.put_rows.Goals as goal

-- the words of a state are as many as the chart's are
wide : (ws words : List ℤ) (y : Layout) → words ≡ ws → y ≡ layout_of words → {w : ℕ} → w ≡ width_of y → w ≡ width (decode ws)
wide ws words y same laid e = e ∙ (is_layout ws y (laid ∙ ap layout_of same)).wide

-- of n rows, i are done
more : {n i : ℕ} → i < n → n - i ≡ suc (n - (i + 1))
more h = omega arith

-- a turn, at row i
here : (c : Chart) (left : List ℤ) (w : ℕ) (e : w ≡ width c) (n i : ℕ) → i < n → Rows c (n - i) left → Turn c left w e (n - (i + 1))
here c left w e n i h r = turn c left w e (n - (i + 1)) (rw (more h) at r)

-- the words of a row after its edge
after_edge : (row : List ℤ) → take (length row - 1) (drop 1 row) ≡ drop 1 row
after_edge row = take_all (length row - 1) (drop 1 row) (omega (arith, length-drop 1 row))

pub loop-done-init : goal.loop-done-init
loop-done-init c = let all : c.args.rows - 0 ≡ c.args.rows = omega arith in rw all (c.requires, λ d w. w)

pub split_at-requires : goal.split_at-requires
split_at-requires c =
    let b = c.loop-done in
    let e = wide c.args.found.now.chart.now _ _ c.words.ensures.words c.layout_of.ensures.layout c.width-width.ensures in
    (here _ b.left.now _ e _ _ c.loop-done-test.true b.invariant.0).fits

pub put_state-requires : goal.put_state-requires
put_state-requires c =
    let b = c.loop-done in
    let d = decode c.args.found.now.chart.now in
    let row = c.split_at.result.0.now in
    let e = wide c.args.found.now.chart.now _ _ c.words.ensures.words c.layout_of.ensures.layout c.width-width.ensures in
    let t = here d b.left.now _ e c.args.rows b._done c.loop-done-test.true b.invariant.0 in
    let lent = after_edge row ∙ ap (drop 1) c.split_at.ensures.front in
    subst (Concrete d) (sym lent) t.state

pub loop-done-preserved : goal.loop-done-preserved
loop-done-preserved c =
    let b = c.loop-done in
    let d = decode c.args.found.now.chart.now in
    let row = c.split_at.result.0.now in
    let e = wide c.args.found.now.chart.now _ _ c.words.ensures.words c.layout_of.ensures.layout c.width-width.ensures in
    let t = here d b.left.now _ e c.args.rows b._done c.loop-done-test.true b.invariant.0 in
    let lent = after_edge row ∙ ap (drop 1) c.split_at.ensures.front in
    let edge = c.number_at.ensures.number ∙ ap (λ (l : List ℤ). count l 0) c.split_at.ensures.front in
    let n = c.args.rows - (b._done + 1) in
    let lines = (λ i. rows_text d (more c.loop-done-test.true i) b.left.now) ∙ t.text ∙ (λ i. state_text d (sym edge i) (state_of (sym lent i)) ++ rows_text d n (sym c.split_at.ensures.back i)) in
    (subst (Rows d n) (sym c.split_at.ensures.back) t.rest, one_more b.invariant.1 lines c.put_state.ensures)

pub returns : goal.returns
unfolding rows_text
returns c =
    let none : c.args.rows - c.loop-done._done ≡ 0 = omega (arith, c.loop-done-test.false) in
    all_put c.loop-done.invariant.1 (rw none)
