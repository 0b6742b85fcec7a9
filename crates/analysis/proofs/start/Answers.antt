-- `analysis::start` meets its contract: the row lent has the width of the chart's own layout.
use Rattle.semantics.proofs.Prelude.{◌≡◌, ap, ◌∙◌, sym, List, ℕ, ◌+◌, ◌*◌, ◌≤◌, ◌<◌, arith, T, ℤ, pos, length, replicate, length-take-le, take}
use Rattle.semantics.specs.Layout.{origin_size}
use Rattle.semantics.specs.Encoding.{well_formed}
use Rattle.state.specs.declared.Layout.{Layout}
use Rattle.state.specs.Rows.{most_width, layout_of, width_of}
use Rattle.state.proofs.Layouts.{is_layout}
use Rattle.analysis.proofs.ChartSizes.{narrow}
use Rattle.analysis.proofs.start.Goals as goal

-- the layout that the code took from a chart in form
module _ (ws v : List ℤ) (ok : T (well_formed ws)) (same : v ≡ ws) (y : Layout) (laid : y ≡ layout_of v) where
  is_of : y ≡ layout_of ws
  is_of = laid ∙ ap layout_of same

  thin : width_of y ≤ most_width
  thin = omega (arith, (is_layout ws y is_of).wide, narrow ws ok)

  spread : y.stride ≡ width_of y + origin_size
  spread = omega (arith, (is_layout ws y is_of).wide, (is_layout ws y is_of).stride)

  -- a part of so many words
  part : (n : ℕ) → n ≡ width_of y → length (take n (replicate most_width (pos 0))) ≡ n
  part n e = length-take-le n (replicate most_width (pos 0)) (omega (arith, e, thin))

pub slice_bounds-lent-end : goal.slice_bounds-lent-end
slice_bounds-lent-end c = omega (arith, c.width.ensures, thin c.args.chart.now _ c.words-chart.ensures.in_form c.words-chart.ensures.words _ c.layout_of-layout.ensures.layout)

pub slice_bounds-row-end : goal.slice_bounds-row-end
slice_bounds-row-end c = sym (part c.args.chart.now _ c.words-chart.ensures.in_form c.words-chart.ensures.words _ c.layout_of-layout.ensures.layout _ c.width.ensures)

pub initial-requires : goal.initial-requires
initial-requires c =
    part c.args.chart.now _ c.words-chart.ensures.in_form c.words-chart.ensures.words _ c.layout_of-layout.ensures.layout _ c.width.ensures ∙ c.width.ensures
    ∙ ap width_of c.layout_of-layout.ensures.layout

pub start_core-requires : goal.start_core-requires
start_core-requires c =
    let s = c.args in
    let p = c.requires in
    let y = c.layout_of-layout in
    let ok = c.words-chart.ensures.in_form in
    let ws = c.words-chart.ensures.words in
    let laid = is_of s.chart.now _ ok ws _ y.ensures.layout in
    let long = c.initial.auto.out ∙ part s.chart.now _ ok ws _ y.ensures.layout _ c.width.ensures ∙ c.width.ensures in
    let some-width : 0 < width_of y.result = rw laid (omega arith) in
    (omega (arith, long, some-width), long, spread s.chart.now _ ok ws _ y.ensures.layout, p.0, p.1, p.2 ∙ ap (λ (y : Layout). s.capacity * y.stride) (sym laid), p.3, p.4)

pub returns : goal.returns
returns c =
    let laid = is_of c.args.chart.now _ c.words-chart.ensures.in_form c.words-chart.ensures.words _ c.layout_of-layout.ensures.layout in
    rw (← laid, ← c.words-chart.ensures.words, ← c.initial.ensures) c.start_core.ensures
