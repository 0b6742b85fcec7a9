-- `search::search` meets its contract.
use Rattle.semantics.proofs.Prelude.{◌≡◌, sym, ap, ◌∙◌, List, ℕ, suc, ◌≤◌, mul-le-mul, arith, ℤ, pos, nat_abs, take, length, replicate, length-take-le, w32, to_z-of_z}
use Rattle.std.proofs.lemmas.Result.{err_from_is_err_and}
use Rattle.semantics.specs.Layout.{most_moves}
use Rattle.semantics.specs.Encoding.{decode}
use Rattle.semantics.specs.Memory.{width}
use Rattle.semantics.specs.RunListing.{run_text}
use Rattle.semantics.specs.Outcomes.{SearchOutcome}
use Rattle.semantics.proofs.Encoded.{formed_bounds}
use Rattle.state.specs.Rows.{most_width}
use Rattle.state.specs.declared.Layout.{Layout}
use Rattle.state.specs.Rows.{layout_of, width_of}
use Rattle.state.proofs.Layouts.{is_layout}
use Rattle.search.specs.Refusals.{shown}
use Rattle.search.proofs.Refusals.{Passes, passes, search_refused, search_through}
use Rattle.search.proofs.search.Goals as goal

-- the words of a state, w by the chart's layout, are no more than the most
module _ (words : List ℤ) (k : ℤ) (space : List ℕ) (through : Passes words k space) (y : Layout) (laid : y ≡ layout_of words) (w : ℕ) (w_is : w ≡ width_of y) where
  wide : w ≡ width (decode words)
  wide = w_is ∙ (is_layout words y laid).wide

  narrow : suc (width (decode words)) ≤ suc most_width
  narrow = omega (arith, (formed_bounds words through.chart).few_vars)

  fits : w ≤ most_width
  fits = omega (arith, wide, narrow)

  -- the words lent for the first state
  first_long : length (take w (replicate most_width (pos 0))) ≡ w
  first_long = length-take-le w (replicate most_width (pos 0)) (omega (arith, fits))

pub returns-in_err-chart-clause-answer : goal.returns-in_err-chart-clause-answer
returns-in_err-chart-clause-answer c =
    let a = c.args in
    let said = rw (to_z-of_z w32 a.k c.ranges.k) at c.in_err-chart.ensures.refused in
    let p = err_from_is_err_and c.from_residual.result c.from_residual.ensures.1 in
    rw (p.1, p.2) (ap (λ (x : SearchOutcome). x.answer) (search_refused a.chart.now a.k a.space.now c.in_err-chart.field-0.0 said))

pub returns-in_err-chart-clause-space : goal.returns-in_err-chart-clause-space
returns-in_err-chart-clause-space c =
    let a = c.args in
    let said = rw (to_z-of_z w32 a.k c.ranges.k) at c.in_err-chart.ensures.refused in
    ap (λ (x : SearchOutcome). x.space) (search_refused a.chart.now a.k a.space.now c.in_err-chart.field-0.0 said)

pub slice_bounds-start-end : goal.slice_bounds-start-end
slice_bounds-start-end c =
    let a = c.args in
    let through = passes a.chart.now a.k a.space.now (sym (rw (to_z-of_z w32 a.k c.ranges.k) at c.in_ok-chart.ensures.refused)) in
    let laid = c.layout_of.ensures.layout ∙ ap layout_of (c.words.ensures.words ∙ c.in_ok-chart.ensures.chart) in
    omega (arith, fits a.chart.now a.k a.space.now through _ laid _ c.width-width.ensures)

pub slice_bounds-search_in-end : goal.slice_bounds-search_in-end
slice_bounds-search_in-end c =
    let a = c.args in
    let through = passes a.chart.now a.k a.space.now (sym (rw (to_z-of_z w32 a.k c.ranges.k) at c.in_ok-chart.ensures.refused)) in
    let laid = c.layout_of.ensures.layout ∙ ap layout_of (c.words.ensures.words ∙ c.in_ok-chart.ensures.chart) in
    sym (first_long a.chart.now a.k a.space.now through _ laid _ c.width-width.ensures)

pub search_in-requires : goal.search_in-requires
search_in-requires c =
    let words = c.args.chart.now in
    let k = c.args.k in
    let space = c.args.space.now in
    let w = c.width-width.result in
    let y = c.layout_of.result in
    let same = to_z-of_z w32 k c.ranges.k in
    let through = passes words k space (sym (rw same at c.in_ok-chart.ensures.refused)) in
    let laid = c.layout_of.ensures.layout ∙ ap layout_of (c.words.ensures.words ∙ c.in_ok-chart.ensures.chart) in
    let few : c.magnitude.result ≤ most_moves = omega (arith, c.magnitude.ensures.number ∙ ap nat_abs same, through.moves) in
    let narrow = narrow words k space through y laid w c.width-width.ensures in
    let wide = wide words k space through y laid w c.width-width.ensures in
    let long = first_long words k space through y laid w c.width-width.ensures in
    rw c.in_ok-chart.ensures.chart (few, long ∙ wide, omega (arith, mul-le-mul few narrow))

pub returns-clause-answer : goal.returns-clause-answer
returns-clause-answer c =
    let words = c.args.chart.now in
    let k = c.args.k in
    let space = c.args.space.now in
    let same = to_z-of_z w32 k c.ranges.k in
    let none = sym (rw same at c.in_ok-chart.ensures.refused) in
    let o = ap (λ (n : ℕ). shown (run_text (decode words) n) space) (c.magnitude.ensures.number ∙ ap nat_abs same) ∙ search_through words k space none in
    (rw c.in_ok-chart.ensures.chart at c.search_in.ensures.answer) ∙ ap (λ (x : SearchOutcome). x.answer) o

pub returns-clause-space : goal.returns-clause-space
returns-clause-space c =
    let words = c.args.chart.now in
    let k = c.args.k in
    let space = c.args.space.now in
    let same = to_z-of_z w32 k c.ranges.k in
    let none = sym (rw same at c.in_ok-chart.ensures.refused) in
    let o = ap (λ (n : ℕ). shown (run_text (decode words) n) space) (c.magnitude.ensures.number ∙ ap nat_abs same) ∙ search_through words k space none in
    (rw c.in_ok-chart.ensures.chart at c.search_in.ensures.space) ∙ ap (λ (x : SearchOutcome). x.space) o
