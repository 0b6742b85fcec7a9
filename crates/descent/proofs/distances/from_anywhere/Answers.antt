use Rattle.semantics.proofs.Prelude.{◌≡◌, sym, ap, ◌∙◌, List, ℕ, ◌≤◌, arith, T, ℤ, pos, take, replicate, length-take-le}
use Rattle.semantics.specs.Layout.{top_word}
use Rattle.semantics.specs.Encoding.{decode, well_formed}
use Rattle.semantics.specs.Memory.{row}
use Rattle.state.specs.Rows.{most_width, width_of, layout_of, with_location}
use Rattle.state.specs.declared.Layout.{Layout}
use Rattle.transfer.specs.Transfer.{post_at}
use Rattle.descent.specs.Rows.{edge_of}
use Rattle.descent.specs.Distances.{anywhere}
use Rattle.descent.proofs.Moves.{edge_small}
use Rattle.descent.proofs.DistanceTests.{narrow, anywhere_row, anywhere_moves}
use Rattle.descent.proofs.distances.from_anywhere.Goals as goal

-- the width of a chart's rows
wide_fits : (ws : List ℤ) (w : ℕ) (y : Layout) → T (well_formed ws) → w ≡ width_of y → y ≡ layout_of ws → w ≤ most_width
wide_fits ws w y t e f = let q : w ≡ width_of (layout_of ws) = e ∙ ap width_of f in omega (arith, q, narrow ws t)

pub slice_bounds-row-end : goal.slice_bounds-row-end
slice_bounds-row-end c =
    let layout = c.layout_of.ensures.layout ∙ ap layout_of c.words-words.ensures.words in
    let fits = wide_fits c.args.chart.now c.width-width.result _ c.words-words.ensures.in_form c.width-width.ensures layout in
    omega (arith, fits, c.set_location.auto.row)

pub slice_bounds-successor-end : goal.slice_bounds-successor-end
slice_bounds-successor-end c =
    let layout = c.layout_of.ensures.layout ∙ ap layout_of c.words-words.ensures.words in
    let fits = wide_fits c.args.chart.now c.width-width.result _ c.words-words.ensures.in_form c.width-width.ensures layout in
    sym (length-take-le c.width-width.result c.set_location.new.row (omega (arith, fits, c.set_location.auto.row)))

pub slice_bounds-next-end : goal.slice_bounds-next-end
slice_bounds-next-end c =
    let layout = c.layout_of.ensures.layout ∙ ap layout_of c.words-words.ensures.words in
    wide_fits c.args.chart.now c.width-width.result _ c.words-words.ensures.in_form c.width-width.ensures layout

pub slice_bounds-successor-end-2 : goal.slice_bounds-successor-end-2
slice_bounds-successor-end-2 c =
    let layout = c.layout_of.ensures.layout ∙ ap layout_of c.words-words.ensures.words in
    let fits = wide_fits c.args.chart.now c.width-width.result _ c.words-words.ensures.in_form c.width-width.ensures layout in
    sym (length-take-le c.width-width.result (replicate most_width (pos 0)) fits)

pub successor-requires : goal.successor-requires
successor-requires c =
    let layout = c.layout_of.ensures.layout ∙ ap layout_of c.words-words.ensures.words in
    let fits = wide_fits c.args.chart.now c.width-width.result _ c.words-words.ensures.in_form c.width-width.ensures layout in
    let wide = c.width-width.result in
    let words = c.set_location.new.row in
    let long = length-take-le wide words (omega (arith, fits, c.set_location.auto.row)) in
    let some : wide ≡ width_of (layout_of c.args.chart.now) = c.width-width.ensures ∙ ap width_of layout in
    (omega (arith, long, some), length-take-le wide (replicate most_width (pos 0)) fits ∙ sym long, edge_small c.args.chart.now c.words-words.ensures.in_form c.args.edge c.requires)

pub returns : goal.returns
returns c =
    let layout = c.layout_of.ensures.layout ∙ ap layout_of c.words-words.ensures.words in
    let ws = c.args.chart.now in
    let wide = c.width-width.ensures ∙ ap width_of layout in
    let words : c.set_location.new.row ≡ with_location (replicate most_width top_word) c.edge_from.result.0 = c.set_location.ensures in
    let located = words ∙ ap (with_location (replicate most_width top_word)) (rw c.words-words.ensures.words at c.edge_from.ensures.location) in
    let row_is : take c.width-width.result c.set_location.new.row ≡ row (anywhere (decode ws) (edge_of ws c.args.edge).edge.from) = (λ i. take (wide i) (located i)) ∙ anywhere_row ws c.words-words.ensures.in_form c.args.edge c.requires in
    anywhere_moves ws c.words-words.ensures.in_form c.args.edge c.requires c.successor.result c.successor.new.out ((rw c.words-words.ensures.words at c.successor.ensures) ∙ ap (post_at ws c.args.edge.at) row_is)
