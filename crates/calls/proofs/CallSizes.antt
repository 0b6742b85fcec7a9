-- The layout that the code took from a chart's words, and that the words of a capacity lie in a table which is long
-- enough; and what a well-formed chart's counts say of a slot's words and of products with them. Assumes nothing.
use Rattle.semantics.proofs.Prelude.{◌≡◌, sym, ap, ◌∙◌, List, ℕ, ◌+◌, ◌*◌, ◌^◌, ◌≤◌, ◌<◌, mul-le-mul, arith, T, ℤ, length, length-take-le, take}
use Rattle.semantics.specs.Layout.{origin_size}
use Rattle.semantics.specs.Encoding.{edge_count, decode, well_formed}
use Rattle.semantics.specs.Memory.{stride}
use Rattle.semantics.proofs.Decoded.{edges_count}
use Rattle.state.specs.declared.Layout.{Layout}
use Rattle.state.specs.Rows.{width_of, most_width, layout_of}
use Rattle.state.proofs.Layouts.{LayoutOf, is_layout, slots_in}
use Rattle.analysis.proofs.ChartSizes.{narrow}

module _ (ws v : List ℤ) (same : v ≡ ws) (y : Layout) (laid : y ≡ layout_of v) where
  pub is_of : y ≡ layout_of ws
  is_of = laid ∙ ap layout_of same

  -- the words of r slots of a table that has so many
  module _ (r : ℕ) (t : List ℤ) (h : r * stride (decode ws) ≤ length t) where
    pub fits : r * y.stride ≤ length t
    fits = slots_in (is_layout ws y is_of) r (length t) h

    pub part : length (take (r * y.stride) t) ≡ r * y.stride
    part = length-take-le (r * y.stride) t fits

-- the layout and the count of edges that the code took from a chart, beside a table of r slots' words
pub record Sizes (ws : List ℤ) (y : Layout) (edges r : ℕ) (t : List ℤ) : Type 0 where
  pub laid : LayoutOf (decode ws) y
  pub many : edges ≡ length (decode ws).edges
  pub thin : width_of y ≤ most_width
  -- the words of the capacity, which has 32 bits, lie in the table
  pub words_fit : r < 2 ^ 32 → r * y.stride < 2 ^ 64
  pub fits : r * y.stride ≤ length t

pub sizes : (ws : List ℤ) → T (well_formed ws) → (y : Layout) → y ≡ layout_of ws → (edges : ℕ) → edges ≡ edge_count ws → (r : ℕ) (t : List ℤ) → r * stride (decode ws) ≤ length t → Sizes ws y edges r t
sizes ws ok y e edges m r t h = record {
  laid = laid;
  many = m ∙ sym (edges_count ws);
  thin = omega (arith, laid.wide, narrow ws ok);
  words_fit = λ l.
      let few : r ≤ 2 ^ 32 = omega arith in
      let d : y.stride ≤ most_width + origin_size = omega (arith, laid.stride, narrow ws ok) in
      let n : r * y.stride ≤ 2 ^ 32 * (most_width + origin_size) = mul-le-mul few d in
      omega arith;
  fits = slots_in laid r (length t) h;
}
  where
    laid : LayoutOf (decode ws) y
    laid = is_layout ws y e
