-- A variable and an edge of an encoded chart, by the place of its words. Assumes nothing.
use Rattle.semantics.proofs.Prelude.{◌≡◌, refl, ap, ◌∙◌, List, none, some, ℕ, zero, suc, ◌+◌, ◌*◌, ◌≤◌, ◌<◌, mul-suc, mul-zero, arith, T, ℤ, drop, drop-drop}
use Rattle.semantics.specs.Layout.{counts_size, variable_size, edge_size, variable_at, index_limit}
use Rattle.semantics.specs.Lists.{get}
use Rattle.semantics.specs.Encoding.{several, var_in, edge_in, variable_count, edge_count, decode, well_formed}
use Rattle.semantics.proofs.Decoded.{vars_count, locs_count, edges_count}
use Rattle.semantics.proofs.Encoded.{formed_bounds}
use Rattle.chart.specs.Encoded.{edges_at}
use Rattle.chart.proofs.WellFormed.{edges_by_place}

module _ {A : Type 0} (f : List ℤ → A) (k : ℕ) where
  several_get : (n i : ℕ) (ws : List ℤ) → i < n → get (several f k n ws) i ≡ some (f (drop (k * i) ws))
  several_get zero i ws h = absurd (omega arith)
  several_get (suc n) zero ws h = rw (mul-zero k)
  several_get (suc n) (suc i) ws h =
      let e : k + k * i ≡ k * suc i = omega (arith, mul-suc k i) in
      several_get n i (drop k ws) (omega arith) ∙ rw (drop-drop (k * i) k ws, e)

  several_none : (n i : ℕ) (ws : List ℤ) → n ≤ i → get (several f k n ws) i ≡ none
  several_none zero i ws h = refl
  several_none (suc n) zero ws h = absurd (omega arith)
  several_none (suc n) (suc i) ws h = several_none n i (drop k ws) (omega arith)

module _ (ws : List ℤ) where
  -- the words of the edges of a chart in form
  pub edges_near : T (well_formed ws) → edges_at ws + edge_size * edge_count ws < index_limit
  edges_near t =
      let b = formed_bounds ws t in
      omega (arith, b.few_vars, b.few_locs, b.few_edges, vars_count ws, locs_count ws, edges_count ws)

  -- edge g, edges from 0, whose words stand at a place
  pub edge_got : (g at : ℕ) → g < edge_count ws → at ≡ edges_at ws + edge_size * g → get (decode ws).edges g ≡ some (edge_in (drop at ws))
  edge_got g at h p =
      let rows = drop (edges_at ws) ws in
      let q : edges_at ws + edge_size * g ≡ at = omega (arith, p) in
      ap (λ l. get l g) (edges_by_place ws) ∙ several_get edge_in edge_size (edge_count ws) g rows h
      ∙ ap (λ (r : List ℤ). some (edge_in r)) (drop-drop (edge_size * g) (edges_at ws) ws ∙ ap (λ (i : ℕ). drop i ws) q)

  -- past the last there is none
  pub edge_past : (g : ℕ) → edge_count ws ≤ g → get (decode ws).edges g ≡ none
  edge_past g h = ap (λ l. get l g) (edges_by_place ws) ∙ several_none edge_in edge_size (edge_count ws) g (drop (edges_at ws) ws) h

  -- variable k
  pub variable_got : (k : ℕ) → k < variable_count ws → get (decode ws).vars k ≡ some (var_in (drop (variable_at k) ws))
  unfolding decode
  variable_got k h =
      several_get var_in variable_size (variable_count ws) k (drop counts_size ws) h
      ∙ ap (λ (r : List ℤ). some (var_in r)) (drop-drop (variable_size * k) counts_size ws)
