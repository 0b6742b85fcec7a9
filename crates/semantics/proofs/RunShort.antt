-- The listing of a run is short: 24,576 bytes hold what any search lists. Assumes nothing.
use Rattle.semantics.proofs.Prelude.{◌≡◌, refl, inl, inr, ap, Option, none, some, List, [], ◌∷◌, ◌++◌, map, ℕ, suc, ◌+◌, ◌*◌, ◌≤◌, arith, T, leb, leb→le, length, length-append, ℤ, pos, negsuc, nat_abs}
use Rattle.semantics.specs.Lists.{In, all}
use Rattle.semantics.specs.Layout.{most_moves, listing_bytes}
use Rattle.semantics.specs.Text.{bytes, decimal, decimal_z, line_of}
use Rattle.semantics.specs.Chart.{known, Var, Edge, Chart, Numbered, number_from, State, Ranged}
use Rattle.semantics.specs.Encoding.{var_ok, chart_ok}
use Rattle.semantics.specs.Listing.{loc_text}
use Rattle.semantics.specs.Search.{Trail, here, overrun, by, ErrorRun, moves, first_run, Choice, choices, explicit}
use Rattle.semantics.specs.RunListing.{state_text, trail_text, found_text, run_text, moves_ok}
use Rattle.semantics.specs.RealRuns.{Follows, choosing}
use Rattle.semantics.proofs.Bools.{and_left, and_right}
use Rattle.semantics.proofs.StatesOk.{Bounds, bounds}
use Rattle.semantics.proofs.ChartChoices.{choices_in}
use Rattle.semantics.proofs.RealRuns.{answered}
use Rattle.semantics.proofs.Rendered.{size, dec_short}
use Rattle.semantics.proofs.ListingShort.{line_size, val_short, loc_short}

values_short : (vs : List Var) (xs : List ℤ) → T (all var_ok vs) → Ranged vs xs → size (map decimal_z xs) ≤ 7 * length vs
values_short [] [] t h = omega arith
values_short [] (x ∷ xs) t h = absurd h
values_short (v ∷ vs) [] t h = absurd h
values_short (v ∷ vs) (x ∷ xs) t h = omega (arith, val_short v (known x) (and_left (var_ok v) (all var_ok vs) t) h.0, values_short vs xs (and_right (var_ok v) (all var_ok vs) t) h.1)

-- the numbers of edges go up to their count
number_below : (n : ℕ) (gs : List Edge) (g : Numbered) → In g (number_from n gs) → suc g.no ≤ n + length gs
number_below n [] g i = absurd i
number_below n (x ∷ xs) g (inl p) = omega (arith, ap (λ (y : Numbered). y.no) p)
number_below n (x ∷ xs) g (inr i) = omega (arith, number_below (suc n) xs g i)

module _ (c : Chart) (b : Bounds c) where
  edge_short : (a : Choice) → In a (choices c) → length (decimal a.edge.no) ≤ 5
  edge_short a i = dec_short a.edge.no (omega (arith, number_below 1 c.edges a.edge (choices_in c a i).0, b.few_edges))

  state_short : (n : ℕ) (s : State) → length (decimal n) ≤ 5 → Ranged c.vars s.vals → length (state_text c n s) ≤ 79
  state_short n s d r =
      omega (
        arith,
        line_size (decimal n) (loc_text c.locs s.loc ∷ map decimal_z s.vals),
        d,
        loc_short c.locs s.loc b.names,
        values_short c.vars s.vals b.vars r,
        b.few_vars,
      )

  trail_short : (s : State) (t : Trail Choice State) → Follows (choosing c) s t → length (trail_text c t) ≤ moves t * 79
  trail_short s here w = omega arith
  trail_short s (overrun a) w = omega (arith, line_size (decimal a.edge.no) [], edge_short a w.0)
  trail_short s (by a u t) w = omega (arith, length-append (state_text c a.edge.no u) (trail_text c t), state_short a.edge.no u (edge_short a w.0) w.1.0.ranged, trail_short u t w.2)

-- a count of moves that 30 lets pass
pub moves_few : (k : ℤ) → T (moves_ok k) → nat_abs k ≤ most_moves
moves_few (pos n) t = leb→le n most_moves (and_right (leb 0 n) (leb n most_moves) t)
moves_few (negsuc n) t = absurd t

pub run_short : (c : Chart) → T (chart_ok c) → (k : ℕ) → k ≤ most_moves → length (run_text c k) ≤ listing_bytes
unfolding run_text
run_short c t k h = go (first_run (explicit c) k) refl where
  go : (o : Option (ErrorRun Choice State)) → first_run (explicit c) k ≡ o → length (found_text c k o) ≤ listing_bytes
  go none e = omega (arith, line_size (bytes "none") (decimal k ∷ []), dec_short k (omega arith))
  go (some q) e =
      let b = bounds c t in
      let w = (answered c k).sound q e in
      let n = moves q.trail in
      let first = state_text c 0 q.start in
      omega (
        arith,
        length-append (line_of (bytes "run") (decimal n ∷ [])) (first ++ trail_text c q.trail),
        length-append first (trail_text c q.trail),
        line_size (bytes "run") (decimal n ∷ []),
        dec_short n (omega (arith, w.1)),
        state_short c b 0 q.start (dec_short 0 (omega arith)) w.0.0.ranged,
        trail_short c b q.start q.trail w.0.1,
        w.1,
      )
