-- What the parts of the search share: the edges that are left, the last state, and how long a row is. Assumes nothing.
use Rattle.std.specs.Prelude.{Option as Perhaps}
use Rattle.semantics.proofs.Prelude.{◌≡◌, refl, sym, ap, ◌∙◌, subst, Bool, true, false, List, [], ◌∷◌, ◌++◌, none, some, ℕ, suc, ◌-◌, ◌≤◌, ◌<◌, arith, T, ℤ, length, get_or, take, drop, drop_of_length-le, drop-cons, take-append_seam}
use Rattle.semantics.specs.Chart.{Var, Edge, skip, Chart, Numbered, number_from, numbered, State, Ranged, error_location}
use Rattle.semantics.specs.Lists.{pick}
use Rattle.semantics.specs.Encoding.{decode, well_formed, edge_count}
use Rattle.semantics.specs.Memory.{width}
use Rattle.semantics.specs.Search.{here, found, explicit}
use Rattle.semantics.proofs.Decoded.{edges_count}
use Rattle.semantics.proofs.Encoded.{formed_bounds}
use Rattle.chart.specs.declared.EdgeRow.{EdgeRow}
use Rattle.state.specs.Rows.{most_width, values_of}
use Rattle.descent.specs.Rows.{edge_of, IsEdge, Concrete}
use Rattle.descent.specs.declared.End.{End}
use Rattle.descent.specs.Trails.{answer_of, laid, Went}
use Rattle.descent.proofs.Moves.{edge_numbered}
use Rattle.descent.proofs.Turns.{at_get_or}

-- an edge for the place past the last, where none is looked at
abbrev pub no_edge : Numbered
no_edge = record { no = 0; edge = record { from = 0; to = 0; op = skip } }

number_length : (n : ℕ) (gs : List Edge) → length (number_from n gs) ≡ length gs
number_length n [] = refl
number_length n (g ∷ gs) = ap suc (number_length (suc n) gs)

pub numbered_length : (ws : List ℤ) → length (numbered (decode ws)) ≡ edge_count ws
numbered_length ws = number_length 1 (decode ws).edges ∙ edges_count ws

edge_here : (ws : List ℤ) → T (well_formed ws) → (e : EdgeRow) → IsEdge ws e → edge_of ws e ≡ get_or (numbered (decode ws)) (e.id.0 - 1) no_edge
edge_here ws f e is = sym (at_get_or (numbered (decode ws)) (e.id.0 - 1) (edge_of ws e) no_edge (edge_numbered ws f e is))

-- the edges that are left where edge n is next, and where none is
pub edges_left : (ws : List ℤ) → T (well_formed ws) → (e : EdgeRow) → IsEdge ws e → (n : ℕ) → e.id.0 ≡ n → drop (n - 1) (numbered (decode ws)) ≡ edge_of ws e ∷ drop n (numbered (decode ws))
edges_left ws f e is n same =
    let inside : n - 1 < length (numbered (decode ws)) = omega (arith, is.some, is.within, numbered_length ws) in
    let next : suc (n - 1) ≡ n = omega (arith, is.some) in
    let here = edge_here ws f e is ∙ ap (λ (k : ℕ). get_or (numbered (decode ws)) (k - 1) no_edge) same in
    drop-cons (numbered (decode ws)) (n - 1) no_edge inside ∙ (λ i. sym here i ∷ drop (next i) (numbered (decode ws)))

pub no_edges_left : (ws : List ℤ) (n : ℕ) → edge_count ws ≤ n → drop n (numbered (decode ws)) ≡ []
no_edges_left ws n h = drop_of_length-le (numbered (decode ws)) (omega (arith, numbered_length ws, h))

-- with no move left
pub end_went : (c : Chart) (s : State) (m : ℕ) {p : List ℤ} {r : Perhaps End} → m ≡ 0 → r ≡ answer_of (found (explicit c) 0 s) → Went (found (explicit c) m s) p p r
unfolding found
end_went c s m e h = rw e (record { answer = h; words = go (error_location c.locs s.loc) })
  where
    go : (b : Bool) {p : List ℤ} → p ≡ laid (pick b (some here) none) p
    go true = refl
    go false = refl

-- ---- a row's length

ranged_length : (vars : List Var) (xs : List ℤ) → Ranged vars xs → length xs ≡ length vars
ranged_length [] [] r = refl
ranged_length [] (x ∷ xs) r = absurd r
ranged_length (v ∷ vs) [] r = absurd r
ranged_length (v ∷ vs) (x ∷ xs) r = ap suc (ranged_length vs xs r.1)

pub concrete_length : (c : Chart) (e : List ℤ) → Concrete c e → length e ≡ width c
concrete_length c e k = ap length k.words ∙ ap suc (ranged_length c.vars (values_of e) k.ranged)

pub row_narrow : (ws e : List ℤ) → T (well_formed ws) → Concrete (decode ws) e → length e ≤ most_width
row_narrow ws e t k = omega (arith, concrete_length (decode ws) e k, (formed_bounds ws t).few_vars)

-- the front of an array, written over
pub front : (u v : List ℤ) (n : ℕ) → length u ≡ n → take n (u ++ v) ≡ u
front u v n e = subst (λ (k : ℕ). take k (u ++ v) ≡ u) e (take-append_seam u v)
