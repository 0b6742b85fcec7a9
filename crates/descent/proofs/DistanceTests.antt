-- What the code that finds distances is proved by: the row of anywhere, edges and kinds by their words, and loops.
-- Assumes nothing.
use Rattle.semantics.proofs.Prelude.{◌≡◌, refl, sym, ap, ◌∙◌, subst, ◌⊎◌, inl, inr, Bool, true, ◌&&◌, List, [], ◌∷◌, map, ℕ, zero, suc, ◌+◌, ◌-◌, ◌*◌, ◌≤◌, ◌<◌, arith, T, ltb→lt, ℤ, pos, nat_abs, length, take, drop, replicate, get_or-drop}
use Rattle.semantics.proofs.Bools.{to_true, and_left, and_right, left_true, right_true}
use Rattle.semantics.specs.Layout.{top_word, most_variables, location_size, edge_size, to_place, index_limit}
use Rattle.semantics.specs.Lists.{At, In}
use Rattle.semantics.specs.Chart.{top, Var, Loc, Chart, Numbered, numbered, eq_z, error_location}
use Rattle.semantics.specs.Algorithm.{Step, blocked, fault, to}
use Rattle.semantics.specs.Constants.{AbstractState}
use Rattle.semantics.specs.Encoding.{word, word_at, count, kind_word, edge_in, location_count, edge_count, decode, well_formed}
use Rattle.semantics.specs.Memory.{row}
use Rattle.semantics.proofs.AtAndIn.{at_get, at_one}
use Rattle.semantics.proofs.StatesOk.{ValsOk}
use Rattle.semantics.proofs.Simulate.{AllPairs, StepR}
use Rattle.semantics.proofs.Decoded.{vars_count, locs_count, edges_count}
use Rattle.semantics.proofs.Encoded.{well_formed_split, formed_bounds}
use Rattle.chart.specs.declared.EdgeRow.{EdgeRow}
use Rattle.chart.specs.Encoded.{locations_at, edges_at}
use Rattle.chart.proofs.Places.{edges_near, edge_got}
use Rattle.state.specs.Rows.{most_width, word_limit, width_of, layout_of, with_location}
use Rattle.state.proofs.Layouts.{id_fits}
use Rattle.transfer.specs.declared.Move.{Move}
use Rattle.transfer.specs.declared.Move.TheVariants.{Blocked, Fault, Successor}
use Rattle.transfer.specs.Transfer.{step_of, edge_at, edges_from, post_at, post_words, error_row}
use Rattle.transfer.proofs.Agree.{Says, SameEdge, edges_say, agree}
use Rattle.descent.specs.Rows.{edge_of, IsEdge}
use Rattle.descent.proofs.Moves.{same_edge, leaves}
use Rattle.descent.specs.Distances.{anywhere, distance_in, from_anywhere, move_of, NearBy, KindsAllow, EdgesAllow}

-- ---- a row in which every variable is top

tops_ok : (vars : List Var) → ValsOk vars (map (λ v. top) vars)
tops_ok [] = tt
tops_ok (v ∷ vs) = (tt, tops_ok vs)

tops_words : (vars : List Var) (m : ℕ) → length vars ≤ m → take (length vars) (replicate m top_word) ≡ map word (map (λ v. top) vars)
tops_words [] m h = refl
tops_words (v ∷ vs) zero h = absurd (omega arith)
tops_words (v ∷ vs) (suc m) h = ap (λ (l : List ℤ). top_word ∷ l) (tops_words vs m (omega arith))

says_anywhere : (c : Chart) (l : ℕ) → l < length c.locs → Says c (row (anywhere c l)) (anywhere c l)
says_anywhere c l h = record { words = refl; ok = record { loc = h; vals = tops_ok c.vars } }

-- an answer is that of the step which its step agrees with
moved : (c : Chart) (r : Move) (out : List ℤ) (z : Step AbstractState) → StepR (Says c) (step_of r out) z → r ≡ move_of z
moved c Blocked out blocked q = refl
moved c Blocked out fault q = absurd q
moved c Blocked out (to f) q = absurd q
moved c Fault out blocked q = absurd q
moved c Fault out fault q = refl
moved c Fault out (to f) q = absurd q
moved c Successor out blocked q = absurd q
moved c Successor out fault q = absurd q
moved c Successor out (to f) q = refl

-- ---- places in lists

error_below : (ls : List Loc) (l : ℕ) → T (error_location ls l) → l < length ls
error_below [] l h = absurd h
error_below (x ∷ xs) zero h = omega arith
error_below (x ∷ xs) (suc l) h = omega (arith, error_below xs l h)

-- what one of the second list is paired with

pair_of : {A B : Type 0} (R : A → B → Type 0) (xs : List A) (ys : List B) (y : B) → AllPairs R xs ys → In y ys → (x : A) × R x y
pair_of R xs [] y a i = absurd i
pair_of R [] (z ∷ zs) y a i = absurd a
pair_of {A} {B} R (x ∷ xs) (z ∷ zs) y a (inl p) = (x, subst (λ (u : B). R x u) (sym p) a.0)
pair_of R (x ∷ xs) (z ∷ zs) y a (inr q) = pair_of R xs zs y a.1 q

at_below : {A : Type 0} (l : List A) (n : ℕ) (x : A) → At l n x → n < length l
at_below [] n x h = absurd h
at_below (y ∷ ys) zero x h = omega arith
at_below (y ∷ ys) (suc n) x h = omega (arith, at_below ys n x h)

-- ---- what is asked by number

-- by location l
abbrev pub ZeroAtError : List ℤ → List ℕ → ℕ → Type 0
ZeroAtError ws ds l = T (error_location (decode ws).locs l) → distance_in ds l ≡ 0

-- by edge n
abbrev pub Asked : List ℤ → List ℕ → ℕ → Type 0
Asked ws ds n = 1 ≤ n → NearBy ws ds (edge_in (drop (edge_at ws (n - 1)) ws))

module _ (ws : List ℤ) (t : T (well_formed ws)) where
  -- ---- edges

  edge_here : (j : ℕ) → j < edge_count ws → At (decode ws).edges j (edge_in (drop (edge_at ws j) ws))
  edge_here j h = at_get (decode ws).edges j (edge_in (drop (edge_at ws j) ws)) (edge_got ws j (edge_at ws j) h refl)

  paired : (g : Numbered) → In g (numbered (decode ws)) → (n : ℕ) × SameEdge (decode ws) n g
  paired g i = let c = decode ws in pair_of (SameEdge c) (edges_from 0 (length c.edges)) (numbered c) g (edges_say c (well_formed_split ws t).1) i

  -- an edge as the code has it from the first, by its number
  module _ (first : EdgeRow) (n : ℕ) (here : first.at ≡ edges_at ws) (some : 1 ≤ n) (within : n ≤ edge_count ws) where
    pub edge_asks : (first.at < index_limit) × (1 ≤ n) × (n ≤ index_limit)
    edge_asks = (omega (arith, edges_near ws t), some, omega (arith, edges_near ws t))

    pub is_edge : (e : EdgeRow) → e.id.0 ≡ n → e.at ≡ first.at + edge_size * (n - 1) → IsEdge ws e
    is_edge e p q = record { some = omega arith; within = omega arith; at = omega arith }

  -- each edge has a number
  pub every_edge : (ds : List ℕ) → ((n : ℕ) → n ≤ edge_count ws → Asked ws ds n) → EdgesAllow ws ds
  every_edge ds f g i =
      let c = decode ws in
      let p = paired g i in
      let h : p.0 < edge_count ws = omega (arith, at_below c.edges p.0 g.edge p.1.here, edges_count ws) in
      let e : p.0 + 1 - 1 ≡ p.0 = omega arith in
      let asked : NearBy ws ds (edge_in (drop (edge_at ws p.0) ws)) = subst (λ (k : ℕ). NearBy ws ds (edge_in (drop (edge_at ws k) ws))) e (f (p.0 + 1) (omega arith) (omega arith)) in
      subst (NearBy ws ds) (at_one c.edges p.0 (edge_in (drop (edge_at ws p.0) ws)) g.edge (edge_here p.0 h) p.1.here) asked

  -- the location that it goes to
  pub comes : (e : EdgeRow) → (edge_of ws e).edge.to ≡ count ws (e.at + to_place)
  comes e = ap nat_abs (get_or-drop e.at ws to_place (pos 0))

  -- a state's row fits the longest
  pub narrow : width_of (layout_of ws) ≤ most_width
  narrow = omega (arith, (formed_bounds ws t).few_vars, vars_count ws)

  module _ (e : EdgeRow) (i : IsEdge ws e) where
    from_below : (edge_of ws e).edge.from < length (decode ws).locs
    from_below = let ok = (same_edge ws t e i).ok in ltb→lt (edge_of ws e).edge.from (length (decode ws).locs) (search (and_left, and_right))

    -- all words top but the location's: the row of anywhere there
    pub anywhere_row : take (width_of (layout_of ws)) (with_location (replicate most_width top_word) (count ws e.at)) ≡ row (anywhere (decode ws) (edge_of ws e).edge.from)
    anywhere_row =
        let c = decode ws in
        let from = (edge_of ws e).edge.from in
        let few : from < word_limit = omega (arith, from_below, (formed_bounds ws t).few_locs) in
        let wide : width_of (layout_of ws) ≡ suc (length c.vars) = omega (arith, vars_count ws) in
        rw (sym (leaves ws e), id_fits from few, wide) (ap (λ (l : List ℤ). pos from ∷ l) (tops_words c.vars most_variables (formed_bounds ws t).few_vars))

    -- the transfer of that row answers as the abstract move
    pub anywhere_moves : (r : Move) (out : List ℤ) → step_of r out ≡ post_at ws e.at (row (anywhere (decode ws) (edge_of ws e).edge.from)) → r ≡ move_of (from_anywhere (decode ws) (edge_of ws e).edge)
    unfolding post_words
    anywhere_moves r out p =
        let c = decode ws in
        let f = anywhere c (edge_of ws e).edge.from in
        let q : post_words ws (e.id.0 - 1) (row f) ≡ step_of r out = ap (λ (k : ℕ). post_at ws k (row f)) (sym i.at) ∙ sym p in
        let s = (agree ws t).post (e.id.0 - 1) (edge_of ws e) (row f) f (same_edge ws t e i) (says_anywhere c (edge_of ws e).edge.from from_below) in
        moved c r out (from_anywhere c (edge_of ws e).edge) (subst (λ (o : Step (List ℤ)). StepR (Says c) o (from_anywhere c (edge_of ws e).edge)) q s)

  -- ---- locations

  -- an error location has its kind in the words
  pub kind_says : (l : ℕ) → T (error_location (decode ws).locs l) → eq_z (word_at ws (locations_at ws + location_size * l)) (kind_word true) ≡ true
  unfolding error_row
  kind_says l h =
      let c = decode ws in
      (agree ws t).error (row (anywhere c l)) (anywhere c l) (says_anywhere c l (error_below c.locs l h)) ∙ to_true (error_location c.locs l) h

  -- each location has a number
  pub every_location : (ds : List ℕ) → ((l : ℕ) → l < location_count ws → ZeroAtError ws ds l) → KindsAllow ws ds
  every_location ds f l h = f l (omega (arith, error_below (decode ws).locs l h, locs_count ws)) h

-- ---- loops

-- where a distance is above another the table has it
pub in_table : (ds : List ℕ) (i m : ℕ) → m < distance_in ds i → i < length ds
in_table [] i m h = absurd (omega arith)
in_table (x ∷ xs) zero m h = omega arith
in_table (x ∷ xs) (suc i) m h = omega (arith, in_table xs i m h)

-- nothing was lowered so far: the table is as it was, and what was looked at, each of A, asks nothing more of it
abbrev pub Settled : (List ℕ → ℕ → Type 0) → (ℕ → Type 0) → List ℕ → List ℕ → Type 0
Settled P A ds₀ ds = (ds ≡ ds₀) × ((j : ℕ) → A j → P ds j)

-- b is whether j asks nothing more either; B are those of A, and j
pub settled_turn : (P : List ℕ → ℕ → Type 0) (A B : ℕ → Type 0) (ds₀ ds ds' : List ℕ) (ok b : Bool) (j : ℕ) → ((k : ℕ) → B k → A k ⊎ (j ≡ k)) → (ok ≡ true → Settled P A ds₀ ds) → (b ≡ true → (ds' ≡ ds) × P ds j) → ok && b ≡ true → Settled P B ds₀ ds'
settled_turn P A B ds₀ ds ds' ok b j split before here e =
    let p = before (left_true ok b e) in
    let q = here (right_true ok b e) in
    (q.0 ∙ p.0, λ k m. subst (λ (l : List ℕ). P l k) (sym q.0) (elim (split k m) [ inl a ↦ p.1 k a | inr x ↦ subst (P ds) x q.1 ]))
