-- The text of what was found, by its words: how many rows the trail has, and what comes after their lines. Assumes nothing.
use Rattle.semantics.proofs.Prelude.{◌≡◌, refl, sym, ap, ◌∙◌, List, [], ◌∷◌, ◌++◌, append_assoc, Option, none, some, ℕ, suc, ◌+◌, ◌-◌, ◌≤◌, arith, ℤ, length, take, drop, take_at, drop_at}
use Rattle.semantics.specs.Text.{bytes, decimal, line_of}
use Rattle.semantics.specs.Chart.{Chart, State}
use Rattle.semantics.specs.Encoding.{count}
use Rattle.semantics.specs.Memory.{width}
use Rattle.semantics.specs.Search.{Trail, here, overrun, by, ErrorRun, moves, Choice}
use Rattle.semantics.specs.RunListing.{state_text, trail_text, found_text}
use Rattle.semantics.specs.RealRuns.{states_of}
use Rattle.state.specs.Rows.{row_at}
use Rattle.std.specs.Prelude.{Some, None}
use Rattle.descent.specs.declared.End.{End}
use Rattle.descent.specs.declared.End.TheVariants.{AtError, Overrun}
use Rattle.descent.specs.declared.Run.{Run}
use Rattle.descent.specs.Rows.{state_of, Concrete}
use Rattle.descent.specs.Trails.{trail_words, end_of, Within, Holds}
use Rattle.search.specs.RunLines.{row_in, rows_after, Rows, rows_text, states_text}
use Rattle.search.proofs.RunPieces.{concrete_long}

-- ---- by how a run ends

-- its moves that lead to no state
abbrev pub stateless : End → ℕ
stateless AtError = 0
stateless (Overrun e) = 1

-- of n moves, those that lead to one
abbrev pub rows_of : End → ℕ → ℕ
rows_of AtError n = n
rows_of (Overrun e) n = n - 1

-- the line after those of its states
abbrev pub end_text : End → List ℕ
end_text AtError = []
end_text (Overrun e) = line_of (decimal e.0) []

rows_rest : (r : End) (m n : ℕ) → n ≡ m + stateless r → m ≡ rows_of r n
rows_rest AtError m n e = omega (arith, e)
rows_rest (Overrun x) m n e = omega (arith, e)

-- ---- a trail

rows_count : (t : Trail Choice State) → moves t ≡ length (states_of t) + stateless (end_of t)
rows_count here = refl
rows_count (overrun a) = refl
rows_count (by a s t) = omega (arith, rows_count t)

module _ (c : Chart) where
  -- a row e, and the rows after it
  module _ (n : ℕ) (path e rest : List ℤ) (p : row_in c path ≡ e) (q : rows_after c path ≡ rest) where
    more_rows : Concrete c e → Rows c n rest → Rows c (suc n) path
    more_rows w r = (rw p w, rw q r)

    more_text : rows_text c (suc n) path ≡ state_text c (count path 0) (state_of e) ++ rows_text c n rest
    unfolding rows_text
    more_text = λ i. state_text c (count path 0) (state_of (p i)) ++ rows_text c n (q i)

  -- those of a trail, with any words after
  module _ (a : Choice) (s : State) (t : Trail Choice State) (rest : List ℤ) (w : Concrete c (row_at s.loc s.vals)) where
    abbrev row : List ℤ
    row = row_at s.loc s.vals

    abbrev path : List ℤ
    path = trail_words (by a s t) ++ rest

    whole : row ++ trail_words t ++ rest ≡ row ++ (trail_words t ++ rest)
    whole = append_assoc row (trail_words t) rest

    first_row : row_in c path ≡ row
    first_row = ap (take (width c)) whole ∙ take_at row (trail_words t ++ rest) (width c) (concrete_long c row w)

    other_rows : rows_after c path ≡ trail_words t ++ rest
    other_rows = ap (drop (width c)) whole ∙ drop_at row (trail_words t ++ rest) (width c) (concrete_long c row w)

  rows_are : (t : Trail Choice State) (rest : List ℤ) → Within c t → Rows c (length (states_of t)) (trail_words t ++ rest)
  rows_are here rest w = tt
  rows_are (overrun a) rest w = tt
  rows_are (by a s t) rest w = more_rows (length (states_of t)) (path a s t rest w.0) _ _ (first_row a s t rest w.0) (other_rows a s t rest w.0) w.0 (rows_are t rest w.1)

  text_is : (t : Trail Choice State) (rest : List ℤ) → Within c t → rows_text c (length (states_of t)) (trail_words t ++ rest) ++ end_text (end_of t) ≡ trail_text c t
  unfolding rows_text
  text_is here rest w = refl
  text_is (overrun a) rest w = refl
  text_is (by a s t) rest w =
      let n = length (states_of t) in
      let line = state_text c a.edge.no s in
      let lines = rows_text c n (trail_words t ++ rest) in
      let end = end_text (end_of t) in
      let turn : rows_text c (suc n) (path a s t rest w.0) ≡ line ++ lines = more_text n (path a s t rest w.0) _ _ (first_row a s t rest w.0) (other_rows a s t rest w.0) in
      ap (λ (l : List ℕ). l ++ end) turn ∙ append_assoc line lines end ∙ ap (λ (l : List ℕ). line ++ l) (text_is t rest w.1)

-- ---- the whole

module _ (c : Chart) (k : ℕ) (start path : List ℤ) where
  pub none_is : (o : Option (ErrorRun Choice State)) → Holds c o start path None → line_of (bytes "none") (decimal k ∷ []) ≡ found_text c k o
  none_is none h = refl
  none_is (some q) h = absurd h

  module _ (run : Run) where
    -- what a run that was found has in its words
    pub record Shown (o : Option (ErrorRun Choice State)) : Type 0 where
      pub first : Concrete c start
      pub counted : stateless run.end ≤ run.moves
      pub rows : Rows c (rows_of run.end run.moves) path
      pub text : states_text c run.moves (rows_of run.end run.moves) start path ++ end_text run.end ≡ found_text c k o

    pub shown : (o : Option (ErrorRun Choice State)) → Holds c o start path (Some run) → Shown o
    unfolding states_text
    shown none h = absurd h
    shown (some q) h =
        let n = run.moves in
        let r = run.end in
        let tr = q.trail in
        let rest = drop (length (trail_words tr)) path in
        let count : n ≡ length (states_of tr) + stateless r = h.count ∙ rows_count tr ∙ ap (λ (f : End). length (states_of tr) + stateless f) (sym h.answer) in
        let rows = rows_rest r (length (states_of tr)) n count in
        let header = line_of (bytes "run") (decimal n ∷ []) in
        let line = state_text c 0 (state_of start) in
        let lines = rows_text c (rows_of r n) path in
        let trail : lines ++ end_text r ≡ trail_text c tr = (λ i. rows_text c (sym rows i) (h.words i) ++ end_text (h.answer i)) ∙ text_is c tr rest h.within in
        record {
          first = h.concrete;
          counted = omega (arith, count);
          rows = rw (← rows, h.words) (rows_are c tr rest h.within);
          text =
              append_assoc header (line ++ lines) (end_text r)
              ∙ ap (λ (l : List ℕ). header ++ l) (append_assoc line lines (end_text r))
              ∙ (λ i. line_of (bytes "run") (decimal (h.count i) ∷ []) ++ (state_text c 0 (h.first i) ++ trail i));
        }
