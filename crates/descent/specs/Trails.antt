-- A trail in lent words, a row for each state that it leads to: the edge that brought it, and the state's row. Assumes nothing.
use Rattle.std.specs.Prelude.{◌≡◌, List, [], ◌∷◌, ◌++◌, ℕ, zero, suc, ◌*◌, ◌≤◌, ℤ, pos, length, drop, Option as Perhaps, Some, None}
use Rattle.std.proofs.Math.Option.{Option, none, some, map}
use Rattle.semantics.specs.Chart.{Chart, Numbered, State}
use Rattle.semantics.specs.Search.{Trail, here, overrun, by, ErrorRun, moves, after_move, found, first_of, Choice, choose, inputs, move, explicit}
use Rattle.semantics.specs.Encoding.{decode}
use Rattle.semantics.specs.Memory.{width}
use Rattle.semantics.specs.declared.EdgeId.{EdgeId}
use Rattle.state.specs.Rows.{row_at}
use Rattle.descent.specs.Rows.{state_of, Concrete}
use Rattle.descent.specs.declared.End.{End}
use Rattle.descent.specs.declared.End.TheVariants.{AtError, Overrun}
use Rattle.descent.specs.declared.Run.{Run}

-- the words of a state that edge n brought
abbrev pub step_words : ℕ → State → List ℤ
step_words n s = pos n ∷ row_at s.loc s.vals

-- the words of a trail
abbrev pub trail_words : Trail Choice State → List ℤ
trail_words here = []
trail_words (overrun a) = []
trail_words (by a t r) = step_words a.edge.no t ++ trail_words r

-- how it ends
abbrev pub end_of : Trail Choice State → End
end_of here = AtError
end_of (overrun a) = Overrun (record { 0 = a.edge.no })
end_of (by a t r) = end_of r

-- what a search answers: how the trail that it found ends
abbrev pub answer_of : Option (Trail Choice State) → Perhaps End
answer_of none = None
answer_of (some r) = Some (end_of r)

-- the words lent after it: those of the trail that was found, and where there is none as they were
abbrev pub laid : Option (Trail Choice State) → List ℤ → List ℤ
laid none p = p
laid (some r) p = trail_words r ++ drop (length (trail_words r)) p

-- answer and words are those of what was found
pub record Went (o : Option (Trail Choice State)) (entry exit : List ℤ) (r : Perhaps End) : Type 0 where
  pub answer : r ≡ answer_of o
  pub words : exit ≡ laid o entry

-- ---- one move of the search, part by part

-- what a search asks of the row that it begins with, and of the path, which has room for m states
pub record Going (ws row : List ℤ) (m : ℕ) (path : List ℤ) : Type 0 where
  pub concrete : Concrete (decode ws) row
  pub room : m * suc (length row) ≤ length path

-- with m moves left after it, a move that overruns is a find if it is the last
abbrev pub last_move : ℕ → EdgeId → Perhaps End
last_move zero n = Some (Overrun n)
last_move (suc m) n = None

-- m moves from t, which the choice a has just brought
abbrev pub from_step : Chart → ℕ → Choice → State → Option (Trail Choice State)
from_step c m a t = map (by a t) (found (explicit c) m t)

module _ (c : Chart) (m : ℕ) (s : State) where
  -- by an edge and an input value, with m moves left after it
  abbrev pub by_input : Numbered → ℤ → Option (Trail Choice State)
  by_input g z = after_move m (found (explicit c) m) (choose g z) (move c (choose g z) s)

  -- by an edge
  abbrev pub by_edge : Numbered → Option (Trail Choice State)
  by_edge g = first_of (by_input g) (inputs g.edge.op)

-- ---- from the starting states

-- what is asked of the row for starting states, and of the path, which has room for m states
pub record Deepening (ws : List ℤ) (m : ℕ) (start path : List ℤ) : Type 0 where
  pub row : length start ≡ width (decode ws)
  pub room : m * suc (width (decode ws)) ≤ length path

-- ---- a run as it is handed on

-- every state that a trail leads to is one of the chart's
abbrev pub Within : Chart → Trail Choice State → Type 0
Within c here = Unit
Within c (overrun a) = Unit
Within c (by a t r) = Concrete c (row_at t.loc t.vals) × Within c r

-- the run in words: the row of its first state, its moves and how it ends, and its trail at the front of the path
pub record Held (c : Chart) (q : ErrorRun Choice State) (start path : List ℤ) (run : Run) : Type 0 where
  pub concrete : Concrete c start
  pub first : state_of start ≡ q.start
  pub count : run.moves ≡ moves q.trail
  pub answer : run.end ≡ end_of q.trail
  pub words : path ≡ trail_words q.trail ++ drop (length (trail_words q.trail)) path
  pub within : Within c q.trail

-- what was found, in words
abbrev pub Holds : Chart → Option (ErrorRun Choice State) → List ℤ → List ℤ → Perhaps Run → Type 0
Holds c none start path None = Unit
Holds c none start path (Some run) = ⊥
Holds c (some q) start path None = ⊥
Holds c (some q) start path (Some run) = Held c q start path run
