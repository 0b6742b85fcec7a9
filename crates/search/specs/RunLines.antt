-- The lines of a found run, by its words: those of a trail as rows, an edge and the state that it brought. Assumes nothing.
use Rattle.std.specs.Prelude.{List, [], ◌∷◌, ◌++◌, ℕ, zero, suc, ℤ, take, drop}
use Rattle.semantics.specs.Text.{bytes, decimal, line_of}
use Rattle.semantics.specs.Chart.{Chart}
use Rattle.semantics.specs.Encoding.{count}
use Rattle.semantics.specs.Memory.{width}
use Rattle.semantics.specs.RunListing.{state_text}
use Rattle.descent.specs.Rows.{state_of, Concrete}

-- the words of the state in the first row, after its edge
abbrev pub row_in : Chart → List ℤ → List ℤ
row_in c path = take (width c) (drop 1 path)

-- the words of the rows after it
abbrev pub rows_after : Chart → List ℤ → List ℤ
rows_after c path = drop (suc (width c)) path

-- the first n rows hold states of the chart
abbrev pub Rows : Chart → ℕ → List ℤ → Type 0
Rows c zero path = Unit
Rows c (suc n) path = Concrete c (row_in c path) × Rows c n (rows_after c path)

-- their lines
unfoldable pub rows_text : Chart → ℕ → List ℤ → List ℕ
rows_text c zero path = []
rows_text c (suc n) path = state_text c (count path 0) (state_of (row_in c path)) ++ rows_text c n (rows_after c path)

-- the count of moves, the first state, and n states after it
unfoldable pub states_text : Chart → ℕ → ℕ → List ℤ → List ℤ → List ℕ
states_text c moves n start path = line_of (bytes "run") (decimal moves ∷ []) ++ (state_text c 0 (state_of start) ++ rows_text c n path)
