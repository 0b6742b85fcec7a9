-- Rows of words as they are written: what storing one leaves, and whose words they are. Assumes nothing.
use Rattle.std.specs.Prelude.{Bool, List, ◌++◌, ℕ, ◌+◌, ◌*◌, length, take, drop, ℤ}
use Rattle.semantics.specs.Layout.{variable_size, location_size, edge_size}
use Rattle.semantics.specs.Chart.{Var, Loc, Edge}
use Rattle.semantics.specs.Encoding.{val}
use Rattle.semantics.specs.Operations.{the_operation}
use Rattle.semantics.specs.declared.Operation.{Operation}

-- the words with the row stored from a place on
unfoldable pub stored : ℕ → List ℤ → List ℤ → List ℤ
stored at row ws = take at ws ++ (row ++ drop (length row) (drop at ws))

-- the words of so many rows
abbrev pub rows_size : ℕ → ℕ → ℕ → ℕ
rows_size v l e = variable_size * v + location_size * l + edge_size * e

-- ---- whose rows they are

abbrev pub the_variable : ℤ → ℤ → ℤ → Var
the_variable lo hi init = record { lo = lo; hi = hi; init = val init }

abbrev pub the_location : Bool → List ℕ → Loc
the_location error name = record { name = name; error = error }

abbrev pub the_edge : ℕ → ℕ → Operation → Edge
the_edge from to op = record { from = from; to = to; op = the_operation op }
