-- A state of a chart as a row of words, and an edge as the code has it. Assumes nothing.
use Rattle.std.specs.Prelude.{◌≡◌, List, ◌-◌, ◌≤◌, ◌<◌, ℤ, length, drop}
use Rattle.semantics.specs.Lists.{In}
use Rattle.semantics.specs.Algorithm.{Step, blocked, fault, to}
use Rattle.semantics.specs.Encoding.{decode}
use Rattle.semantics.specs.Search.{inputs}
use Rattle.semantics.specs.Chart.{Chart, Numbered, State, Ranged}
use Rattle.semantics.specs.Encoding.{edge_in, edge_count}
use Rattle.state.specs.Rows.{location_in, values_of, row_at}
use Rattle.chart.specs.declared.EdgeRow.{EdgeRow}
use Rattle.transfer.specs.Transfer.{edge_at}
use Rattle.transfer.specs.declared.Move.{Move}
use Rattle.transfer.specs.declared.Move.TheVariants.{Blocked, Fault, Successor}

-- the state that a row's words are
abbrev pub state_of : List ℤ → State
state_of e = record { loc = location_in e; vals = values_of e }

-- the row is that of a state of the chart
pub record Concrete (c : Chart) (e : List ℤ) : Type 0 where
  pub words : e ≡ row_at (location_in e) (values_of e)
  pub location : location_in e < length c.locs
  pub ranged : Ranged c.vars (values_of e)

-- the edge with its number, by its words
abbrev pub edge_of : List ℤ → EdgeRow → Numbered
edge_of ws e = record { no = e.id.0; edge = edge_in (drop e.at ws) }

-- it is one of the encoded chart's
pub record IsEdge (ws : List ℤ) (e : EdgeRow) : Type 0 where
  pub some : 1 ≤ e.id.0
  pub within : e.id.0 ≤ edge_count ws
  pub at : e.at ≡ edge_at ws (e.id.0 - 1)

-- what a move asks: one of the chart's edges, an input value of that, a row that is a state, and as much room for the
-- successor
pub record Movable (ws : List ℤ) (e : EdgeRow) (z : ℤ) (row out : List ℤ) : Type 0 where
  pub edge : IsEdge ws e
  pub input : In z (inputs (edge_of ws e).edge.op)
  pub concrete : Concrete (decode ws) row
  pub room : length out ≡ length row

-- the answer and the row `out` after it are those of the step
abbrev pub Advanced : Chart → Step State → List ℤ → Move → Type 0
Advanced c o out Blocked = o ≡ blocked
Advanced c o out Fault = o ≡ fault
Advanced c o out Successor = (o ≡ to (state_of out)) × Concrete c out
