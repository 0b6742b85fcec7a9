-- What the answers of the functions over a file and a line stand for. Assumes nothing.
use Rattle.std.proofs.Math.Option.{Option, none, some}
use Rattle.std.specs.Prelude.{ℕ, Some, None}
use Rattle.std.specs.Prelude.{Option as Answer}
use Rattle.semantics.specs.Chart.{Var, Edge as ChartEdge}
use Rattle.chart.specs.Rows.{the_variable, the_edge}
use Rattle.reader.specs.declared.variable.VarRow.{VarRow}
use Rattle.reader.specs.declared.edge.Edge.{Edge}

-- the line at fault, if there is one
abbrev pub found : Answer ℕ → Option ℕ
found None = none
found (Some n) = some n

-- a variable, from its words
abbrev pub var_of : VarRow → Var
var_of v = the_variable v.lo v.hi v.init

-- an edge
abbrev pub edge_of : Edge → ChartEdge
edge_of g = the_edge g.from.0 g.to.0 g.op
