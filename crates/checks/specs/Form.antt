-- The words lent and the record as memory, and what a call may rely on that 20, 14 and 21 let pass. Assumes nothing.
use Rattle.std.specs.Prelude.{◌≡◌, List, ℕ, ◌*◌, ◌≤◌, T, ℤ, length}
use Rattle.semantics.specs.Layout.{index_limit}
use Rattle.semantics.specs.Encoding.{decode, well_formed}
use Rattle.semantics.specs.declared.Analysis.{Analysis}
use Rattle.semantics.specs.Memory.{Memory, stride, analysis_ok}
use Rattle.state.specs.declared.Layout.{Layout}
use Rattle.state.specs.Rows.{layout_of, width_of}

-- a table, a waitlist and a record as memory
abbrev pub lent : List ℤ → List ℤ → Analysis → Memory
lent t l a = record { table = t; waitlist = l; analysis = a }

-- the layout of the chart's tables, as `state::layout_of` answers it
abbrev pub ChartLayout : List ℤ → Layout → Type 0
ChartLayout ws y = (y ≡ layout_of ws) × (width_of y ≤ index_limit)

-- the words lent are enough for r slots (14)
abbrev pub Enough : List ℤ → ℕ → List ℤ → List ℤ → Type 0
Enough ws r t l = (r * stride (decode ws) ≤ length t) × (r ≤ length l)

-- none of 20, 14 and 21 holds
pub record InForm (words : List ℤ) (m : Memory) : Type 0 where
  pub chart : T (well_formed words)
  pub table : m.analysis.capacity * stride (decode words) ≤ length m.table
  pub list : m.analysis.capacity ≤ length m.waitlist
  pub analysis : T (analysis_ok (decode words) m)
