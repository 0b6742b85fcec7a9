-- An analysis that the code holds in form, as memory, and the line of a slot of it. Assumes nothing.
use Rattle.std.specs.Prelude.{List, map, ℕ, nat_abs, eqb, take}
use Rattle.semantics.specs.Lists.{some_of}
use Rattle.semantics.specs.Algorithm.{Origin}
use Rattle.semantics.specs.Encoding.{decode}
use Rattle.semantics.specs.Memory.{Memory, state_in}
use Rattle.semantics.specs.Listing.{slot_text}
use Rattle.state.specs.Rows.{row_of, origins_of}
use Rattle.checks.specs.Form.{lent}
use Rattle.listing.specs.declared.Held.{Held}

abbrev pub memory : Held → Memory
memory h = lent h.table.now h.list.now h.analysis

-- the slots that wait
abbrev pub waiting : Held → List ℕ
waiting h = map nat_abs (take h.analysis.waiting h.list.now)

-- where its slots came from
abbrev pub origins : Held → List Origin
origins h = origins_of h.layout h.analysis.used h.table.now

-- the line of slot s
abbrev pub slot_line : Held → ℕ → List ℕ
slot_line h s = slot_text (decode h.chart) s (state_in (row_of h.layout s h.table.now)) (some_of (eqb s) (waiting h))
