-- What the answers on the go line say, in the words of its definition. Document 01, "The walk program and its listing".
-- Assumes nothing.
use Rattle.std.specs.Prelude.{◌≡◌, List, ℕ, Result, Ok, Err}
use denote.Ref.{Bor}
use Rattle.semantics.specs.Reading.{fail, ok}
use Rattle.semantics.specs.Refusals.{number_of}
use Rattle.semantics.specs.declared.Refusal.{Refusal}
use Rattle.semantics.specs.Program.{go_line, past_line}
use Rattle.semantics.specs.Program.{Go as Asking}
use Rattle.program.specs.declared.go_line.Go.{Go}

-- what a go line asks, as the definitions have it
abbrev pub asking : Go → Asking
asking g = record { settings = g.settings; capacity = g.capacity; budget = g.budget }

-- "The go line is judged first": its refusal; or what it asks, and the chart is the rest of the input, "one tabbed line,
-- then a chart"
abbrev pub GoRead : List ℕ → Result (Go × Bor (List ℕ)) Refusal → Type 0
GoRead input (Err r) = go_line input ≡ fail (number_of r)
GoRead input (Ok read) = (go_line input ≡ ok (asking read.0)) × (read.1.now ≡ past_line input)
