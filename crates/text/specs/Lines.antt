-- The lines of a text, as a reader goes down them. Assumes nothing.
use Rattle.std.specs.Prelude.{◌≡◌, List, ℕ, ◌+◌, ◌≤◌, ◌<◌, length, Option, Some, None}
use Rattle.text.specs.Places.{end_of, line_from}
use Rattle.text.specs.declared.line.Line.{Line}

-- the line begins at `at`, and the one after it at `next`
pub record Begins (text : List ℕ) (at : ℕ) (line : Line) (next : ℕ) : Type 0 where
  pub here : at < length text
  pub is : line.bytes.now ≡ line_from text at
  pub on : next ≡ end_of text at + 1

-- what a reader at the place `at` reads, and where it is then; at the end of the text it stays
abbrev pub LineRead : List ℕ → ℕ → Option Line → ℕ → Type 0
LineRead text at None next = (length text ≤ at) × (next ≡ at)
LineRead text at (Some line) next = Begins text at line next
