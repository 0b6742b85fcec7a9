-- Where the lines of a text lie: "The reader goes down the chart file line by line, with its place in the lent text"
-- (document 01, The chart file). Assumes nothing.
use Rattle.std.specs.Prelude.{Bool, ◌&&◌, not, List, ℕ, ◌+◌, eqb, length, take, drop}
use Rattle.semantics.specs.Text.{fields}
use Rattle.semantics.specs.Reading.{none_empty}
use Rattle.text.specs.Fields.{up_to}
use Rattle.text.specs.declared.lines.Form.{Form}
use Rattle.text.specs.declared.lines.Shape.{Shape}

-- the place of the LF that ends the line that begins at `at`, or the length
abbrev pub end_of : List ℕ → ℕ → ℕ
end_of text at = at + up_to 10 (drop at text)

-- the bytes up to there
abbrev pub line_from : List ℕ → ℕ → List ℕ
line_from text at = take (up_to 10 (drop at text)) (drop at text)

-- how a line is cut into fields
abbrev pub form_of : List ℕ → Form
form_of line = record { fields = length (fields line); filled = none_empty (fields line) }

-- where the line that begins at `at` ends, and its form
abbrev pub shape_of : List ℕ → ℕ → Shape
shape_of text at = record { end = end_of text at; form = form_of (line_from text at) }

-- the shape of a line whose last byte is b, and whose fields were filled before that
abbrev pub ended_after : ℕ → ℕ → Bool → ℕ → Shape
ended_after end n filled b = record { end = end; form = record { fields = n; filled = filled && not (eqb b 9) } }
