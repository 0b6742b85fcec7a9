-- What a draft holds, and what the judges of a line and of all lines make of it. Assumes nothing.
use Rattle.std.specs.Prelude.{◌≡◌, List, ℕ, ⊤, Result, Ok, Err}
use Rattle.semantics.specs.Reading.{Res, fail, ok, SoFar, refused, at_end}
use Rattle.semantics.specs.Refusals.{number_of}
use Rattle.semantics.specs.declared.Refusal.{Refusal}
use Rattle.semantics.specs.declared.RefusedAt.{RefusedAt}
use Rattle.reader.specs.ReadSoFar.{Rows, Names, lines_judged}
use Rattle.reader.specs.declared.draft.Draft.{Draft}

-- what was read so far
pub record Holds (d : Draft) (s : SoFar) : Type 0 where
  pub rows : Rows d.tally d.rows s.chart
  pub names : Names d.tally.vars d.names s.names

-- a line that comes to r is read, and d holds what was read with it
pub record Grown (r : Res SoFar) (d : Draft) : Type 0 where
  pub read : SoFar
  pub is : r ≡ ok read
  pub holds : Holds d read

-- what the code answers to a line that comes to r, and the draft that it leaves
abbrev pub LineJudged : Result ⊤ Refusal → Res SoFar → Draft → Type 0
LineJudged (Err e) r d = r ≡ fail (number_of e)
LineJudged (Ok _) r d = Grown r d

-- all the lines of a text are read, and d holds what they say
pub record Through (text : List ℕ) (d : Draft) : Type 0 where
  pub read : SoFar
  pub holds : Holds d read
  pub is : lines_judged text ≡ at_end read.chart

-- what the code answers to all the lines of a text, and the draft that it leaves
abbrev pub LinesRead : List ℕ → Result ⊤ RefusedAt → Draft → Type 0
LinesRead text (Err e) d = lines_judged text ≡ refused (number_of e.refusal) e.line
LinesRead text (Ok _) d = Through text d
