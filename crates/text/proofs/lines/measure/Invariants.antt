-- `text::lines::measure` meets its contract. What is left of the line says, with what was counted, what the whole of it is.
use Rattle.semantics.proofs.Prelude.{◌≡◌, Bool, ◌&&◌, ℕ, ◌+◌, ◌≤◌, eqb, length, drop, List}
use Rattle.semantics.specs.Text.{fields}
use Rattle.semantics.specs.Reading.{none_empty}
use Rattle.text.specs.Fields.{up_to}
use Rattle.text.specs.Places.{line_from}
use Rattle.text.proofs.LineFields.{well_parted}
use Rattle.text.proofs.lines.measure.Given as goal

-- from place i of the rest on: what is left of the line, after so many fields, filled so far
pub record Along (rest : List ℕ) (n : ℕ) (filled : Bool) (last i : ℕ) : Type 0 where
  pub ends : i + up_to 10 (drop i rest) ≡ up_to 10 rest
  pub few : n ≤ i + 1
  pub counted : n + length (fields (line_from rest i)) ≡ length (fields (line_from rest 0)) + 1
  pub full : none_empty (fields (line_from rest 0)) ≡ filled && well_parted (eqb last 9) (line_from rest i)

abbrev pub invariant-loop-n : goal.invariant-loop-n
invariant-loop-n l = Along l.rest l.fields l.filled l.last l.n
