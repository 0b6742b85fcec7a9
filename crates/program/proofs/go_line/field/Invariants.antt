-- `program::go_line::field`: so many fields were passed.
use Rattle.semantics.proofs.Prelude.{◌≡◌}
use Rattle.text.specs.Fields.{field_at}
use Rattle.program.proofs.go_line.field.Given as goal

abbrev pub invariant-loop : goal.invariant-loop
invariant-loop l = l.at ≡ field_at l.line l.counter
