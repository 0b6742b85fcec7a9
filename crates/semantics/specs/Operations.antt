-- An edge's operation as the code has it (src/lib.rt), and which of the definitions' it is. Assumes nothing.
use Rattle.std.specs.Prelude.{ℕ}
use Rattle.semantics.specs.Chart.{Operand, num, var, Rel, eq, ne, lt, le, gt, ge, Op, assign, add, sub, input, assume, skip}
use Rattle.semantics.specs.declared.Operand.{Operand as CodeOperand}
use Rattle.semantics.specs.declared.Operand.TheVariants as operand
use Rattle.semantics.specs.declared.Relation.{Relation}
use Rattle.semantics.specs.declared.Relation.TheVariants as relation
use Rattle.semantics.specs.declared.Arithmetic.{Arithmetic}
use Rattle.semantics.specs.declared.Arithmetic.TheVariants as arithmetic
use Rattle.semantics.specs.declared.Operation.{Operation}
use Rattle.semantics.specs.declared.Operation.TheVariants as operation

abbrev pub the_operand : CodeOperand → Operand
the_operand (operand.Number z) = num z
the_operand (operand.Variable k) = var k

abbrev pub the_relation : Relation → Rel
the_relation relation.Eq = eq
the_relation relation.Ne = ne
the_relation relation.Lt = lt
the_relation relation.Le = le
the_relation relation.Gt = gt
the_relation relation.Ge = ge

abbrev pub the_sum : Arithmetic → ℕ → Operand → Operand → Op
the_sum arithmetic.Add v a b = add v a b
the_sum arithmetic.Sub v a b = sub v a b

abbrev pub the_operation : Operation → Op
the_operation operation.Skip = skip
the_operation (operation.Set v a) = assign v (the_operand a)
the_operation (operation.Compute s v a b) = the_sum s v (the_operand a) (the_operand b)
the_operation (operation.In v p q) = input v p q
the_operation (operation.If v r a) = assume v (the_relation r) (the_operand a)
