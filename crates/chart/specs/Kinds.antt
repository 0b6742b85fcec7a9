-- What an edge's operation does, by its code; and which of its two operands. Assumes nothing.
use Rattle.std.specs.Prelude.{ℕ, eqb}
use Rattle.semantics.specs.Lists.{pick}
use Rattle.semantics.specs.Layout.{skip_code, set_code, add_code, sub_code, in_code, eq_code, ne_code, lt_code, le_code, gt_code, first_tag_place, first_value_place, second_tag_place, second_value_place}
use Rattle.semantics.specs.declared.Arithmetic.TheVariants.{Add, Sub}
use Rattle.semantics.specs.declared.Relation.{Relation}
use Rattle.semantics.specs.declared.Relation.TheVariants.{Eq, Ne, Lt, Le, Gt, Ge}
use Rattle.semantics.specs.Encoding.{rel_code}
use Rattle.semantics.specs.Operations.{the_relation}
use Rattle.chart.specs.declared.Kind.{Kind}
use Rattle.chart.specs.declared.Kind.TheVariants.{Skip, Set, Compute, In, If}
use Rattle.chart.specs.declared.Which.{Which}
use Rattle.chart.specs.declared.Which.TheVariants.{First, Second}

-- the relation of code n; of any other code it is `ge`
unfoldable pub relation_of : ℕ → Relation
relation_of n = pick (eqb n eq_code) Eq (pick (eqb n ne_code) Ne (pick (eqb n lt_code) Lt (pick (eqb n le_code) Le (pick (eqb n gt_code) Gt Ge))))

-- what code n does; past the last code, as `op_of` has it, it is the last
unfoldable pub kind_of : ℕ → Kind
kind_of n = pick (eqb n skip_code) Skip (pick (eqb n set_code) Set (pick (eqb n add_code) (Compute Add) (pick (eqb n sub_code) (Compute Sub) (pick (eqb n in_code) In (If (relation_of n))))))

-- the code that is written for it
abbrev pub code_of : Kind → ℕ
code_of Skip = skip_code
code_of Set = set_code
code_of (Compute Add) = add_code
code_of (Compute Sub) = sub_code
code_of In = in_code
code_of (If r) = rel_code (the_relation r)

-- the places of an operand's words in an edge's row
abbrev pub tag_place : Which → ℕ
tag_place First = first_tag_place
tag_place Second = second_tag_place

abbrev pub value_place : Which → ℕ
value_place First = first_value_place
value_place Second = second_value_place
