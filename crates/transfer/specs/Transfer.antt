-- The transfer of an edge of the encoded chart on a row of words, the test of an error location, and the initial row,
-- with no word on the form of either: a word past the end is 0, a number's sign does not count. Assumes nothing.
use Rattle.std.specs.Prelude.{Bool, true, ◌&&◌, ◌||◌, List, [], ◌∷◌, ℕ, zero, suc, ◌+◌, ◌*◌, eqb, ℤ, nat_abs}
use Rattle.std.specs.Int.Signed.{le_z}
use Rattle.std.specs.Int.{w32}
use Rattle.std.proofs.Common.{SFits}
use Rattle.semantics.specs.declared.Arithmetic.{Arithmetic}
use Rattle.semantics.specs.declared.Arithmetic.TheVariants.{Add, Sub}
use Rattle.semantics.specs.Lists.{pick}
use Rattle.semantics.specs.Chart.{Rel, eq, ne, lt, le, gt, ge, eq_z, within, holds}
use Rattle.semantics.specs.Algorithm.{Step, blocked, fault, to}
use Rattle.semantics.specs.declared.Span.{Span}
use Rattle.semantics.specs.Constants.{only, sums, differences, turned, satisfying}
use Rattle.semantics.specs.Layout.{top_word, variable_size, location_size, edge_size, variable_at, high_place, init_place, to_place, operation_place, target_place, first_tag_place, first_value_place, second_tag_place, second_value_place, skip_code, set_code, add_code, sub_code, in_code, eq_code, ne_code, lt_code, le_code, gt_code, number_tag}
use Rattle.semantics.specs.Encoding.{word_at, count, kind_word, variable_count}
use Rattle.state.specs.Rows.{location_in, row_at, value_at, with_location, with_value, word_join}
use Rattle.semantics.specs.Operations.{the_relation}
use Rattle.chart.specs.declared.Kind.{Kind}
use Rattle.chart.specs.declared.Kind.TheVariants.{Skip, Set, Compute, In, If}
use Rattle.chart.specs.Encoded.{locations_at, edges_at}
use Rattle.transfer.specs.declared.Move.{Move}
use Rattle.transfer.specs.declared.Move.TheVariants.{Blocked, Fault, Successor}

-- the step that a move says, with the row that it leaves
abbrev pub step_of : Move → List ℤ → Step (List ℤ)
step_of Blocked e = blocked
step_of Fault e = fault
step_of Successor e = to e

-- ---- the edges of the chart

-- where the words of edge g stand, edges from 0
abbrev pub edge_at : List ℤ → ℕ → ℕ
edge_at c g = edges_at c + edge_size * g

-- n edges, from edge g on
abbrev pub edges_from : ℕ → ℕ → List ℕ
edges_from g zero = []
edges_from g (suc n) = g ∷ edges_from (suc g) n

-- ---- values

-- both ends are words
abbrev pub Narrow : Span → Type 0
Narrow r = SFits w32 r.low × SFits w32 r.high

-- the range of variable k
abbrev pub range_at : List ℤ → ℕ → Span
range_at c k = record { low = word_at c (variable_at k); high = word_at c (variable_at k + high_place) }

-- z lies in the range of variable k
abbrev pub in_range_at : List ℤ → ℕ → ℤ → Bool
in_range_at c k z = within (range_at c k).low (range_at c k).high z

-- an operand by its tag and its own word: a number, or the word of a variable
abbrev pub operand_by : ℤ → ℤ → List ℤ → ℤ
operand_by tag z e = pick (eq_z tag number_tag) z (value_at e (nat_abs z))

-- what variable k may be where its word is x: "its known value or anything in its declared range". Of an operand that is
-- a number, which in a chart in form is not top, k says nothing
abbrev pub span_at : List ℤ → ℕ → ℤ → Span
span_at c k x = pick (eq_z x top_word) (range_at c k) (only x)

-- what an operation makes of a number of each, "the two taken independently"
abbrev pub results_by : Arithmetic → Span → Span → Span
results_by Add a b = sums a b
results_by Sub a b = differences a b

-- variable k becomes a result that may be any number of r: top, or the one number that it is. "if some result lies outside
-- the target's range, that edge raises alarm"
unfoldable pub assign_result : List ℤ → ℕ → Bool → Span → List ℤ → Step (List ℤ)
assign_result c k top r e = pick (in_range_at c k r.low && in_range_at c k r.high) (to (with_value e k (pick top top_word r.low))) fault

-- ---- the operations of the edge at i: its target, and its operands

-- v, the variable that the edge sets or tests
abbrev pub target_at : List ℤ → ℕ → ℕ
target_at c i = count c (i + target_place)

-- the word of its first operand
abbrev pub first_at : List ℤ → ℕ → List ℤ → ℤ
first_at c i e = operand_by (word_at c (i + first_tag_place)) (word_at c (i + first_value_place)) e

-- and of its second
abbrev pub second_at : List ℤ → ℕ → List ℤ → ℤ
second_at c i e = operand_by (word_at c (i + second_tag_place)) (word_at c (i + second_value_place)) e

-- the variable that the first operand is, where it is one
abbrev pub first_variable_at : List ℤ → ℕ → ℕ
first_variable_at c i = count c (i + first_value_place)

-- and the second
abbrev pub second_variable_at : List ℤ → ℕ → ℕ
second_variable_at c i = count c (i + second_value_place)

-- "`set v a`: v becomes a"
unfoldable pub assign_at : List ℤ → ℕ → List ℤ → Step (List ℤ)
assign_at c i e = let a = first_at c i e in assign_result c (target_at c i) (eq_z a top_word) (span_at c (first_variable_at c i) a) e

-- "`add v a b`: a + b", "`sub v a b`: a − b"; "any unknown operand makes v unspecific"
unfoldable pub compute_at : Arithmetic → List ℤ → ℕ → List ℤ → Step (List ℤ)
compute_at s c i e =
    let a = first_at c i e in
    let b = second_at c i e in
    assign_result c (target_at c i) (eq_z a top_word || eq_z b top_word) (results_by s (span_at c (first_variable_at c i) a) (span_at c (second_variable_at c i) b)) e

-- `in v p q`: "known if p = q, else unspecific"
unfoldable pub input_at : List ℤ → ℕ → List ℤ → Step (List ℤ)
input_at c i e = to (with_value e (target_at c i) (word_join (word_at c (i + first_value_place)) (word_at c (i + second_value_place))))

-- ---- `if`

-- the relation of code n; of any other code it is `ge`
abbrev pub rel_by : ℕ → Rel
rel_by n = pick (eqb n eq_code) eq (pick (eqb n ne_code) ne (pick (eqb n lt_code) lt (pick (eqb n le_code) le (pick (eqb n gt_code) gt ge))))

-- variable k, at top, stands in the relation to x, which is known. 2.6: "count the values of its declared range that satisfy
-- it: none gives no successor, one becomes known, more leave it unspecific"
unfoldable pub refine_by : List ℤ → Rel → ℕ → ℤ → List ℤ → Step (List ℤ)
refine_by c r k x e = let s = satisfying r x (range_at c k) in pick (le_z s.low s.high) (to (with_value e k (word_join s.low s.high))) blocked

-- an `if` whose sides are x, which is variable k, and y, which is variable j where it is at top
unfoldable pub tested_by : List ℤ → Rel → ℕ → ℕ → ℤ → ℤ → List ℤ → Step (List ℤ)
tested_by c r k j x y e =
    pick (eq_z x top_word && eq_z y top_word) (to e) (pick (eq_z x top_word) (refine_by c r k y e) (pick (eq_z y top_word) (refine_by c (turned r) j x e) (pick (holds r x y) (to e) blocked)))

-- `if v rel a`
unfoldable pub assume_at : List ℤ → Rel → ℕ → List ℤ → Step (List ℤ)
assume_at c r i e = tested_by c r (target_at c i) (first_variable_at c i) (value_at e (target_at c i)) (first_at c i e) e

-- ---- every operation

-- the operation of code n
unfoldable pub op_by : ℕ → List ℤ → ℕ → List ℤ → Step (List ℤ)
op_by n c i e =
    pick (eqb n skip_code) (to e) (pick (eqb n set_code) (assign_at c i e) (pick (eqb n add_code) (compute_at Add c i e) (pick (eqb n sub_code) (compute_at Sub c i e) (pick (eqb n in_code) (input_at c i e) (assume_at c (rel_by n) i e)))))

-- the operation of a kind
abbrev pub op_of_kind : Kind → List ℤ → ℕ → List ℤ → Step (List ℤ)
op_of_kind Skip c i e = to e
op_of_kind Set c i e = assign_at c i e
op_of_kind (Compute s) c i e = compute_at s c i e
op_of_kind In c i e = input_at c i e
op_of_kind (If rel) c i e = assume_at c (the_relation rel) i e

-- ---- the transfer

-- by the edge whose words stand at i
unfoldable pub post_at : List ℤ → ℕ → List ℤ → Step (List ℤ)
post_at c i e = pick (eqb (count c i) (location_in e)) (op_by (count c (i + operation_place)) c i (with_location e (count c (i + to_place)))) blocked

-- by edge g, edges from 0
unfoldable pub post_words : List ℤ → ℕ → List ℤ → Step (List ℤ)
post_words c g e = post_at c (edge_at c g) e

-- ---- an error location; the initial row

-- the word of the location's kind is 1
unfoldable pub error_row : List ℤ → List ℤ → Bool
error_row c e = eq_z (word_at c (locations_at c + location_size * location_in e)) (kind_word true)

-- the first of n variables' initial words stands at i
abbrev pub initial_words : List ℤ → ℕ → ℕ → List ℤ
initial_words c i zero = []
initial_words c i (suc n) = word_at c i ∷ initial_words c (i + variable_size) n

-- "start location, each init"
unfoldable pub initial_row : List ℤ → List ℤ
initial_row c = row_at 0 (initial_words c (variable_at 0 + init_place) (variable_count c))
