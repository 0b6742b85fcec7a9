-- The parts of the definitions of a V, an L and an E line, as the code judges them one after the other. Assumes
-- nothing.
use Rattle.std.specs.Prelude.{Bool, ◌&&◌, not, List, ℕ, eqb, length, ℤ, Option, Some, None}
use Rattle.std.specs.Int.Signed.{le_z}
use Rattle.semantics.specs.Lists.{all}
use Rattle.semantics.specs.Text.{same_bytes, name_ok}
use Rattle.semantics.specs.Chart.{Var, Op, assign, input, assume, skip, Edge}
use Rattle.semantics.specs.Operations.{the_sum}
use Rattle.semantics.specs.Reading.{Res, ok, check, if_ok, nth, filled, number_field, location_field, target_field, operand_field, init_field, kind_field, rel_field, OpWord, field_count, op_fields_read, SoFar, with_var, with_loc, with_edge}
use Rattle.chart.specs.Encoded.{ranged}
use Rattle.text.specs.declared.Action.{Action}
use Rattle.text.specs.declared.Action.TheVariants as action

-- ---- `V name lo hi init`

-- the name, then the numbers
abbrev pub var_fields : List ℕ → List ℕ → List ℕ → List ℕ → Res Var
var_fields name lo hi init =
    check (name_ok name) 6
    (if_ok (number_field lo) λ l.
    if_ok (number_field hi) λ h.
    check (le_z l h) 7
    (if_ok (init_field l h init) λ x. ok (record { lo = l; hi = h; init = x })))

-- all the fields
abbrev pub var_judged : List (List ℕ) → Res Var
var_judged fs = check (filled 5 fs) 5 (var_fields (nth fs 1) (nth fs 2) (nth fs 3) (nth fs 4))

-- the name is looked for last
abbrev pub var_named : SoFar → List ℕ → Var → Res SoFar
var_named s name v = check (all (λ m. not (same_bytes m name)) s.names) 9 (ok (with_var s name v))

-- ---- `L name kind`

-- all the fields: the kind
abbrev pub loc_judged : List (List ℕ) → Res Bool
loc_judged fs = check (filled 3 fs) 5 (check (name_ok (nth fs 1)) 6 (kind_field (nth fs 2)))

-- the name is looked for last
abbrev pub loc_named : SoFar → List ℕ → Bool → Res SoFar
loc_named s name k = check (all (λ m. not (same_bytes m.name name)) s.chart.locs) 9 (ok (with_loc s (record { name = name; error = k })))

-- ---- `E from to operation ...`. The range of `in`'s target is looked up in the rows

-- p and q of `in`
abbrev pub input_fields : List ℤ → ℕ → List ℕ → List ℕ → Res Op
input_fields rows v f g =
    if_ok (number_field f) λ p. check (ranged rows v p) 7
    (if_ok (number_field g) λ q. check (ranged rows v q && le_z p q) 7 (ok (input v p q)))

-- the two fields after the target v, with n variables
abbrev pub op_fields : List ℤ → ℕ → Action → ℕ → List ℕ → List ℕ → Res Op
op_fields rows n action.Set v f g = if_ok (operand_field n f) λ a. ok (assign v a)
op_fields rows n (action.Compute s) v f g = if_ok (operand_field n f) λ a. if_ok (operand_field n g) λ b. ok (the_sum s v a b)
op_fields rows n action.In v f g = input_fields rows v f g
op_fields rows n action.If v f g = if_ok (rel_field f) λ x. if_ok (operand_field n g) λ a. ok (assume v x a)

-- the operation
abbrev pub op_read : List ℤ → ℕ → Option Action → List (List ℕ) → Res Op
op_read rows n None fs = ok skip
op_read rows n (Some a) fs = if_ok (target_field n (nth fs 4)) λ v. op_fields rows n a v (nth fs 5) (nth fs 6)

-- the locations, of m, in two fields, then the operation
abbrev pub edge_fields : ℕ → Res Op → List ℕ → List ℕ → Res Edge
edge_fields m r f g = if_ok (location_field m f) λ from. if_ok (location_field m g) λ to. if_ok r λ o. ok (record { from = from; to = to; op = o })

-- the same of a line's fields
abbrev pub edge_read : ℕ → Res Op → List (List ℕ) → Res Edge
edge_read m r fs = edge_fields m r (nth fs 1) (nth fs 2)

-- a line whose operation is known: 5 by its count, then its fields
abbrev pub edge_worded : SoFar → OpWord → List (List ℕ) → Res SoFar
edge_worded s w fs = check (eqb (length fs) (field_count w)) 5 (if_ok (edge_read (length s.chart.locs) (op_fields_read s.chart w fs) fs) λ g. ok (with_edge s g))
