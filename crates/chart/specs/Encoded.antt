-- The check of an encoded chart said of its words, in the order of the code's tests. A row is handed on with all
-- words after it. `..-fine` tests words; `..-ok` (semantics, Encoding) tests the chart that they decode to. Assumes
-- nothing.
use Rattle.std.specs.Prelude.{Bool, true, false, not, ◌&&◌, ◌||◌, List, [], ◌∷◌, ℕ, ◌+◌, ◌-◌, ◌*◌, leb, ltb, eqb, length, take, drop, ℤ, pos, nat_abs}
use Rattle.std.specs.Int.Signed.{non_neg, le_z}
use Rattle.semantics.specs.Lists.{pick, all}
use Rattle.semantics.specs.Chart.{Loc, eq_z, within, small}
use Rattle.semantics.specs.Layout.{most_variables, most_locations, most_edges, counts_size, variable_size, name_size, location_size, edge_size, variables_place, locations_place, edges_place, variable_at, high_place, kind_place, name_place, from_place, to_place, operation_place, target_place, first_tag_place, first_value_place, second_tag_place, second_value_place, skip_code, add_code, sub_code, in_code, ge_code, number_tag, variable_tag, byte_limit}
use Rattle.semantics.specs.Encoding.{word_at, count, kind_word, var_in, var_ok, loc_in, distinct_names, several, variable_count, location_count, edge_count}
use Rattle.semantics.specs.Text.{same_bytes}
use Rattle.semantics.specs.Memory.{below, zeros}

-- n rows of k words, each with the words after it
abbrev pub rows : ℕ → ℕ → List ℤ → List (List ℤ)
rows k n ws = several (λ r. r) k n ws

-- ---- one word

-- a number from 0 to n
abbrev pub is_at_most : ℕ → ℤ → Bool
is_at_most n z = non_neg z && leb (nat_abs z) n

-- a word that is a byte of a name
unfoldable pub name_word : ℤ → Bool
name_word z =
    within (pos 65) (pos 90) z || within (pos 97) (pos 122) z || within (pos 48) (pos 57) z || eq_z z (pos 45)

-- ---- the counts, and where the rows stand

-- no more variables, locations and edges than a chart may have, and a location at least
unfoldable pub counts_fine : List ℤ → Bool
counts_fine ws =
    is_at_most most_variables (word_at ws variables_place) && is_at_most most_locations (word_at ws locations_place) && leb 1 (location_count ws) && is_at_most most_edges (word_at ws edges_place)

-- where the locations' words begin
abbrev pub locations_at : List ℤ → ℕ
locations_at ws = variable_at (variable_count ws)

-- where the edges' words begin
abbrev pub edges_at : List ℤ → ℕ
edges_at ws = locations_at ws + location_size * location_count ws

-- ---- a location: its kind is 0 or 1; bytes of a name, and 0 after them

-- one location; n is the length of its name
unfoldable pub location_fine : List ℤ → Bool
location_fine ws =
    let n = length (loc_in ws).name in
    (eq_z (word_at ws kind_place) (kind_word false) || eq_z (word_at ws kind_place) (kind_word true))
    && leb 1 n && all name_word (take n (drop name_place ws)) && zeros (take (name_size - n) (drop (n + name_place) ws))

-- ---- an edge, of v variables

-- a number, or a variable
unfoldable pub operand_fine : ℕ → ℤ → ℤ → Bool
operand_fine v tag z = pick (eq_z tag number_tag) (small z) (eq_z tag variable_tag && below v z)

-- the number lies in the range of variable k
unfoldable pub ranged : List ℤ → ℕ → ℤ → Bool
ranged vars k z = within (word_at vars (variable_size * k)) (word_at vars (variable_size * k + high_place)) z

-- `add` and `sub`: two operands
unfoldable pub two_fine : ℕ → List ℤ → Bool
two_fine v ws = operand_fine v (word_at ws first_tag_place) (word_at ws first_value_place) && operand_fine v (word_at ws second_tag_place) (word_at ws second_value_place)

-- `set` and `if`: one operand, and 0 for a second
unfoldable pub one_fine : ℕ → List ℤ → Bool
one_fine v ws = operand_fine v (word_at ws first_tag_place) (word_at ws first_value_place) && eq_z (word_at ws second_tag_place) (pos 0) && eq_z (word_at ws second_value_place) (pos 0)

-- `in`: two numbers p ≤ q in the range of the target, each with a tag of 0
unfoldable pub input_fine : List ℤ → List ℤ → Bool
input_fine vars ws =
    eq_z (word_at ws first_tag_place) number_tag && eq_z (word_at ws second_tag_place) number_tag
    && small (word_at ws first_value_place) && ranged vars (count ws target_place) (word_at ws first_value_place)
    && small (word_at ws second_value_place) && ranged vars (count ws target_place) (word_at ws second_value_place)
    && le_z (word_at ws first_value_place) (word_at ws second_value_place)

-- by the operation's code n
unfoldable pub operands_fine : ℕ → List ℤ → ℕ → List ℤ → Bool
operands_fine n vars v ws = pick (eqb n add_code) (two_fine v ws) (pick (eqb n sub_code) (two_fine v ws) (pick (eqb n in_code) (input_fine vars ws) (one_fine v ws)))

-- `skip` is all 0; any other operation has a target, one of v variables
unfoldable pub operation_fine : List ℤ → ℕ → List ℤ → Bool
operation_fine vars v ws =
    pick (eqb (count ws operation_place) skip_code) (zeros (take (edge_size - target_place) (drop target_place ws))) (below v (word_at ws target_place) && operands_fine (count ws operation_place) vars v ws)

-- one edge; v variables, l locations
unfoldable pub edge_fine : List ℤ → ℕ → ℕ → List ℤ → Bool
edge_fine vars v l ws =
    below l (word_at ws from_place) && below l (word_at ws to_place) && is_at_most ge_code (word_at ws operation_place) && operation_fine vars v ws

-- ---- all rows

-- each variable, location and edge, and no two locations of one name
unfoldable pub rows_fine : List ℤ → Bool
rows_fine ws =
    let vars = drop counts_size ws in
    let locations = drop (locations_at ws) ws in
    all var_ok (several var_in variable_size (variable_count ws) vars)
    && all location_fine (rows location_size (location_count ws) locations)
    && distinct_names (several loc_in location_size (location_count ws) locations)
    && all (edge_fine vars (variable_count ws) (location_count ws)) (rows edge_size (edge_count ws) (drop (edges_at ws) ws))

-- ---- names

-- the number as a byte; bytes of a name in form are as they were
abbrev pub byte_of : ℕ → ℕ
byte_of n = pick (ltb n byte_limit) n 0

-- a number for a name, n what the bytes before make: equal names have equal numbers
unfoldable pub number_from : ℕ → List ℕ → ℕ
number_from n [] = n
number_from n (b ∷ bs) = number_from (2 * n + byte_of b) bs

-- that of a location, as a word
abbrev pub number_of : Loc → ℤ
number_of l = pos (number_from 0 l.name)

-- that of the location in the first words
abbrev pub name_number : List ℤ → ℤ
name_number ws = number_of (loc_in ws)

-- the name of a row is not that of another, which stands there with the number of its name: only where this is k is it
-- looked at
abbrev pub other_row : List ℤ → ℤ → List ℤ × ℤ → Bool
other_row row k p = not (eq_z k p.1 && same_bytes (loc_in row).name (loc_in p.0).name)
