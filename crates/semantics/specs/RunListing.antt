-- The listing of a real run, and which charts are too wide to search. Document 02, 2.3. Assumes nothing.
use Rattle.std.specs.Prelude.{Bool, false, ◌||◌, List, [], ◌∷◌, ◌++◌, map, ℕ, ◌*◌, ltb, ℤ, pos, ◌-ℤ◌}
use Rattle.std.proofs.Math.Option.{Option, none, some}
use Rattle.semantics.specs.Lists.{some_of}
use Rattle.semantics.specs.Layout.{most_moves, most_inputs, most_starts}
use Rattle.semantics.specs.Text.{bytes, decimal, decimal_z, line_of}
use Rattle.semantics.specs.Chart.{Value, known, top, Var, Op, assign, add, sub, input, assume, skip, Chart, State, within}
use Rattle.semantics.specs.Listing.{loc_text}
use Rattle.semantics.specs.Search.{Trail, here, overrun, by, ErrorRun, moves, first_run, Choice, size, explicit}

-- ---- the text

-- "per state the edge that brought it (0 at the start), location name and values"
abbrev pub state_text : Chart → ℕ → State → List ℕ
state_text c n s = line_of (decimal n) (loc_text c.locs s.loc ∷ map decimal_z s.vals)

-- the states that follow, "an overrun as its edge alone"
abbrev pub trail_text : Chart → Trail Choice State → List ℕ
trail_text c here = []
trail_text c (overrun a) = line_of (decimal a.edge.no) []
trail_text c (by a t r) = state_text c a.edge.no t ++ trail_text c r

-- "It lists `run` and its count of moves, then per state ...; or `none` and k"
abbrev pub found_text : Chart → ℕ → Option (ErrorRun Choice State) → List ℕ
found_text c k none = line_of (bytes "none") (decimal k ∷ [])
found_text c k (some r) = line_of (bytes "run") (decimal (moves r.trail) ∷ []) ++ (state_text c 0 r.start ++ trail_text c r.trail)

-- what a search for at most k moves lists
unfoldable pub run_text : Chart → ℕ → List ℕ
run_text c k = found_text c k (first_run (explicit c) k)

-- ---- 30 and 31

-- "k from 0 to 8", what 30 asks
abbrev pub moves_ok : ℤ → Bool
moves_ok k = within (pos 0) (pos most_moves) k

-- "an `in` wider than 16 values"
abbrev pub wide_input : Op → Bool
wide_input (assign v a) = false
wide_input (add v a b) = false
wide_input (sub v a b) = false
wide_input (input v p q) = ltb most_inputs (size (q -ℤ p))
wide_input (assume v r a) = false
wide_input skip = false

-- how many values a variable of range lo..hi may start with; here and below, of a chart in form (`SearchSizes`)
abbrev pub init_count : ℤ → ℤ → Value → ℕ
init_count lo hi (known z) = 1
init_count lo hi top = size (hi -ℤ lo)

-- how many starting states there are
abbrev pub start_count : List Var → ℕ
start_count [] = 1
start_count (v ∷ vs) = init_count v.lo v.hi v.init * start_count vs

-- "an `in` wider than 16 values or more than 4,096 starting states", what 31 refuses; of any edge, also one that is never
-- reached
unfoldable pub too_wide : Chart → Bool
too_wide c = some_of (λ g. wide_input g.op) c.edges || ltb most_starts (start_count c.vars)
