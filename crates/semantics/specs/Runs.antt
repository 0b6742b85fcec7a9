-- Runs are not too few: moves that each operation makes, as one list with a single claim over it, a run that meets an error
-- state, and runs that overrun. Coverage alone would hold of a system without a move, and safety of one without an error
-- state or an overrun. And of an analysis that passed over an overrun it is not so that its overruns are awaited, whatever its verdict. Document 01,
-- "The chart file" (the operations) and "Runs"; document 02, 2.1. Assumes nothing.
use Rattle.std.specs.Prelude.{◌≡◌, true, false, List, [], ◌∷◌, ℕ, ℤ, pos, negsuc}
use Rattle.semantics.specs.Text.{bytes}
use Rattle.semantics.specs.Chart.{known, top, Var, num, var, eq, ne, lt, le, gt, ge, Op, assign, add, sub, input, assume, skip, Edge, Chart, State, Overruns, Error}
use Rattle.semantics.specs.Algorithm.{Sep, Old, Open, Safe, start_origin, Exploration}
use Rattle.semantics.specs.Constants.{AbstractState, Covers}
use Rattle.semantics.specs.Coverage.{system, Execution, Followed, FaultsAwaited}

-- a variable of range −9..9 that begins anywhere in it
abbrev pub any_digit : Var
any_digit = record { lo = negsuc 8; hi = pos 9; init = top }

-- an edge by the operation, from the first location to the second
abbrev pub edge_by : Op → Edge
edge_by o = record { from = 0; to = 1; op = o }

-- two such variables, and that edge
abbrev pub one_edge : Op → Chart
one_edge o = record {
  vars = any_digit ∷ any_digit ∷ [];
  locs = record { name = bytes "a"; error = false } ∷ record { name = bytes "b"; error = false } ∷ [];
  edges = edge_by o ∷ [];
}

-- an operation, the values of the two variables before it, and those after it
pub record Sample : Type 0 where
  pub op : Op
  pub x : ℤ
  pub y : ℤ
  pub x' : ℤ
  pub y' : ℤ

-- the operation takes x y to x' y'
abbrev takes : Op → ℤ → ℤ → ℤ → ℤ → Sample
takes o x y x' y' = record { op = o; x = x; y = y; x' = x'; y' = y' }

-- the operation, an `if` or `skip`, leaves x y as they are
abbrev keeps : Op → ℤ → ℤ → Sample
keeps o x y = takes o x y x y

-- the two states are a run
abbrev pub Runs : Sample → Type 0
Runs m = Execution (system (one_edge m.op)) (record { loc = 0; vals = m.x ∷ m.y ∷ [] } ∷ record { loc = 1; vals = m.x' ∷ m.y' ∷ [] } ∷ [])

-- a single claim over the list
abbrev pub AllRun : List Sample → Type 0
AllRun [] = Unit
AllRun (m ∷ ms) = Runs m × AllRun ms

-- each operation and each relation, at the ends of ranges and of p..q, with numbers and variables as operands
abbrev pub some_moves : List Sample
some_moves =
    takes (assign 0 (var 1)) (pos 1) (pos 2) (pos 2) (pos 2)
    ∷ takes (assign 1 (num (pos 9))) (negsuc 8) (pos 2) (negsuc 8) (pos 9)
    ∷ takes (add 0 (var 0) (var 1)) (pos 7) (pos 2) (pos 9) (pos 2)
    ∷ takes (sub 0 (num (pos 1)) (var 1)) (pos 9) (pos 3) (negsuc 1) (pos 3)
    ∷ takes (sub 1 (var 0) (num (pos 1))) (negsuc 7) (pos 0) (negsuc 7) (negsuc 8)
    -- `in` at p, at q, between them, and where p = q
    ∷ takes (input 0 (negsuc 1) (pos 7)) (pos 1) (pos 2) (negsuc 1) (pos 2)
    ∷ takes (input 0 (negsuc 1) (pos 7)) (pos 1) (pos 2) (pos 7) (pos 2)
    ∷ takes (input 0 (negsuc 1) (pos 7)) (pos 1) (pos 2) (pos 0) (pos 2)
    ∷ takes (input 1 (pos 4) (pos 4)) (pos 1) (pos 2) (pos 1) (pos 4)
    ∷ keeps skip (negsuc 8) (pos 9)
    ∷ keeps (assume 0 eq (var 1)) (negsuc 2) (negsuc 2)
    ∷ keeps (assume 0 ne (num (pos 3))) (negsuc 2) (pos 0)
    ∷ keeps (assume 0 lt (var 1)) (negsuc 2) (negsuc 1)
    ∷ keeps (assume 0 le (var 1)) (negsuc 2) (negsuc 1)
    ∷ keeps (assume 0 le (var 1)) (pos 2) (pos 2)
    ∷ keeps (assume 0 gt (var 1)) (pos 2) (pos 1)
    ∷ keeps (assume 0 ge (var 1)) (pos 2) (pos 1)
    ∷ keeps (assume 0 ge (var 1)) (negsuc 2) (negsuc 2)
    ∷ []

-- ---- an error state that is met

-- no variable, and one edge, a `skip`, from the first location to the second, an error location
abbrev pub into_error : Chart
into_error = record {
  vars = [];
  locs = record { name = bytes "a"; error = false } ∷ record { name = bytes "b"; error = true } ∷ [];
  edges = edge_by skip ∷ [];
}

-- a state of that chart is a location
abbrev pub at_loc : ℕ → State
at_loc l = record { loc = l; vals = [] }

-- from the first location to the second is a run, and it ends in an error state
pub record ErrorMet : Type 0 where
  pub run : Execution (system into_error) (at_loc 0 ∷ at_loc 1 ∷ [])
  pub error : Error into_error (at_loc 1)

-- ---- overruns that are met

-- at the values x y, which are a run, the operation overruns
abbrev pub RunOverruns : Op → ℤ → ℤ → Type 0
RunOverruns o x y = let s : State = record { loc = 0; vals = x ∷ y ∷ [] } in Execution (system (one_edge o)) (s ∷ []) × Overruns (one_edge o) (edge_by o) s

-- set, add and sub, one past the high end and one below the low one
pub record OverrunsMet : Type 0 where
  pub set_past : RunOverruns (assign 0 (num (pos 10))) (pos 0) (pos 0)
  pub set_below : RunOverruns (assign 1 (num (negsuc 9))) (pos 0) (pos 0)
  pub add_past : RunOverruns (add 0 (var 0) (var 1)) (pos 8) (pos 2)
  pub add_below : RunOverruns (add 0 (var 1) (num (negsuc 0))) (pos 0) (negsuc 8)
  pub sub_past : RunOverruns (sub 1 (num (pos 1)) (var 0)) (negsuc 8) (pos 0)
  pub sub_below : RunOverruns (sub 0 (var 0) (num (pos 1))) (negsuc 8) (pos 0)

-- ---- an overrun that was passed over

-- `V x 0 3 0` and two locations; the first edge, `set $0 5` in place, always overruns, the second, a `skip`, leads on
abbrev pub overrunning : Chart
overrunning = record {
  vars = record { lo = pos 0; hi = pos 3; init = known (pos 0) } ∷ [];
  locs = record { name = bytes "a"; error = false } ∷ record { name = bytes "b"; error = false } ∷ [];
  edges = record { from = 0; to = 0; op = assign 0 (num (pos 5)) } ∷ edge_by skip ∷ [];
}

-- what a round would leave that passed over the first edge: a slot for each location, of which the second alone waits, and no
-- verdict
abbrev pub passed_over : Exploration AbstractState
passed_over = record {
  settings = record { merge = Sep; stop = Sep; order = Old };
  capacity = 2;
  iterations = 1;
  reached = record { loc = 0; vals = known (pos 0) ∷ [] } ∷ record { loc = 1; vals = known (pos 0) ∷ [] } ∷ [];
  origins = start_origin ∷ record { parent = 0; edge = 2 } ∷ [];
  waitlist = 1 ∷ [];
  verdict = Open;
  edge = 0;
}

-- 2.1: "A run whose set, add or sub leaves the range counts as a run into a bad location"
pub record PassedOver : Type 0 where
  -- every state of every run is covered, and nothing is called safe
  pub followed : (ss : List State) → Execution (system overrunning) ss → Followed (Covers overrunning) passed_over.reached passed_over.waitlist ss
  pub not_safe : passed_over.verdict ≡ Safe → ⊥
  -- yet no slot that waits covers the state at which the first edge overruns, or an earlier one
  pub refused : FaultsAwaited (system overrunning) (Covers overrunning) passed_over → ⊥
