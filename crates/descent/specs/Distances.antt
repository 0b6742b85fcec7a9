-- A lower bound on the moves that are still needed, by location alone: "the least number of edges to a bad location or to an
-- edge that could overrun by its operands' declared spans". Assumes nothing.
use Rattle.std.specs.Prelude.{◌≡◌, List, map, ℕ, suc, ◌≤◌, T, ℤ, get_or}
use Rattle.std.specs.Coded.{Unit-prop, le_prop}
use Rattle.std.proofs.Math.Nat.{ℕ_set}
use Rattle.semantics.specs.Lists.{In}
use Rattle.semantics.specs.Chart.{top, Edge, Chart, Numbered, numbered, error_location}
use Rattle.semantics.specs.Algorithm.{Step, blocked, fault, to}
use Rattle.semantics.specs.Constants.{AbstractState, post}
use Rattle.semantics.specs.Encoding.{decode}
use Rattle.transfer.specs.declared.Move.{Move}
use Rattle.transfer.specs.declared.Move.TheVariants.{Blocked, Fault, Successor}

-- all states of a location: nothing is known but the declared ranges
abbrev pub anywhere : Chart → ℕ → AbstractState
anywhere c l = record { loc = l; vals = map (λ v. top) c.vars }

-- what an edge asks of distances, by its abstract move from anywhere at its location: nothing where it never passes; where it
-- could overrun, at most 1; else at most one more than where it leads
abbrev pub Near : (ℕ → ℕ) → Edge → Step AbstractState → Type 0
Near d g blocked = Unit
Near d g fault = d g.from ≤ 1
Near d g (to f) = d g.from ≤ suc (d g.to)

-- distances that no run undercuts
pub record Distances (c : Chart) (d : ℕ → ℕ) : Type 0 where
  pub at_error : (l : ℕ) → T (error_location c.locs l) → d l ≡ 0
  pub at_edge : (g : Numbered) → In g (numbered c) → Near d g.edge (post c g.edge (anywhere c g.edge.from))

-- a bound for an edge holds or does not, in one way alone; so do all of them
near_prop : (d : ℕ → ℕ) (g : Edge) (z : Step AbstractState) → IsProp (Near d g z)
near_prop d g blocked = Unit-prop
near_prop d g fault = le_prop
near_prop d g (to f) = le_prop

pub distances_prop : (c : Chart) (d : ℕ → ℕ) → IsProp (Distances c d)
distances_prop c d = hlevel (ℕ_set, near_prop)

-- the distance of a location in a table; 0 past its end
abbrev pub distance_in : List ℕ → ℕ → ℕ
distance_in ds l = get_or ds l 0

-- ---- for contracts of inner functions

-- the edge's abstract move from anywhere at its location
abbrev pub from_anywhere : Chart → Edge → Step AbstractState
from_anywhere c g = post c g (anywhere c g.from)

-- what the transfer answers for a step
abbrev pub move_of : Step AbstractState → Move
move_of blocked = Blocked
move_of fault = Fault
move_of (to f) = Successor

-- what an edge of the encoded chart asks of a table of distances
abbrev pub NearBy : List ℤ → List ℕ → Edge → Type 0
NearBy ws ds g = Near (distance_in ds) g (from_anywhere (decode ws) g)

-- the kinds of its locations ask nothing more of the table
abbrev pub KindsAllow : List ℤ → List ℕ → Type 0
KindsAllow ws ds = (l : ℕ) → T (error_location (decode ws).locs l) → distance_in ds l ≡ 0

-- and its edges ask nothing more
abbrev pub EdgesAllow : List ℤ → List ℕ → Type 0
EdgesAllow ws ds = (g : Numbered) → In g (numbered (decode ws)) → NearBy ws ds g.edge
