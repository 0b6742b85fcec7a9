-- What a path says of the chart: it begins at slot 0 and leads along the chart's edges, the alarm's at their end, to what
-- raised the alarm. Document 02, 2.2: "the slot and edge that first brought it". Assumes nothing.
use Rattle.std.specs.Prelude.{◌≡◌, ◌⊎◌, List, [], ◌∷◌, ℕ, ◌<◌, T, length, get_or}
use Rattle.std.proofs.Math.Option.{some}
use Rattle.semantics.specs.Lists.{In, get}
use Rattle.semantics.specs.Chart.{Chart, Numbered, numbered, error_location}
use Rattle.semantics.specs.Constants.{AbstractState, leq, constants}
use Rattle.semantics.specs.Algorithm.{Alarm, Origin, Exploration, Taken, take_by}
use Rattle.semantics.specs.Verdicts.{Raises}
use Rattle.semantics.specs.Memory.{locations, joins}
use Rattle.semantics.specs.Path.{parent_of, edge_of, way_to, path_slots}

-- ls are the locations of slots, os their origins: from slot s on, each slot of the list has a higher number than the one
-- before it and was brought by that one, along an edge of the chart from its location to its own; the last is slot z
abbrev pub SlotWay : Chart → List ℕ → List Origin → ℕ → List ℕ → ℕ → Type 0
SlotWay c ls os s [] z = s ≡ z
SlotWay c ls os s (k ∷ ks) z = (s < k) × (k < length ls) × (parent_of os k ≡ s) × T (joins c (edge_of os k) (get_or ls s 0) (get_or ls k 0)) × SlotWay c ls os k ks z

module _ (c : Chart) (w : Exploration AbstractState) where
  -- the location of slot s
  abbrev pub slot_location : ℕ → ℕ
  slot_location s = get_or (locations w.reached) s 0

  -- the way to slot s begins at slot 0, which stands at the start location, and leads to s
  pub record WayTo (s : ℕ) : Type 0 where
    pub others : List ℕ
    pub way : way_to w.origins s s ≡ 0 ∷ others
    pub at_start : slot_location 0 ≡ 0
    pub leads : SlotWay c (locations w.reached) w.origins 0 others s

  -- "A bad start": slot 0, and no edge
  pub record AtStart (s : ℕ) : Type 0 where
    pub slot : s ≡ 0
    pub edge : w.edge ≡ 0
    pub bad : T (error_location c.locs 0)

  -- the alarm edge leaves the location of slot s; and of a state that lies under what the slot holds, as its copy does in
  -- the round, it makes an error location, or a fault
  pub record ByEdge (s : ℕ) : Type 0 where
    pub edge : Numbered
    pub listed : In edge (numbered c)
    pub number : edge.no ≡ w.edge
    pub leaves : edge.edge.from ≡ slot_location s
    pub held : AbstractState
    pub holds : get w.reached s ≡ some held
    pub copy : AbstractState
    pub under : T (leq copy held)
    pub raises : Raises (constants c) edge copy

  -- the path ends at the slot at the place taken next, and that is the one whose edges raised the alarm
  pub record Raised : Type 0 where
    pub taken : Taken
    pub used : taken.slot < length w.reached
    pub next : take_by w.settings.order w.waitlist ≡ some taken
    pub path : path_slots w ≡ way_to w.origins taken.slot taken.slot
    pub cause : AtStart taken.slot ⊎ ByEdge taken.slot

  -- following parents from any slot ends at slot 0, along the chart's edges; and an alarm has its edge at the end of
  -- such a way
  pub record PathHolds : Type 0 where
    pub ways : (s : ℕ) → s < length w.reached → WayTo s
    pub alarm : w.verdict ≡ Alarm → Raised
