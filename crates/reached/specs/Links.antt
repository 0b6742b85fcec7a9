-- What links between slots say: which slots they pass over. Assumes nothing.
use Rattle.std.specs.Prelude.{◌≡◌, List, map, ℕ, ◌+◌, ◌*◌, ◌≤◌, ◌<◌, ltb, ℤ, length, get_or}
use Rattle.semantics.specs.Layout.{index_limit, most_locations}
use Rattle.semantics.specs.Lists.{pick}
use Rattle.state.specs.declared.Layout.{Layout}
use Rattle.state.specs.Rows.{location_in, rows_of}

-- the chain of a location. One that no chart has shares chain 0: its slots are then looked at with those of location 0
abbrev pub chain_of : ℕ → ℕ
chain_of l = pick (ltb l most_locations) l 0

-- the chain of each of the first n slots
abbrev pub chain_in : List ℤ → ℕ
chain_in e = chain_of (location_in e)

abbrev pub chains_of : Layout → ℕ → List ℤ → List ℕ
chains_of y n t = map chain_in (rows_of y n t)

-- where the links stand: each chain's first slot, each chain's last slot, then the slot that follows each slot in its chain
abbrev pub last_place : ℕ → ℕ
last_place b = most_locations + b

abbrev pub next_place : ℕ → ℕ
next_place s = 2 * most_locations + s

abbrev pub first_slot : List ℕ → ℕ → ℕ
first_slot k b = get_or k b 0

abbrev pub last_slot : List ℕ → ℕ → ℕ
last_slot k b = get_or k (last_place b) 0

abbrev pub next_slot : List ℕ → ℕ → ℕ
next_slot k s = get_or k (next_place s) 0

-- none of the slots from s up to m is on chain b
abbrev pub Passed : List ℕ → ℕ → ℕ → ℕ → Type 0
Passed cs b s m = (j : ℕ) → s ≤ j → j < m → j < length cs → get_or cs j 0 ≡ b → ⊥

-- the slots whose chains are cs are linked: up to the first slot of a chain none is on it, and from a slot to the next of
-- its chain none is. A chain that has a slot ends at one of its own, and no later one is on it. Links to more slots than
-- that are good too, only slower to follow
pub record Linked (cs k : List ℕ) : Type 0 where
  pub size : 2 * most_locations ≤ length k
  pub first : (b : ℕ) → b < most_locations → Passed cs b 0 (first_slot k b)
  pub next : (s : ℕ) → s < length cs → Passed cs (get_or cs s 0) (s + 1) (next_slot k s)
  pub last : (b s : ℕ) → b < most_locations → s < length cs → get_or cs s 0 ≡ b → (s ≤ last_slot k b) × (last_slot k b < length cs)
  pub own : (b : ℕ) → b < most_locations → last_slot k b < index_limit → (last_slot k b < length cs) × (get_or cs (last_slot k b) 0 ≡ b)
