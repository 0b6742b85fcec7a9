-- The path that brought an analysis to its alarm: its slots, and its text. Document 02, 2.2. Assumes nothing.
use Rattle.std.specs.Prelude.{List, [], ◌∷◌, ◌++◌, ℕ, zero, suc, eqb}
use Rattle.semantics.specs.Lists.{pick, some_of, get, map_or, each}
use Rattle.semantics.specs.Text.{bytes, decimal, line_of}
use Rattle.semantics.specs.Chart.{Chart}
use Rattle.semantics.specs.Constants.{AbstractState}
use Rattle.semantics.specs.Algorithm.{Mode, Origin, Exploration, take_by}
use Rattle.semantics.specs.Listing.{mode_text, slot_text}

-- "the slot ... that first brought it"; that there is no slot s is no case of a path
abbrev pub parent_of : List Origin → ℕ → ℕ
parent_of os s = map_or (get os s) 0 (λ o. o.parent)

-- "the edge that brought it"
abbrev pub edge_of : List Origin → ℕ → ℕ
edge_of os s = map_or (get os s) 0 (λ o. o.edge)

-- "from slot 0 to" slot s: s after the way to its parent, n parents at most. In form a parent is below its slot, so that s
-- of them end at slot 0 (`way_ends`)
abbrev pub way_to : List Origin → ℕ → ℕ → List ℕ
way_to os zero s = s ∷ []
way_to os (suc n) s = pick (eqb s 0) (s ∷ []) (way_to os n (parent_of os s) ++ (s ∷ []))

-- the slots of the path, "from slot 0 to the taken slot": the one at the place taken next, to which an alarm has moved
-- it back
abbrev pub path_slots : Exploration AbstractState → List ℕ
path_slots w = map_or (take_by w.settings.order w.waitlist) [] (λ t. way_to w.origins t.slot t.slot)

-- "a header `path`, merge, alarm edge"
abbrev pub path_header : Mode → ℕ → List ℕ
path_header merge edge = line_of (bytes "path") (mode_text merge ∷ decimal edge ∷ [])

-- "a line each: the edge that brought it, then its slot line"
abbrev pub path_line : Chart → Exploration AbstractState → ℕ → List ℕ
path_line c w s = decimal (edge_of w.origins s) ++ (9 ∷ map_or (get w.reached s) [] (λ e. slot_text c s e (some_of (eqb s) w.waitlist)))

-- the header, then the lines
unfoldable pub path_text : Chart → Exploration AbstractState → List ℕ
path_text c w = path_header w.settings.merge w.edge ++ each (path_line c w) (path_slots w)
