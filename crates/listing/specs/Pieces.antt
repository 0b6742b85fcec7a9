-- The pieces of a listing as the code writes them: each field of a line with the tab before it. Assumes nothing.
use Rattle.std.specs.Prelude.{Bool, true, List, [], ◌∷◌, map, ℕ, ℤ, set}
use Rattle.semantics.specs.Lists.{each}
use Rattle.semantics.specs.Encoding.{val}
use Rattle.semantics.specs.Listing.{val_text}

-- a field that is not a line's first
abbrev pub tabbed : List ℕ → List ℕ
tabbed f = 9 ∷ f

-- the values in the words of a row
unfoldable pub values_text : List ℤ → List ℕ
values_text vs = each tabbed (map val_text (map val vs))

-- the marks, after those of the slots in a list were set
unfoldable pub marked : List Bool → List ℕ → List Bool
marked ms [] = ms
marked ms (k ∷ ks) = marked (set ms k true) ks
