-- The refusals of a search in two parts: those before it, and 15 of what it found. Assumes nothing.
use Rattle.std.specs.Prelude.{not, List, [], ◌∷◌, ℕ, ltb, ℤ, length}
use Rattle.semantics.specs.Encoding.{decode, well_formed}
use Rattle.semantics.specs.RunListing.{moves_ok, too_wide}
use Rattle.semantics.specs.Outcomes.{Case, case, refusal, SearchOutcome, searched}

-- 30, 20 and 31
abbrev pub early_cases : ℤ → List ℤ → List Case
early_cases k words = case 30 (not (moves_ok k)) ∷ case 20 (not (well_formed words)) ∷ case 31 (too_wide (decode words)) ∷ []

-- 15, of a text into so many bytes
abbrev pub late_cases : ℕ → List ℕ → List Case
late_cases space_lent text = case 15 (ltb space_lent (length text)) ∷ []

-- what is left where none of the first refuses
abbrev pub shown : List ℕ → List ℕ → SearchOutcome
shown text space = searched (refusal (late_cases (length space) text)) text space
