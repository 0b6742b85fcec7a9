-- Listing and path as two views of what a memory holds. Assumes nothing.
use Rattle.std.specs.Prelude.{Bool, true, not, List, [], ◌∷◌, ◌++◌, ℕ, ℤ}
use Rattle.semantics.specs.declared.View.{View}
use Rattle.semantics.specs.declared.View.TheVariants.{Listing, Path}
use Rattle.semantics.specs.declared.Verdict.{Verdict}
use Rattle.semantics.specs.Chart.{Chart}
use Rattle.semantics.specs.Memory.{Memory, is_alarm}
use Rattle.semantics.specs.Outcomes.{Outcome, Case, case, listing_cases, listing_of, path_of, listing_outcome, path_outcome}

-- there is such a text at this verdict
abbrev pub has_text : View → Verdict → Bool
has_text Listing v = true
has_text Path v = is_alarm v

-- the text
abbrev pub view_text : View → Chart → Memory → List ℕ
view_text Listing c m = listing_of c m
view_text Path c m = path_of c m

-- its cases, where form has 20, 14 and 21: those of a listing never meet 24
abbrev pub view_cases : View → List Case → Verdict → ℕ → List ℕ → List Case
view_cases view form v space_lent text = listing_cases (form ++ (case 24 (not (has_text view v)) ∷ [])) space_lent text

-- what the call does
abbrev pub view_outcome : View → List ℤ → Memory → List ℕ → Outcome
view_outcome Listing words m space = listing_outcome words m space
view_outcome Path words m space = path_outcome words m space
