-- An analysis in form, over any domain: only proofs and the contracts of inner functions use it, no claim needs it
-- believed. What 21 asks is said by `form_tests` (Memory). Assumes nothing.
use Rattle.std.specs.Prelude.{◌≡◌, List, [], ◌∷◌, ℕ, ◌≤◌, ◌<◌, T, length}
use Rattle.semantics.specs.Lists.{In}
use Rattle.semantics.specs.Algorithm.{Settings, allowed, Exploration, Safe, Alarm}

-- settings that 12 lets pass
abbrev pub Allowed : Settings → Type 0
Allowed s = T (allowed s.merge s.stop)

-- no number stands twice in the list
abbrev pub Distinct : List ℕ → Type 0
Distinct [] = Unit
Distinct (x ∷ xs) = (In x xs → ⊥) × Distinct xs

-- the waitlist: slots below n, each once
pub record Queue (n : ℕ) (w : List ℕ) : Type 0 where
  pub once : Distinct w
  pub used : (j : ℕ) → In j w → j < n

-- the property holds of each of the list
abbrev pub Every : {A : Type 0} → (A → Type 0) → List A → Type 0
Every P [] = Unit
Every P (x ∷ xs) = P x × Every P xs

-- the part of form rule 21 that an analysis keeps over any domain: P of every abstract state, no edge above the last
pub record Tidy {E : Type 0} (P : E → Type 0) (last : ℕ) (w : Exploration E) : Type 0 where
  pub within : length w.reached ≤ w.capacity
  pub queue : Queue (length w.reached) w.waitlist
  pub safe_empty : w.verdict ≡ Safe → w.waitlist ≡ []
  pub empty_safe : w.waitlist ≡ [] → w.verdict ≡ Safe
  pub no_edge : (w.verdict ≡ Alarm → ⊥) → w.edge ≡ 0
  pub edge_in : w.edge ≤ last
  pub every : Every P w.reached
