-- Why the edges of an iteration end as they do: a claim over the algorithm, at any domain, that no full table hides an
-- alarm of its own edge or an earlier one, and that an alarm names its edge (`visit_all_caused`). Document 01, "One
-- round", steps 1 and 4; document 02, 2.1. Assumes nothing.
use Rattle.std.specs.Prelude.{◌≡◌, ◌⊎◌, false, List, ◌∷◌, ◌++◌, ℕ, ◌≤◌, T, length}
use Rattle.semantics.specs.Lists.{In}
use Rattle.semantics.specs.Algorithm.{Domain, Out, on, alarmed, full, fault, to}

-- e is the taken state
module _ {E G : Type 0} (D : Domain E G) where
  -- the edge takes e to an error state, or is a fault
  abbrev pub Raises : G → E → Type 0
  Raises g e = (D.post g e ≡ fault) ⊎ ((f : E) × (D.post g e ≡ to f) × T (D.error f))

  -- none of the edges raises an alarm at e
  abbrev pub Quiet : E → List G → Type 0
  Quiet e gs = (g : G) → In g gs → Raises g e → ⊥

  -- the edge at which the iteration breaks off: no edge before it raises an alarm
  pub record Breaks (e : E) (gs : List G) : Type 0 where
    pub before : List G
    pub edge : G
    pub after : List G
    pub parts : gs ≡ before ++ (edge ∷ after)
    pub quiet : Quiet e before

  -- an alarm comes of the first edge that raises one, which it names; a full table is met by a successor that raises
  -- none, before any edge does, so it hides no alarm of its own edge or an earlier one; and where the iteration goes on,
  -- no edge raises one
  abbrev pub Caused : ℕ → E → List G → Out E → Type 0
  Caused r e gs (on en wa) = Quiet e gs
  Caused r e gs (alarmed n en wa) = (b : Breaks e gs) × (D.number b.edge ≡ n) × Raises b.edge e
  Caused r e gs (full en wa) = (b : Breaks e gs) × (f : E) × (D.post b.edge e ≡ to f) × (D.error f ≡ false) × (r ≤ length en)
