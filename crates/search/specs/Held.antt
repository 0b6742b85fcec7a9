-- That a run is held in words is so, or is not, in one way alone: a value may keep the fact. Assumes nothing.
use mathlib.Core.Sum.{⊎_set}
use Rattle.std.specs.Prelude.{List, [], ◌∷◌, ℤ, Option as Perhaps, Some, None}
use Rattle.std.specs.Coded.{Unit-prop}
use Rattle.std.proofs.Math.Option.{Option, none, some}
use Rattle.std.proofs.Props.{props}
use Rattle.semantics.specs.Chart.{Var, Chart, State, Ranged}
use Rattle.semantics.specs.Search.{Trail, here, overrun, by, ErrorRun, Choice}
use Rattle.descent.specs.declared.Run.{Run}
use Rattle.descent.specs.Rows.{Concrete}
use Rattle.descent.specs.Trails.{Within, Holds}

ranged_prop : (vs : List Var) (xs : List ℤ) → IsProp (Ranged vs xs)
ranged_prop [] [] = Unit-prop
ranged_prop [] (x ∷ xs) = hlevel
ranged_prop (v ∷ vs) [] = hlevel
ranged_prop (v ∷ vs) (x ∷ xs) = hlevel (props, ranged_prop vs xs)

concrete_prop : (c : Chart) (e : List ℤ) → IsProp (Concrete c e)
concrete_prop c e = hlevel (props, ranged_prop)

within_prop : (c : Chart) (t : Trail Choice State) → IsProp (Within c t)
within_prop c here = Unit-prop
within_prop c (overrun a) = Unit-prop
within_prop c (by a s t) = hlevel (concrete_prop, within_prop c t)

pub holds_prop : (c : Chart) (o : Option (ErrorRun Choice State)) (start path : List ℤ) (r : Perhaps Run) → IsProp (Holds c o start path r)
holds_prop c none start path None = Unit-prop
holds_prop c none start path (Some run) = hlevel
holds_prop c (some q) start path None = hlevel
holds_prop c (some q) start path (Some run) = hlevel (props, ⊎_set, concrete_prop, within_prop)
