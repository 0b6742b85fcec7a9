-- The width that a well-formed chart's words give. Assumes nothing.
use Rattle.semantics.proofs.Prelude.{List, ◌≤◌, arith, T, ℤ}
use Rattle.semantics.specs.Encoding.{decode, well_formed}
use Rattle.semantics.specs.Memory.{width}
use Rattle.semantics.proofs.Encoded.{well_formed_split}
use Rattle.semantics.proofs.StatesOk.{bounds}
use Rattle.state.specs.Rows.{most_width}

module _ (ws : List ℤ) (ok : T (well_formed ws)) where
  pub narrow : width (decode ws) ≤ most_width
  narrow = omega (arith, (bounds (decode ws) (well_formed_split ws ok).1).few_vars)
