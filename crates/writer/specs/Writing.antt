-- Bytes written over other bytes, as far as those go. Assumes nothing.
use Rattle.std.specs.Prelude.{◌≡◌, List, [], ◌∷◌, ℕ, zero, suc, ◌+◌, ◌<◌, min, length}

-- the bytes over the front of what is there
unfoldable pub overwritten : List ℕ → List ℕ → List ℕ
overwritten [] out = out
overwritten (b ∷ bs) [] = []
overwritten (b ∷ bs) (o ∷ os) = b ∷ overwritten bs os

-- the bytes over what is there, from a place on
unfoldable pub written : ℕ → List ℕ → List ℕ → List ℕ
written zero bs out = overwritten bs out
written (suc at) bs [] = []
written (suc at) bs (o ∷ os) = o ∷ written at bs os

-- 2 ^ 63: a slice is shorter
abbrev pub limit : ℕ
limit = 9223372036854775808

-- bs was written at `at`, and r is the place after it; places from the limit on are not told apart
pub record Put (at : ℕ) (bs out out' : List ℕ) (r : ℕ) : Type 0 where
  pub bytes : out' ≡ written at bs out
  pub place : min r limit ≡ min (at + length bs) limit
  pub small : length out < limit
