-- What chains of edges say: which edges they pass over. Assumes nothing.
use Rattle.std.specs.Prelude.{◌≡◌, List, ℕ, ◌+◌, ◌-◌, ◌≤◌, ◌<◌, ℤ, get_or}
use Rattle.semantics.specs.Encoding.{count}
use Rattle.transfer.specs.Transfer.{edge_at}

-- the location that edge g leaves, edges from 0
abbrev pub from_at : List ℤ → ℕ → ℕ
from_at c g = count c (edge_at c g)

-- none of the edges from g up to n leaves location l
abbrev pub Passed : List ℤ → ℕ → ℕ → ℕ → Type 0
Passed c l g n = (j : ℕ) → g ≤ j → j < n → from_at c j ≡ l → ⊥

-- the edges from g on are chained: from g up to the head of its chain no edge leaves location l, and from edge h to
-- the next of its chain none leaves the location that h leaves. A chain with more edges than that is one too, only
-- slower to follow
pub record Chained (c : List ℤ) (g : ℕ) (heads nexts : List ℕ) : Type 0 where
  pub head : (l : ℕ) → Passed c l g (get_or heads l 0 - 1)
  pub next : (h : ℕ) → Passed c (from_at c h) (h + 1) (get_or nexts h 0 - 1)
