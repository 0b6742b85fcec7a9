-- The reached table and the waitlist together, as lent words: which slots wait again after a merge, and the form that
-- both keep. Assumes nothing.
use Rattle.std.specs.Prelude.{◌≡◌, Bool, List, [], ◌∷◌, map, ℕ, suc, ◌+◌, ◌-◌, ◌*◌, ◌≤◌, ◌<◌, ℤ, pos, length, drop, replicate}
use Rattle.semantics.specs.Layout.{index_limit, origin_size}
use Rattle.semantics.specs.Lists.{pick, some_of}
use Rattle.semantics.specs.Algorithm.{wait}
use Rattle.semantics.specs.Tidy.{Queue}
use Rattle.semantics.specs.Memory.{tail}
use Rattle.state.specs.declared.Layout.{Layout}
use Rattle.state.specs.Rows.{width_of, same_words, row_leq, rows_of, row_merge, tails_of, origins_of}
use Rattle.waitlist.specs.Waits.{waits, Stored}

-- whether e lies under one of the first n slots, of these from slot s on
abbrev pub lies_from : Layout → ℕ → List ℤ → List ℤ → ℕ → Bool
lies_from y n e t s = some_of (row_leq e) (rows_of y (n - s) (drop (s * y.stride) t))

-- the slots wait again that the merge with e changes; i is the first slot's number
abbrev pub rewaits : List ℤ → ℕ → List (List ℤ) → List ℕ → List ℕ
rewaits e i [] wa = wa
rewaits e i (x ∷ xs) wa = rewaits e (suc i) xs (pick (same_words (row_merge e x) x) wa (wait i wa))

-- table and waitlist in form: as many slots as the list has words, each a state and an origin in its words, and zeros in
-- those words of both that are not in use
pub record Kept (y : Layout) (t l : List ℤ) (used waiting : ℕ) : Type 0 where
  pub wide : 0 < width_of y
  pub tailed : y.stride ≡ width_of y + origin_size
  pub capacity : used ≤ length l
  pub small : length l < index_limit
  pub table : length t ≡ length l * y.stride
  pub rest : drop (used * y.stride) t ≡ replicate (length t - used * y.stride) (pos 0)
  pub origins : tails_of y used t ≡ map tail (origins_of y used t)
  pub slots : Stored l waiting (waits waiting l)
  pub queue : Queue used (waits waiting l)
