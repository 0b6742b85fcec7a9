-- The turns of the loops over the slots. Assumes nothing.
use Rattle.semantics.proofs.Prelude.{◌≡◌, ap, ◌∙◌, Bool, true, false, List, ℕ, suc, ◌+◌, ◌-◌, ◌*◌, ◌<◌, arith, ℤ, drop}
use Rattle.semantics.specs.Lists.{pick, some_of}
use Rattle.semantics.specs.Algorithm.{wait}
use Rattle.semantics.specs.Tidy.{Queue}
use Rattle.semantics.proofs.Tidy.{wait_queue}
use Rattle.state.specs.declared.Layout.{Layout}
use Rattle.state.specs.Rows.{row_of, row_leq, rows_of}
use Rattle.state.proofs.Slots.{drop_slot}
use Rattle.reached.specs.Reached.{lies_from}

-- the state of slot s is tested, and the slots after it are left
covered_turn : (e t : List ℤ) (y : Layout) (s k : ℕ) (b : Bool) → row_leq e (row_of y s t) ≡ b
    → some_of (row_leq e) (rows_of y (suc k) (drop (s * y.stride) t)) ≡ elim b [ true ↦ true | false ↦ some_of (row_leq e) (rows_of y k (drop ((s + 1) * y.stride) t)) ]
covered_turn e t y s k b h = let d = drop_slot y s t in λ i. elim (h i) [ true ↦ true | false ↦ some_of (row_leq e) (rows_of y k (d i)) ]

-- the same of slots from s on, of n
pub slot_tested : (y : Layout) (n : ℕ) (e t : List ℤ) (s : ℕ) (b : Bool) → s < n → row_leq e (row_of y s t) ≡ b → lies_from y n e t s ≡ elim b [ true ↦ true | false ↦ lies_from y n e t (s + 1) ]
slot_tested y n e t s b h q =
    let left : n - s ≡ suc (n - (s + 1)) = omega arith in
    ap (λ (k : ℕ). some_of (row_leq e) (rows_of y k (drop (s * y.stride) t))) left ∙ covered_turn e t y s (n - (s + 1)) b q

pub unless_queue : (b : Bool) (n k : ℕ) (wa : List ℕ) → k < n → Queue n wa → Queue n (pick b wa (wait k wa))
unless_queue true n k wa l q = q
unless_queue false n k wa l q = wait_queue n k wa l q
