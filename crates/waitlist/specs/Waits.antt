-- The waitlist as lent words: the slot numbers, longest waiting first, then zeros. Assumes nothing.
use Rattle.std.specs.Prelude.{◌≡◌, List, ◌++◌, map, ℕ, ◌+◌, ◌-◌, ◌≤◌, ◌<◌, ℤ, pos, nat_abs, length, take, drop, replicate}
use Rattle.std.proofs.Math.Option.{some}
use Rattle.semantics.specs.declared.Order.{Order}
use Rattle.semantics.specs.declared.Order.TheVariants.{Old, New}
use Rattle.semantics.specs.Layout.{index_limit}
use Rattle.semantics.specs.Tidy.{Queue}
use Rattle.semantics.specs.Algorithm.{take_by}

-- the slots that the first n words say
abbrev pub waits : ℕ → List ℤ → List ℕ
waits n l = map nat_abs (take n l)

-- the words l, n of them in use, hold the slots wa
pub record Stored (l : List ℤ) (n : ℕ) (wa : List ℕ) : Type 0 where
  pub count : n ≡ length wa
  pub fits : n ≤ length l
  pub words : l ≡ map pos wa ++ replicate (length l - n) (pos 0)

-- the words l, n of them in use, are a waitlist with a place for slot k
pub record Admits (l : List ℤ) (n k : ℕ) : Type 0 where
  pub stored : Stored l n (waits n l)
  pub slot : k < length l
  pub small : length l < index_limit
  pub queue : Queue (length l) (waits n l)

-- where the slot stands that is next by the order, where n wait
abbrev pub next_place : Order → ℕ → ℕ
next_place Old n = 0
next_place New n = n - 1

-- the slots but for the one at place i
abbrev pub others : ℕ → List ℕ → List ℕ
others i wa = take i wa ++ drop (i + 1) wa

-- the slot k is next by the order o among the slots wa
pub record NextBy (o : Order) (wa : List ℕ) (k : ℕ) : Type 0 where
  pub rest : List ℕ
  pub taken : take_by o wa ≡ some (record { slot = k; rest = rest })

-- the slot k was taken by the order o from the slots wa, and the words l, n of them in use, hold the rest
pub record TakenFrom (o : Order) (wa : List ℕ) (k : ℕ) (l : List ℤ) (n : ℕ) : Type 0 where
  pub taken : take_by o wa ≡ some (record { slot = k; rest = waits n l })
  pub kept : Stored l n (waits n l)
