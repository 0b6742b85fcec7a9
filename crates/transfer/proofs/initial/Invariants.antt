-- `transfer::initial` meets its contract.
use Rattle.semantics.proofs.Prelude.{◌≡◌, ◌++◌, ◌+◌, ◌-◌, length, take}
use Rattle.semantics.specs.Layout.{variable_at, init_place}
use Rattle.transfer.specs.Transfer.{initial_row, initial_words}
use Rattle.transfer.proofs.initial.Given as goal

abbrev pub invariant-loop-k : goal.invariant-loop-k
invariant-loop-k l =
    (length l.out ≡ l.n + 1) × (initial_row l.chart ≡ take (l.k + 1) l.out ++ initial_words l.chart (variable_at l.k + init_place) (l.n + 1 - (l.k + 1)))
