-- `checks::InUse::origins_ok` meets its contract. The invariant: the origins of the slots in use pass exactly when those
-- from the loop's slot on do.
use Rattle.semantics.proofs.Prelude.{◌≡◌, Bool, List, ℕ, ◌-◌, ◌*◌, ℤ, drop}
use Rattle.semantics.specs.Encoding.{decode}
use Rattle.semantics.specs.Memory.{states_in, origins_in, locations, origins_ok}
use Rattle.checks.proofs.InUse.origins_ok.Given as goal

-- the origins of slot s and of n - 1 after it, whose words these are, in a table of so many slots in use
abbrev pass : List ℤ → ℕ → List ℤ → ℕ → ℕ → List ℤ → Bool
pass chart used table s n rest = origins_ok (decode chart) (locations (states_in (decode chart) used table)) s (origins_in (decode chart) n rest)

abbrev pub invariant-loop-id : goal.invariant-loop-id
invariant-loop-id l =
    let s = l.self in
    pass s.chart.now s.used s.table.now 0 s.used s.table.now ≡ pass s.chart.now s.used s.table.now l.id (s.used - l.id) (drop (l.id * s.layout.stride) s.table.now)
