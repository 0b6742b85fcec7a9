-- What a scan of the slots has still to look at. Assumes nothing.
use Rattle.std.specs.Prelude.{Bool, ℕ, ◌+◌}
use Rattle.reached.specs.declared.Scan.{Scan}
use Rattle.reached.specs.Reached.{lies_from}

-- whether the row lies under a slot in use after slot s
abbrev pub lies_after : Scan → ℕ → Bool
lies_after n s = lies_from n.layout n.used n.e.now n.table.now (s + 1)
