-- What reading and writing come to. Assumes nothing.
use Rattle.std.specs.Prelude.{◌≡◌, ℕ, zero, suc, ◌≤◌, ◌<◌, Result, Ok, Err}
use Rattle.streams.specs.declared.StreamEnd.{StreamEnd}

-- why a loop over size bytes stopped, by its count and the last call's answer: it failed or moved nothing while some
-- were left, or moved the last of them. Where there are none no call is made, and 0 is reported
abbrev pub Stops : {E : Type 0} → ℕ → ℕ → Result ℕ E → Type 0
Stops size count (Ok zero) = count ≡ size → size ≡ 0
Stops size count (Ok (suc n)) = (count ≡ size) × (suc n ≤ count)
Stops size count (Err _) = count < size

-- a loop over size bytes stops within them, and no earlier than the calls say: a call that moved fewer bytes than
-- asked is no end. A contract speaks of entry and exit alone: that the answer is the last call's cannot be said
pub record Stopped (size : ℕ) (t : StreamEnd) : Type 0 where
  pub within : t.count ≤ size
  pub ends : Stops size t.count t.last
