-- `waitlist::put_back` meets its contract.
use Rattle.semantics.proofs.Prelude.{◌≡◌, ◌+◌, ◌<◌, ℕ, ℤ, List, arith, length}
use Rattle.semantics.specs.Layout.{index_limit}
use Rattle.semantics.specs.Algorithm.{without}
use Rattle.waitlist.specs.Waits.{waits, Stored, Admits}
use Rattle.waitlist.proofs.WaitWords.{waits_are, kept, back_room}
use Rattle.waitlist.proofs.put_back.Goals as goal

-- the slot, taken out, finds a place
ready : {l m : List ℤ} {n r k : ℕ} → Admits l n k → Stored m r (without k (waits n l)) → length m ≡ length l → Stored m r (waits r m) × (r < length m) × (k + 1 < index_limit)
ready {l = l} {n = n} {k = k} a s e =
    let b = back_room (length l) k (waits n l) a.queue a.slot in
    (kept s, omega (arith, b, s.count), omega (arith, a.slot, a.small))

pub prepend-requires : goal.prepend-requires
prepend-requires c = ready c.requires c.remove-others.ensures c.remove-others.auto.list

pub append-requires : goal.append-requires
append-requires c = ready c.requires c.remove-others.ensures c.remove-others.auto.list

pub returns-in-Old : goal.returns-in-Old
returns-in-Old c = rw (c.in-Old.is, ← waits_are c.remove-others.ensures) c.prepend.ensures

pub returns-in-New : goal.returns-in-New
returns-in-New c = rw (c.in-New.is, ← waits_are c.remove-others.ensures) c.append.ensures
