-- `waitlist::wait` meets its contract.
use Rattle.semantics.proofs.Prelude.{sym, ◌∙◌, arith, length}
use Rattle.waitlist.specs.Waits.{waits}
use Rattle.waitlist.proofs.WaitWords.{queue_room}
use Rattle.waitlist.proofs.wait.Goals as goal

pub append-requires : goal.append-requires
append-requires c =
    let s = c in
    let h = sym c.contains.ensures ∙ c.if-contains.false in
    let m = queue_room (length s.args.list.now) s.args.slot.0 (waits s.args.count s.args.list.now) s.requires.queue s.requires.slot h in
    (s.requires.stored, omega (arith, s.requires.stored.count, m), omega (arith, s.requires.slot, s.requires.small))
