-- `waitlist::next_slot` meets its contract.
use Rattle.semantics.proofs.Prelude.{◌≡◌, arith, map, nat_abs, length, take, take_all}
use Rattle.waitlist.specs.Waits.{next_place, others}
use Rattle.waitlist.proofs.MovedWords.{next_said}
use Rattle.waitlist.proofs.next_slot.Goals as goal

pub returns : goal.returns
returns c =
    let l = c.args.list.now in
    let all : take (length l) l ≡ l = take_all (length l) l (omega arith) in
    rw (c.number_at.ensures.number, c.next_place.ensures) (record { rest = others (next_place c.args.order (length l)) (map nat_abs l); taken = rw all at (next_said c.args.order l (length l) c.requires (omega arith)) })
