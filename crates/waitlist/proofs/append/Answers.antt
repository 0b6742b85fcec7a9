-- `waitlist::append` meets its contract.
use Rattle.semantics.proofs.Prelude.{sfits_of}
use Rattle.words.proofs.Words.{told}
use Rattle.waitlist.proofs.WaitWords.{put_last}
use Rattle.waitlist.proofs.append.Goals as goal

pub returns : goal.returns
returns c =
    let w = c.slot_word in
    let s = c in
    rw (told (sfits_of {z = w.result} w.type_inv) w.ensures) (put_last s.requires.0 s.args.slot.0 s.requires.1)
