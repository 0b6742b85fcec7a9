-- `waitlist::prepend` meets its contract.
use Rattle.semantics.proofs.Prelude.{sfits_of}
use Rattle.words.proofs.Words.{told}
use Rattle.waitlist.proofs.MovedWords.{put_first}
use Rattle.waitlist.proofs.prepend.Goals as goal

pub returns : goal.returns
returns c =
    let w = c.slot_word in
    rw (c.copy_within.ensures.after, told (sfits_of {z = w.result} w.type_inv) w.ensures) (put_first c.args.slot.0 c.requires.0 c.requires.1)
