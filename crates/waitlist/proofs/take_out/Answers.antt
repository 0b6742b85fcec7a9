-- `waitlist::take_out` meets its contract.
use Rattle.waitlist.proofs.MovedWords.{put_others}
use Rattle.waitlist.proofs.take_out.Goals as goal

pub returns : goal.returns
returns c = rw c.copy_within.ensures.after (put_others c.requires.0 c.requires.1)
