-- `waitlist::take_slot` meets its contract.
use Rattle.semantics.proofs.Prelude.{◌∙◌}
use Rattle.waitlist.proofs.WaitWords.{waits_are, kept}
use Rattle.waitlist.proofs.MovedWords.{next_said}
use Rattle.waitlist.proofs.take_slot.Goals as goal

pub returns : goal.returns
returns c =
    let a = c.args in
    rw (c.number_at.ensures.number, c.next_place-at.ensures)
    record {
      taken = next_said a.order a.list.now a.count c.requires.1 c.requires.0.fits ∙ rw (waits_are c.take_out.ensures, c.next_place-at.ensures);
      kept = kept c.take_out.ensures;
    }
