-- `waitlist::contains` meets its contract.
use Rattle.semantics.proofs.Prelude.{ap, ◌∙◌, pos, sfits_of}
use Rattle.semantics.specs.Chart.{eq_z}
use Rattle.semantics.specs.Lists.{some_of}
use Rattle.words.proofs.Words.{told}
use Rattle.waitlist.specs.Waits.{waits}
use Rattle.waitlist.proofs.WaitWords.{front, any_some}
use Rattle.waitlist.proofs.contains.Goals as goal

pub returns : goal.returns
returns c =
    let w = c.slot_word in
    let a = c.args in
    c.contains.ensures ∙ rw (told (sfits_of {z = w.result} w.type_inv) w.ensures) (ap (some_of (eq_z (pos a.slot.0))) (front c.requires.0) ∙ any_some a.slot.0 (waits a.count a.list.now))
