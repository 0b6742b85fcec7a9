-- `checks::waits_ok` meets its contract.
use Rattle.semantics.proofs.Prelude.{◌≡◌, refl, sym, ap, ◌∙◌, true, ◌<◌, arith, pos, nat_abs, length-set, rules, w32, of_z, to_z, to_z-of_z}
use Rattle.semantics.specs.Layout.{most_slots}
use Rattle.semantics.specs.Encoding.{word_at}
use Rattle.semantics.specs.Memory.{below}
use Rattle.checks.proofs.Marks.{fresh, none_marked, marks_turn, says_slot}
use Rattle.checks.proofs.waits_ok.Goals as goal

pub loop-x-init : goal.loop-x-init
loop-x-init c = (refl, sym (none_marked c.args.used most_slots c.args.list.now))

pub loop-x-preserved : goal.loop-x-preserved
loop-x-preserved c =
    let l = c.loop-x in
    let word = word_at c.args.list.now l.x-index in
    let read : to_z w32 (of_z w32 word) ≡ word = to_z-of_z w32 word (search rules) in
    let slot = c.magnitude-slot.result in
    let in_use : below c.args.used word ≡ true = sym (c.is_below.ensures ∙ ap (below c.args.used) read) ∙ c.if-not-is_below.false in
    let says = says_slot c.args.used word in_use in
    let slot_is : slot ≡ nat_abs word = c.magnitude-slot.ensures.number ∙ ap nat_abs read in
    let marked : slot < most_slots = omega (arith, slot_is, says.1, c.requires) in
    let new : fresh c.args.used l.marks word ≡ true = rw (in_use, ← slot_is, c.if-marks-slot.false) in
    (length-set l.marks slot _ ∙ l.invariant.0, l.invariant.1 ∙ marks_turn c.args.used l.marks c.args.list.now l.x-index c.loop-x-test.true slot (says.0 ∙ ap pos (sym slot_is)) (omega (arith, l.invariant.0, marked)) new)
