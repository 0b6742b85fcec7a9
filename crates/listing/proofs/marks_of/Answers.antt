-- `listing::marks_of` meets its contract. The invariant: setting the marks of the slots left gives those of the whole list.
use Rattle.semantics.proofs.Prelude.{◌≡◌, sym, ap, ◌∙◌, Bool, true, List, map, ◌+◌, ℤ, nat_abs, rules, drop, set, drop_of_length-le}
use Rattle.semantics.specs.Encoding.{count}
use Rattle.listing.specs.Pieces.{marked}
use Rattle.listing.proofs.TextPieces.{marks_turn}
use Rattle.listing.proofs.marks_of.Goals as goal

pub loop-w-preserved : goal.loop-w-preserved
loop-w-preserved c =
    let l = c.loop-w in
    let list = c.args.list.now in
    let e : set l.marks (count list l.w-index) true ≡ c.set_mark.new.marks = search rules in
    l.invariant ∙ marks_turn l.marks list l.w-index c.loop-w-test.true ∙ ap (λ (ms : List Bool). marked ms (map nat_abs (drop (l.w-index + 1) list))) e

pub returns : goal.returns
unfolding marked
returns c = sym (c.loop-w.invariant ∙ ap (λ (l : List ℤ). marked c.loop-w.marks (map nat_abs l)) (drop_of_length-le c.args.list.now c.loop-w-test.false))
