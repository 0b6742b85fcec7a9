-- `listing::marks_of` meets its contract. The invariant: setting the marks of the slots left gives those of the whole list.
use Rattle.semantics.proofs.Prelude.{◌≡◌, map, nat_abs, drop}
use Rattle.listing.specs.Pieces.{marked}
use Rattle.listing.proofs.marks_of.Given as goal

abbrev pub invariant-loop-w : goal.invariant-loop-w
invariant-loop-w l = marked l.initial.marks (map nat_abs l.list) ≡ marked l.marks (map nat_abs (drop l.w-index l.list))
