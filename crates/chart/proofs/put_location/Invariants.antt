-- `chart::put_location` meets its contract. The invariant: the row holds the kind, so many bytes, and 0 after them.
use Rattle.semantics.proofs.Prelude.{◌≡◌, ◌∷◌, ◌++◌, map, ◌-◌, take, replicate, pos}
use Rattle.semantics.specs.Layout.{name_size}
use Rattle.semantics.specs.Encoding.{kind_word}
use Rattle.chart.proofs.put_location.Given as goal

abbrev pub invariant-loop-i : goal.invariant-loop-i
invariant-loop-i l = l.row ≡ kind_word l.error ∷ map pos (take l.i l.name) ++ replicate (name_size - l.i) (pos 0)
