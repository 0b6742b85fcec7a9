-- `state::tail_of` meets its contract.
use Rattle.semantics.proofs.Prelude.{◌≡◌, sym, ap, ◌∙◌, List, ℕ, ◌+◌, ◌-◌, ◌*◌, arith, ℤ, take, drop, drop-drop, length-take, length-drop}
use Rattle.words.proofs.Rows.{drop_take}
use Rattle.state.specs.Rows.{width_of, tail_of}
use Rattle.state.specs.declared.Layout.{Layout}
use Rattle.state.proofs.tail_of.Goals as goal

-- the part of the table from the end of the state to that of the slot
tail-part : (y : Layout) (t : List ℤ) (s w a : ℕ) → w ≡ width_of y → a ≡ s * y.stride → take (a + y.stride - (a + w)) (drop (a + w) t) ≡ tail_of y s t
tail-part y t s w a e p =
    let n : a + y.stride - (a + w) ≡ y.stride - w = omega arith in
    rw (n, ← e, ← p) (sym (drop_take w y.stride (drop a t) ∙ ap (take (y.stride - w)) (drop-drop w a t)))

pub returns : goal.returns
returns c =
    let a = c.args in
    record {
      tail = tail-part a.layout a.table.now a.slot.id.0 c.width.result a.slot.at c.width.ensures c.requires.0;
      long = simp (length-take, length-drop) (omega arith);
    }
