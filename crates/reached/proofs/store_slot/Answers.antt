-- `reached::store_slot` meets its contract.
use Rattle.semantics.proofs.Prelude.{◌≡◌, sym, ap, ◌∙◌, List, ◌++◌, append_assoc, ℕ, ◌+◌, ◌-◌, ◌*◌, ◌≤◌, arith, ℤ, length, take, drop, drop-drop}
use Rattle.semantics.specs.Layout.{origin_size}
use Rattle.words.proofs.Rows.{span, take_put, drop_put}
use Rattle.state.proofs.Slots.{place_of}
use Rattle.reached.proofs.store_slot.Goals as goal

-- the words ws put at a, then p after them, up to the end of a slot of d words
module _ (t ws : List ℤ) (a w d : ℕ) (len : length ws ≡ w) (fits : a + d ≤ length t) (tailed : d ≡ w + origin_size) where
  abbrev once : List ℤ
  once = take a t ++ (ws ++ drop (a + w - a) (drop a t))

  inside : a + w ≤ length t
  inside = omega arith

  left : a + d - (a + w) ≡ origin_size
  left = omega arith

  abbrev twice : List ℤ → List ℤ
  twice p = take (a + w) once ++ (p ++ drop (a + d - (a + w)) (drop (a + w) once))

  twice_is : (p : List ℤ) → twice p ≡ take a t ++ ((ws ++ p) ++ drop d (drop a t))
  twice_is p =
      let past : drop origin_size (drop w (drop a t)) ≡ drop d (drop a t) = drop-drop origin_size w (drop a t) ∙ ap (λ (n : ℕ). drop n (drop a t)) (sym tailed) in
      rw (left, span a w, take_put t a w ws inside len, drop_put t a w ws inside len, past)
      (append_assoc (take a t) ws (p ++ drop d (drop a t)) ∙ ap (λ (x : List ℤ). take a t ++ x) (sym (append_assoc ws p (drop d (drop a t)))))

pub returns : goal.returns
returns c =
    let a = c.args in
    let o = c.set_origin in
    let at = c.slot-from.result.at in
    let place : at ≡ a.slot.0 * a.layout.stride = place_of a.layout c.slot-from.result c.slot-from.ensures.placed a.slot.0 c.slot-from.ensures.id in
    twice_is a.table.now c.copy_from_slice.new.self at (length a.e.now) a.layout.stride (ap length c.copy_from_slice.ensures.after) (omega (arith, place, c.requires.0)) c.requires.1 o.new.tail
    ∙ (λ i. take (place i) a.table.now ++ ((c.copy_from_slice.ensures.after i ++ o.ensures i) ++ drop a.layout.stride (drop (place i) a.table.now)))
