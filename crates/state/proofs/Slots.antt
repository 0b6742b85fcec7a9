-- Loops over the slots of a table: id and place go together; what a state put into its slot leaves of the rest.
-- Assumes nothing.
use Rattle.semantics.proofs.Prelude.{◌≡◌, sym, ap, ◌∙◌, Bool, true, false, List, ◌++◌, append_assoc, ℕ, suc, ◌+◌, ◌-◌, ◌*◌, ◌≤◌, ◌<◌, ltb, ltb-true, ltb-false, suc-mul, add-one, arith, ℤ, length, take, drop, length-append, length-drop, drop-drop, take-append-drop, drop-append-le}
use Rattle.words.proofs.Rows.{part_length, row_in, take_put, drop_put}
use Rattle.state.specs.Rows.{width_of, Placed, row_merge, slot_merge, rows_merge}
use Rattle.state.specs.declared.Layout.{Layout}
use Rattle.state.specs.declared.SlotRow.{SlotRow}

-- a loop over n slots is at one of them: it and its state are in their table, and it is the first of those left
pub record InUse (y : Layout) (n : ℕ) (s : SlotRow) (t : List ℤ) : Type 0 where
  pub placed : Placed y s
  pub below : s.id.0 < n
  pub slot : s.at + y.stride ≤ length t
  pub row : s.at + width_of y ≤ length t
  pub left : n - s.id.0 ≡ suc (n - (s.id.0 + 1))

-- the loop has asked whether its slot is below n
pub none_left : (n i : ℕ) {b : Bool} → b ≡ ltb i n → b ≡ false → n - i ≡ 0
none_left n i e h = let u : n ≤ i = ltb-false _ _ (sym e ∙ h) in omega arith

pub in_use : (y : Layout) (n : ℕ) (s : SlotRow) (t : List ℤ) → Placed y s → {b : Bool} → b ≡ ltb s.id.0 n → b ≡ true → width_of y ≤ y.stride → n * y.stride ≤ length t → InUse y n s t
in_use y n s t p e h w f = record { placed = p; below = u; slot = i; row = omega (arith, i); left = omega (arith, u) }
  where
    u : s.id.0 < n
    u = ltb-true _ _ (sym e ∙ h)

    i : s.at + y.stride ≤ length t
    i = omega (arith, row_in s.id.0 n y.stride u, p)

-- the place of the next slot
pub place_after : (y : Layout) (s r : SlotRow) → Placed y s → r.id.0 ≡ s.id.0 + 1 → Placed y r → r.at ≡ s.at + y.stride
place_after y s r p e q = rw (q, e, add-one, suc-mul, ← p)

-- the place of a slot by its id
pub place_of : (y : Layout) (s : SlotRow) → Placed y s → (n : ℕ) → s.id.0 ≡ n → s.at ≡ n * y.stride
place_of y s p n e = rw (p, e)

-- past slot s, the next one
pub drop_slot : (y : Layout) (s : ℕ) (t : List ℤ) → drop y.stride (drop (s * y.stride) t) ≡ drop ((s + 1) * y.stride) t
drop_slot y s t = rw (add-one, suc-mul) (drop-drop y.stride (s * y.stride) t)

-- w words put at the beginning of a slot of d words: the slot as a whole is put there
module _ (t : List ℤ) (a w d : ℕ) (ws : List ℤ) (fits : a + d ≤ length t) (apart : w ≤ d) (len : length ws ≡ w) where
  abbrev pub slot : List ℤ
  slot = ws ++ drop w (take d (drop a t))

  pub slot_length : length slot ≡ d
  slot_length = simp (length-append, length-drop) (omega (arith, part_length t a d fits))

  pub put_slot : take a t ++ (ws ++ drop w (drop a t)) ≡ take a t ++ (slot ++ drop d (drop a t))
  put_slot =
      let between : drop w (drop a t) ≡ drop w (take d (drop a t)) ++ drop d (drop a t) =
      ap (drop w) (sym (take-append-drop d (drop a t))) ∙ drop-append-le w (take d (drop a t)) (drop d (drop a t)) (omega (arith, part_length t a d fits)) in
      rw (between, append_assoc)

-- the state of the slot at a is merged
module _ (e t : List ℤ) (y : Layout) (a k : ℕ) (ws : List ℤ) (fits : a + y.stride ≤ length t) (apart : width_of y ≤ y.stride) (len : length ws ≡ width_of y)
    (is_merged : ws ≡ row_merge e (take (width_of y) (drop a t))) where
  abbrev merged : List ℤ
  merged = take a t ++ (ws ++ drop (width_of y) (drop a t))

  pub merge_turn : take a t ++ rows_merge e y (suc k) (drop a t) ≡ take (a + y.stride) merged ++ rows_merge e y k (drop (a + y.stride) merged)
  merge_turn =
      let l = slot_length t a (width_of y) y.stride ws fits apart len in
      let whole = slot t a (width_of y) y.stride ws fits apart len in
      rw (put_slot t a (width_of y) y.stride ws fits apart len, take_put t a y.stride whole fits l, drop_put t a y.stride whole fits l, is_merged) (sym (append_assoc (take a t) (slot_merge e y (drop a t)) (rows_merge e y k (drop y.stride (drop a t)))))
