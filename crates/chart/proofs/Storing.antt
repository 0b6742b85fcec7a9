-- What is left where a row was stored, and a name's bytes stored one by one. Assumes nothing.
use Rattle.semantics.proofs.Prelude.{◌≡◌, refl, sym, ap, ◌∙◌, List, [], ◌∷◌, ◌++◌, append_assoc, map, ℕ, suc, ◌+◌, ◌-◌, ◌≤◌, ◌<◌, arith, add-one, add_comm, sub-zero, suc-sub-suc, zero, length, get_or, take, drop, set, replicate, length-append, ℤ, pos, drop-drop}
use Rattle.words.proofs.Rows.{take_put, drop_put}
use Rattle.chart.specs.Rows.{stored}

stored_is : (at : ℕ) (row ws : List ℤ) → stored at row ws ≡ take at ws ++ (row ++ drop (length row) (drop at ws))
unfolding stored
stored_is at row ws = refl

module _ (at : ℕ) (row ws : List ℤ) (fits : at + length row ≤ length ws) where
  pub stored_take : take (at + length row) (stored at row ws) ≡ take at ws ++ row
  unfolding stored
  stored_take = take_put ws at (length row) row fits refl

  stored_drop : drop (at + length row) (stored at row ws) ≡ drop (length row) (drop at ws)
  unfolding stored
  stored_drop = drop_put ws at (length row) row fits refl

  -- the words past the row are as before
  pub stored_past : (n : ℕ) → at + length row ≤ n → drop n (stored at row ws) ≡ drop n ws
  stored_past n h =
      let m = n - (at + length row) in
      let e : n ≡ at + length row + m = omega arith in
      rw (e, ← drop-drop m (at + length row) (stored at row ws), stored_drop, drop-drop (length row) at ws, drop-drop m (at + length row) ws)

  -- two rows, one after the other, are one
  pub stored_then : (more : List ℤ) → stored (at + length row) more (stored at row ws) ≡ stored at (row ++ more) ws
  stored_then more =
      let e : take (at + length row) (stored at row ws) ++ (more ++ drop (length more) (drop (at + length row) (stored at row ws))) ≡ take at ws ++ ((row ++ more) ++ drop (length (row ++ more)) (drop at ws))
      = rw (stored_take, stored_drop, drop-drop (length more) (length row) (drop at ws), length-append row more, append_assoc row more, append_assoc (take at ws) row) in
      stored_is (at + length row) more (stored at row ws) ∙ e ∙ sym (stored_is at (row ++ more) ws)

-- one byte more is stored, over a 0
bytes_turn : (name : List ℕ) (i n : ℕ) → i < length name → i < n → set (map pos (take i name) ++ replicate (n - i) (pos 0)) i (pos (get_or name i 0)) ≡ map pos (take (suc i) name) ++ replicate (n - suc i) (pos 0)
bytes_turn [] i n h k = absurd (omega arith)
bytes_turn (b ∷ bs) i zero h k = absurd (omega arith)
bytes_turn (b ∷ bs) zero (suc n) h k = let m : suc n - 1 ≡ n = omega arith in rw (sub-zero (suc n), m)
bytes_turn (b ∷ bs) (suc i) (suc n) h k = rw (suc-sub-suc n i, suc-sub-suc n (suc i), bytes_turn bs i n (omega arith) (omega arith))

pub byte_stored : (k z : ℤ) (name : List ℕ) (i n : ℕ) → i < length name → i < n → z ≡ pos (get_or name i 0) → set (k ∷ map pos (take i name) ++ replicate (n - i) (pos 0)) (1 + i) z ≡ k ∷ map pos (take (i + 1) name) ++ replicate (n - (i + 1)) (pos 0)
byte_stored k z name i n h l e = rw (add_comm 1 i, add-one i, e) (ap (λ (l : List ℤ). k ∷ l) (bytes_turn name i n h l))
