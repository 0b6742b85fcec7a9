-- The first of some byte in a text, and the lines of a text one at a time. Assumes nothing.
use Rattle.semantics.proofs.Prelude.{◌≡◌, refl, sym, ap, ◌∙◌, not, ltb-false, Bool, true, false, List, [], ◌∷◌, ℕ, suc, ◌+◌, ◌-◌, ◌≤◌, ◌<◌, zero-le, add-one, arith, eqb, length, get_or, take, drop, drop_of_length-le, length-drop, drop-cons, drop-drop, eq-eqb, ne_eqb}
use Rattle.std.specs.Prelude.{Option as Answer, Some, None, unwrap_or, cond, nat_lt}
use Rattle.std.specs.List.{position, position_or_len}
use Rattle.std.proofs.lemmas.List.Sums.{prefix_len-le-length}
use Rattle.std.proofs.lemmas.List.Recursion.{is_position_or_len}
use Rattle.semantics.specs.Lists.{pick}
use Rattle.semantics.specs.Text.{onto, lines}
use Rattle.text.specs.Fields.{up_to}
use Rattle.text.specs.Places.{line_from}

module _ (s : ℕ) (l : List ℕ) (i : ℕ) where
  pub up_to_here : i < length l → get_or l i 0 ≡ s → up_to s (drop i l) ≡ 0
  unfolding up_to
  up_to_here h e = rw (drop-cons l i 0) (simp (eq-eqb _ _ e))

  pub up_to_skip : i < length l → (get_or l i 0 ≡ s → ⊥) → up_to s (drop i l) ≡ suc (up_to s (drop (i + 1) l))
  unfolding up_to
  up_to_skip h e = rw (add-one, drop-cons l i 0) (simp (ne_eqb _ _ e))

  pub up_to_end : length l ≤ i → up_to s (drop i l) ≡ 0
  unfolding up_to
  up_to_end h = rw (drop_of_length-le l h)

-- ---- as the library finds it

up_to_step : (t : Bool) (n : ℕ) → pick t 0 (suc n) ≡ cond t 0 (1 + n)
up_to_step true n = refl
up_to_step false n = omega arith

up_to_is : (s : ℕ) (l : List ℕ) → up_to s l ≡ position_or_len (λ b. eqb b s) l
unfolding up_to
up_to_is s l = is_position_or_len (up_to s) (λ b. eqb b s) refl (λ b bs. up_to_step (eqb b s) (up_to s bs)) l

within_or_all : (n m : ℕ) (t : Bool) → nat_lt n m ≡ t → n ≤ m → unwrap_or (cond t (Some n) None) m ≡ n
within_or_all n m true q h = refl
within_or_all n m false q h = omega (arith, ltb-false n m q)

-- its place, or the length
pub up_to_found : (s : ℕ) (l : List ℕ) (r : Answer ℕ) → r ≡ position (λ b. eqb b s) l → unwrap_or r (length l) ≡ up_to s l
up_to_found s l r e =
    ap (λ (r : Answer ℕ). unwrap_or r (length l)) e
    ∙ within_or_all (position_or_len (λ b. eqb b s) l) (length l) _ refl (prefix_len-le-length (λ b. not (eqb b s)) l)
    ∙ sym (up_to_is s l)

-- ---- the line from a place on

module _ (l : List ℕ) (i : ℕ) where
  pub line_goes_on : i < length l → (get_or l i 0 ≡ 10 → ⊥) → line_from l i ≡ get_or l i 0 ∷ line_from l (i + 1)
  line_goes_on h e = rw (up_to_skip 10 l i h e, add-one, drop-cons l i 0)

up_to_le_step : (t : Bool) (u n : ℕ) → u ≤ n → pick t 0 (suc u) ≤ suc n
up_to_le_step true u n h = zero-le
up_to_le_step false u n h = omega arith

pub up_to_le : (s : ℕ) (l : List ℕ) → up_to s l ≤ length l
unfolding up_to
up_to_le s [] = zero-le
up_to_le s (b ∷ bs) = up_to_le_step (eqb b s) (up_to s bs) (length bs) (up_to_le s bs)

-- ---- lines

lines_step : (t : Bool) (b : ℕ) (bs : List ℕ) → lines bs ≡ take (up_to 10 bs) bs ∷ lines (drop (suc (up_to 10 bs)) bs)
    → pick t ([] ∷ lines bs) (onto b (lines bs)) ≡ take (pick t 0 (suc (up_to 10 bs))) (b ∷ bs) ∷ lines (drop (suc (pick t 0 (suc (up_to 10 bs)))) (b ∷ bs))
lines_step true b bs ih = refl
lines_step false b bs ih = ap (onto b) ih

lines_one : (t : Bool) (b : ℕ) → pick t ([] ∷ lines []) (onto b (lines [])) ≡ take (pick t 0 (suc (up_to 10 []))) (b ∷ []) ∷ lines (drop (suc (pick t 0 (suc (up_to 10 [])))) (b ∷ []))
unfolding lines up_to
lines_one true b = refl
lines_one false b = refl

pub lines_cons : (b : ℕ) (bs : List ℕ) → lines (b ∷ bs) ≡ take (up_to 10 (b ∷ bs)) (b ∷ bs) ∷ lines (drop (suc (up_to 10 (b ∷ bs))) (b ∷ bs))
unfolding lines up_to
lines_cons b [] = lines_one (eqb b 10) b
lines_cons b (x ∷ xs) = lines_step (eqb b 10) b (x ∷ xs) (lines_cons x xs)

lines_nonempty : (m : List ℕ) → 0 < length m → lines m ≡ take (up_to 10 m) m ∷ lines (drop (suc (up_to 10 m)) m)
lines_nonempty [] n = absurd (omega arith)
lines_nonempty (b ∷ bs) n = lines_cons b bs

-- what is left of a text from `at`: the line that ends at e, then what is left from the place after e
pub lines_at : (l : List ℕ) (at e : ℕ) → at < length l → e ≡ at + up_to 10 (drop at l) → lines (drop at l) ≡ take (e - at) (drop at l) ∷ lines (drop (e + 1) l)
lines_at l at e h q =
    let k : e - at ≡ up_to 10 (drop at l) = omega arith in
    let j : at + suc (up_to 10 (drop at l)) ≡ e + 1 = omega arith in
    cc (lines_nonempty (drop at l) (rw length-drop (omega arith)), drop-drop (suc (up_to 10 (drop at l))) at l)

-- nothing is left past the end
pub lines_done : (l : List ℕ) (at : ℕ) → length l ≤ at → lines (drop at l) ≡ []
unfolding lines
lines_done l at h = rw (drop_of_length-le l h)
