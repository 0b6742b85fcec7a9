-- The name in a location's words, byte by byte: the turns of the loops over it. Assumes nothing.
use Rattle.semantics.proofs.Prelude.{◌≡◌, refl, sym, ◌∙◌, Bool, true, false, not, List, [], ◌∷◌, ℕ, zero, suc, ◌+◌, ◌-◌, ◌*◌, ◌<◌, arith, add-one, eq-eqb, ne_eqb, eqb-true, eqb, eqb-suc-zero, ℤ, pos, negsuc, nat_abs, length, drop, drop-nil}
use Rattle.semantics.specs.Layout.{name_size, name_place}
use Rattle.semantics.specs.Lists.{pick}
use Rattle.semantics.specs.Text.{same_bytes}
use Rattle.semantics.specs.Chart.{Loc, eq_z}
use Rattle.semantics.specs.Encoding.{word_at, name_in, loc_in, count}
use Rattle.chart.specs.Encoded.{byte_of, number_from}

-- the first word left, and the words after it; past the end there is no byte more
pub name_step : (n : ℕ) (ws : List ℤ) (i : ℕ) → name_in (suc n) (drop i ws) ≡ pick (eq_z (word_at ws i) (pos 0)) [] (nat_abs (word_at ws i) ∷ (name_in n (drop (suc i) ws)))
name_step n [] i = rw (drop-nil {A = ℤ} i)
name_step n (x ∷ xs) zero = refl
name_step n (x ∷ xs) (suc i) = name_step n xs i

abs_zero : (z : ℤ) → eq_z z (pos 0) ≡ eqb (nat_abs z) 0
abs_zero (pos n) = refl
abs_zero (negsuc n) = sym (eqb-suc-zero n)

-- i bytes are passed, and one word is looked at
module _ (ws : List ℤ) (i : ℕ) (more : i < name_size) where
  left : name_size - i ≡ suc (name_size - (i + 1))
  left = omega arith

  pub name_left : name_in (name_size - i) (drop (i + name_place) ws) ≡ pick (eqb (count ws (i + name_place)) 0) [] (nat_abs (word_at ws (i + name_place)) ∷ (name_in (name_size - (i + 1)) (drop (i + 1 + name_place) ws)))
  name_left = rw (left, add-one (i + name_place), ← abs_zero (word_at ws (i + name_place))) (name_step (name_size - (i + 1)) ws (i + name_place))

  -- the name ends here
  pub name_ends : (n : ℕ) → n ≡ i + length (name_in (name_size - i) (drop (i + name_place) ws)) → eq_z (word_at ws (i + name_place)) (pos 0) ≡ true → i ≡ n
  name_ends n e t = let z : eqb (count ws (i + name_place)) 0 ≡ true = sym (abs_zero (word_at ws (i + name_place))) ∙ t in omega (arith, rw (name_left, z) at e)

  -- the same of its number, where the bytes before make n
  pub number_ends : (v n : ℕ) → v ≡ number_from n (name_in (name_size - i) (drop (i + name_place) ws)) → eq_z (word_at ws (i + name_place)) (pos 0) ≡ true → n ≡ v
  unfolding number_from
  number_ends v n e t = let z : eqb (count ws (i + name_place)) 0 ≡ true = sym (abs_zero (word_at ws (i + name_place))) ∙ t in sym (rw (name_left, z) at e)

  pub number_goes : (v n : ℕ) → v ≡ number_from n (name_in (name_size - i) (drop (i + name_place) ws)) → eq_z (word_at ws (i + name_place)) (pos 0) ≡ false
      → v ≡ number_from (2 * n + byte_of (count ws (i + name_place))) (name_in (name_size - (i + 1)) (drop (i + 1 + name_place) ws))
  unfolding number_from
  number_goes v n e t = let z : eqb (count ws (i + name_place)) 0 ≡ false = sym (abs_zero (word_at ws (i + name_place))) ∙ t in rw (name_left, z) at e

-- words of different numbers begin different names
apart : (a b : ℤ) (s t : List ℕ) → (nat_abs a ≡ nat_abs b → ⊥) → same_bytes (pick (eqb (nat_abs a) 0) [] (nat_abs a ∷ s)) (pick (eqb (nat_abs b) 0) [] (nat_abs b ∷ t)) ≡ false
apart a b s t h = go (eqb (nat_abs a) 0) (eqb (nat_abs b) 0) refl refl where
  go : (u v : Bool) → eqb (nat_abs a) 0 ≡ u → eqb (nat_abs b) 0 ≡ v → same_bytes (pick u [] (nat_abs a ∷ s)) (pick v [] (nat_abs b ∷ t)) ≡ false
  go true true p q = absurd (h (eqb-true _ _ p ∙ sym (eqb-true _ _ q)))
  go true false p q = refl
  go false true p q = refl
  go false false p q = rw (ne_eqb (nat_abs a) (nat_abs b) h)

-- two names, by the numbers x and y of the words looked at
module _ (us vs : List ℤ) (i : ℕ) (more : i < name_size) (x y : ℕ) (ex : x ≡ count us (i + name_place)) (ey : y ≡ count vs (i + name_place)) where
  abbrev now_left : Bool
  now_left = same_bytes (name_in (name_size - i) (drop (i + name_place) us)) (name_in (name_size - i) (drop (i + name_place) vs))

  pub names_part : (x ≡ y → ⊥) → now_left ≡ false
  names_part h =
      rw (name_left us i more, name_left vs i more)
      (apart (word_at us (i + name_place)) (word_at vs (i + name_place)) _ _ (λ e. h (ex ∙ e ∙ sym ey)))

  pub names_end : x ≡ y → x ≡ 0 → now_left ≡ true
  names_end h z =
      let p : eqb (count us (i + name_place)) 0 ≡ true = eq-eqb _ _ (sym ex ∙ z) in
      let q : eqb (count vs (i + name_place)) 0 ≡ true = eq-eqb _ _ (sym ey ∙ sym h ∙ z) in
      rw (name_left us i more, name_left vs i more, p, q)

  pub names_go : x ≡ y → (x ≡ 0 → ⊥) → now_left ≡ same_bytes (name_in (name_size - (i + 1)) (drop (i + 1 + name_place) us)) (name_in (name_size - (i + 1)) (drop (i + 1 + name_place) vs))
  names_go h z =
      let p : eqb (count us (i + name_place)) 0 ≡ false = ne_eqb _ _ (λ e. z (ex ∙ e)) in
      let q : eqb (count vs (i + name_place)) 0 ≡ false = ne_eqb _ _ (λ e. z (h ∙ ey ∙ e)) in
      let s : eqb (count us (i + name_place)) (count vs (i + name_place)) ≡ true = eq-eqb _ _ (sym ex ∙ h ∙ ey) in
      rw (name_left us i more, name_left vs i more, p, q, s)

-- the name is not that of the location given
abbrev pub other_name : List ℤ → Loc → Bool
other_name row m = not (same_bytes (loc_in row).name m.name)
