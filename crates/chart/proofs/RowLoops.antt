-- Rows of k words, one after the other: the rows from a row on, and the turn of a loop over rows. A test of each row alone is
-- a test of it with all words after it. Assumes nothing.
use Rattle.std.specs.List.{zip}
use Rattle.semantics.proofs.Prelude.{◌≡◌, refl, ap, ◌∙◌, Bool, ◌&&◌, List, [], ◌∷◌, ◌++◌, map, ℕ, zero, suc, ◌+◌, ◌-◌, ◌*◌, ◌≤◌, ◌<◌, sub-zero, zero-sub, suc-sub-suc, mul-zero, mul-suc, add-one, arith, ℤ, pos, length, take, drop, length-drop, drop-drop, drop-cons, get_or}
use Rattle.semantics.specs.Lists.{all}
use Rattle.semantics.specs.Encoding.{several}
use Rattle.semantics.proofs.Bools.{and_regroup}

module _ {A : Type 0} (k : ℕ) where
  -- what f reads in a row it reads there whatever comes after
  pub rows_read : (f : List ℤ → A) → ((r : List ℤ) → k ≤ length r → f (take k r) ≡ f r) → (n : ℕ) (ws : List ℤ) → k * n ≤ length ws → map f (several (take k) k n ws) ≡ several f k n ws
  rows_read f same zero ws l = refl
  rows_read f same (suc n) ws l =
      let m : k * n + k ≤ length ws = rw (mul-suc k n) at l in
      rw (same ws (omega arith), rows_read f same n (drop k ws) (simp length-drop (omega arith)))

module _ {A : Type 0} (f : List ℤ → A) (k : ℕ) where
  -- row i is the first of those from there on
  pub rows_at : (d : A) (i n : ℕ) (ws : List ℤ) → i < n → get_or (several f k n ws) i d ≡ f (drop (k * i) ws)
  rows_at d i zero ws h = absurd (omega arith)
  rows_at d zero (suc n) ws h = rw (mul-zero k)
  rows_at d (suc i) (suc n) ws h =
      let e : k + k * i ≡ k * suc i = omega (arith, mul-suc k i) in
      rows_at d i n (drop k ws) (omega arith) ∙ rw (drop-drop (k * i) k ws, e)

  pub rows_from : (i n : ℕ) (ws : List ℤ) → drop i (several f k n ws) ≡ several f k (n - i) (drop (k * i) ws)
  rows_from zero n ws = rw (sub-zero n, mul-zero k)
  rows_from (suc i) zero ws = rw zero-sub
  rows_from (suc i) (suc n) ws =
      let e : k + k * i ≡ k * suc i = omega (arith, mul-suc k i) in
      rw suc-sub-suc (rows_from i n (drop k ws) ∙ rw (drop-drop (k * i) k ws, e))

  -- one row more
  pub rows_more : (n : ℕ) (ws : List ℤ) → several f k (suc n) ws ≡ several f k n ws ++ (f (drop (k * n) ws) ∷ [])
  rows_more zero ws = rw (mul-zero k)
  rows_more (suc n) ws =
      let e : k + k * n ≡ k * suc n = omega (arith, mul-suc k n) in
      ap (λ (l : List A). f ws ∷ l) (rows_more n (drop k ws)) ∙ rw (drop-drop (k * n) k ws, e)

-- a test of n rows of k words: ok is what the i rows passed say
abbrev pub RowsPassed : {A : Type 0} → (A → Bool) → (List ℤ → A) → ℕ → ℕ → List ℤ → Bool → ℕ → Type 0
RowsPassed p f k n ws ok i = all p (several f k n ws) ≡ ok && all p (several f k (n - i) (drop (k * i) ws))

module _ {A : Type 0} (p : A → Bool) (f : List ℤ → A) (k n : ℕ) (ws : List ℤ) where
  -- b is what row i says, and it says so whatever comes after
  pub rows_turn : ((r : List ℤ) → k ≤ length r → p (f (take k r)) ≡ p (f r)) → (ok : Bool) (i : ℕ) → k * i + k ≤ length ws → RowsPassed p f k n ws ok i → i < n → (b : Bool) → b ≡ p (f (take k (drop (k * i) ws))) → RowsPassed p f k n ws (ok && b) (i + 1)
  rows_turn same ok i l s h b e =
      let m : n - i ≡ suc (n - (i + 1)) = omega arith in
      let place : k * i + k ≡ k * (i + 1) = rw (add-one i, mul-suc k i) in
      let r : b ≡ p (f (drop (k * i) ws)) = e ∙ same (drop (k * i) ws) (simp length-drop (omega arith)) in
      s ∙ rw (m, drop-drop k (k * i) ws, place, r) (and_regroup ok (p (f (drop (k * i) ws))) (all p (several f k (n - (i + 1)) (drop (k * (i + 1)) ws))))

-- a test of as many rows of k words, each with the number that stands beside it
abbrev pub BesidePassed : (List ℤ × ℤ → Bool) → ℕ → List ℤ → List ℤ → Bool → ℕ → Type 0
BesidePassed p k ws ns ok i = all p (zip (several (take k) k (length ns) ws) ns) ≡ ok && all p (zip (several (take k) k (length ns - i) (drop (k * i) ws)) (drop i ns))

pub beside_turn : (p : List ℤ × ℤ → Bool) (k : ℕ) (ws ns : List ℤ) (ok : Bool) (i : ℕ) → BesidePassed p k ws ns ok i → i < length ns → (b : Bool) → b ≡ p (take k (drop (k * i) ws), get_or ns i (pos 0)) → BesidePassed p k ws ns (ok && b) (i + 1)
beside_turn p k ws ns ok i s h b e =
    let m : length ns - i ≡ suc (length ns - (i + 1)) = omega arith in
    let place : k * i + k ≡ k * (i + 1) = rw (add-one i, mul-suc k i) in
    let parts : drop i ns ≡ get_or ns i (pos 0) ∷ drop (i + 1) ns = rw (add-one i) (drop-cons ns i (pos 0) h) in
    s ∙ rw (m, parts, drop-drop k (k * i) ws, place, e) (and_regroup ok (p (take k (drop (k * i) ws), get_or ns i (pos 0))) (all p (zip (several (take k) k (length ns - (i + 1)) (drop (k * (i + 1)) ws)) (drop (i + 1) ns))))
