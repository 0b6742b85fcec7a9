-- Rows of a table: parts of it, and what a row put at a place changes. Assumes nothing.
use Rattle.semantics.proofs.Prelude.{◌≡◌, sym, subst, List, [], ◌∷◌, ◌++◌, append_assoc, ℕ, zero, suc, ◌+◌, ◌-◌, ◌*◌, ◌≤◌, ◌<◌, suc-mul, mul-le-mul_right, sub-zero, zero-sub, suc-sub-suc, arith, ℤ, pos, length, take, drop, length-take, length-drop, length-append, replicate, take_at, drop_at, drop-nil, take-nil, take_all, length-take-le}

pub drop_take : (b a : ℕ) (l : List ℤ) → drop b (take a l) ≡ take (a - b) (drop b l)
drop_take zero a l = rw sub-zero
drop_take (suc b) zero l = rw (zero-sub, drop-nil)
drop_take (suc b) (suc a) [] = sym (take-nil (suc a - suc b))
drop_take (suc b) (suc a) (x ∷ l) = rw suc-sub-suc (drop_take b a l)

pub drop_zeros : (k n : ℕ) → drop k (replicate n (pos 0)) ≡ replicate (n - k) (pos 0)
drop_zeros zero n = rw sub-zero
drop_zeros (suc k) zero = rw zero-sub
drop_zeros (suc k) (suc n) = rw suc-sub-suc (drop_zeros k n)

-- the part of slot s: `&t[a..a + w]` has w words, where a is s * w
pub span : (a w : ℕ) → a + w - a ≡ w
span a w = omega arith

pub part_length : (t : List ℤ) (a w : ℕ) → a + w ≤ length t → length (take w (drop a t)) ≡ w
part_length t a w h = simp (length-take, length-drop) (omega arith)

-- the one law on products: slot s, of w words, ends where slot n begins, or before
pub row_in : (s n w : ℕ) → s < n → s * w + w ≤ n * w
row_in s n w h = subst (λ (k : ℕ). k ≤ n * w) (suc-mul s w) (mul-le-mul_right w h)

-- a row of w words put at a. The laws speak of places and not of slots
module _ (t : List ℤ) (a w : ℕ) (ws : List ℤ) (fits : a + w ≤ length t) (len : length ws ≡ w) where
  abbrev put : List ℤ
  put = take a t ++ (ws ++ drop w (drop a t))

  front : length (take a t) ≡ a
  front = length-take-le a t (omega arith)

  pub take_put : take (a + w) put ≡ take a t ++ ws
  take_put = rw (← append_assoc) (take_at (take a t ++ ws) (drop w (drop a t)) (a + w) (simp length-append (omega (arith, front))))

  pub drop_put : drop (a + w) put ≡ drop w (drop a t)
  drop_put = rw (← append_assoc) (drop_at (take a t ++ ws) (drop w (drop a t)) (a + w) (simp length-append (omega (arith, front))))

  pub put_here : take w (drop a put) ≡ ws
  put_here = rw (drop_at (take a t) (ws ++ drop w (drop a t)) a front, take_at ws (drop w (drop a t)) w len)

  pub length_put : length put ≡ length t
  length_put = simp (length-append, length-drop, length-take) (omega arith)

-- the part of a slice from a place on: `&l[j..]`
pub tail : {A : Type 0} (l : List A) (j : ℕ) → take (length l - j) (drop j l) ≡ drop j l
tail l j = take_all (length l - j) (drop j l) (simp length-drop (omega arith))
