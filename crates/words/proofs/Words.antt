-- Signed words: the machine's tests and casts, which go by bits, told of the whole numbers themselves. Assumes nothing.
use Rattle.semantics.proofs.Prelude.{◌≡◌, refl, sym, ap, subst, ◌∙◌, Bool, true, false, cond, ℕ, zero, suc, ◌+◌, ◌≤◌, arith, lt_of_le_of_lt, zero-add, eqb, ltb, T, ℤ, pos, negsuc, nat_abs, neg_ℤ, ◌+ℤ◌, ◌-ℤ◌, non_neg, mag, le_z, lt_z, Width, w32, w64, SFits, of_z, to_z, to_z-of_z, sfits_widen, sfits_lit, eq-eqb, ne_eqb, le-leb, leb-true, ltb-true}
use Rattle.semantics.specs.Chart.{eq_z}
use Rattle.semantics.proofs.Bools.{from_true, to_true}
use Rattle.semantics.proofs.Integers.{eq_z_same, eq_z_refl}

-- the test for a sign
pub from_zero : (z : ℤ) → le_z (pos 0) z ≡ non_neg z
from_zero (pos n) = le-leb 0 n (omega arith)
from_zero (negsuc n) = refl

pub eq_z_true : (a b : ℤ) → eq_z a b ≡ true → a ≡ b
eq_z_true a b e = eq_z_same a b (from_true e)

pub eq_z_self : (a : ℤ) → eq_z a a ≡ true
eq_z_self a = to_true (eq_z a a) (eq_z_refl a)

pub eq_eq_z : {a b : ℤ} → a ≡ b → eq_z a b ≡ true
eq_eq_z {a} {b} e = subst (λ (z : ℤ). eq_z a z ≡ true) e (eq_z_self a)

pub ne_eq_z : {a b : ℤ} → (a ≡ b → ⊥) → eq_z a b ≡ false
ne_eq_z {a} {b} h = by_case (eq_z a b) refl where
  by_case : (t : Bool) → eq_z a b ≡ t → eq_z a b ≡ false
  by_case true e = absurd (h (eq_z_true a b e))
  by_case false e = e

module _ (w : Width) {a b : ℤ} (fa : SFits w a) (fb : SFits w b) where
  pub of_z_inj : of_z w a ≡ of_z w b → a ≡ b
  of_z_inj e = sym (to_z-of_z w a fa) ∙ ap (to_z w) e ∙ to_z-of_z w b fb

  -- `a == b` at two signed numbers passed, and failed
  pub bits_eq : of_z w a ≡ of_z w b → eq_z a b ≡ true
  bits_eq e = eq_eq_z (of_z_inj e)

  pub bits_ne : (of_z w a ≡ of_z w b → ⊥) → eq_z a b ≡ false
  bits_ne h = ne_eq_z {a = a} {b = b} (λ e. h (ap (of_z w) e))

  -- its flag
  pub bits_eqb : eqb (of_z w a) (of_z w b) ≡ eq_z a b
  bits_eqb = by_case (eq_z a b) refl where
    by_case : (t : Bool) → eq_z a b ≡ t → eqb (of_z w a) (of_z w b) ≡ eq_z a b
    by_case true e = eq-eqb _ _ (ap (of_z w) (eq_z_true a b e)) ∙ sym e
    by_case false e = ne_eqb _ _ (λ q. absurd (subst T (sym (bits_eq q) ∙ e) tt)) ∙ sym e

-- ---- sums

cond_mag : (t : Bool) (x y : ℤ) (n : ℕ) → mag x ≤ n → mag y ≤ n → mag (cond t x y) ≤ n
cond_mag true x y n h k = h
cond_mag false x y n h k = k

pub mag_add : (a b : ℤ) → mag (a +ℤ b) ≤ mag a + mag b + 1
mag_add (pos a) (pos b) = omega arith
mag_add (pos a) (negsuc b) = cond_mag (ltb a (suc b)) _ _ _ (omega arith) (omega arith)
mag_add (negsuc a) (pos b) = cond_mag (ltb b (suc a)) _ _ _ (omega arith) (omega arith)
mag_add (negsuc a) (negsuc b) = omega arith

pub mag_neg : (a : ℤ) → mag (neg_ℤ a) ≤ mag a + 1
mag_neg (pos zero) = omega arith
mag_neg (pos (suc n)) = omega arith
mag_neg (negsuc n) = omega arith

-- the sum and the difference of two 32 bit words fit 64 bits
module _ {a b : ℤ} (fa : SFits w32 a) (fb : SFits w32 b) where
  pub sum_fits : SFits w64 (a +ℤ b)
  sum_fits = record { sfits = omega (arith, mag_add a b, fa.sfits, fb.sfits) }

  pub diff_fits : SFits w64 (a -ℤ b)
  diff_fits = record { sfits = omega (arith, mag_add a (neg_ℤ b), mag_neg b, fa.sfits, fb.sfits) }

-- a number between two that fit fits
pub between_fits : {w : Width} {lo hi : ℤ} (z : ℤ) → SFits w lo → SFits w hi → le_z lo z ≡ true → le_z z hi ≡ true → SFits w z
between_fits {hi = pos m} (pos n) f g l h = record { sfits = lt_of_le_of_lt (leb-true n m h) g.sfits }
between_fits {hi = negsuc m} (pos n) f g l h = absurd (subst T (sym h) tt)
between_fits {lo = pos m} (negsuc n) f g l h = absurd (subst T (sym l) tt)
between_fits {lo = negsuc m} (negsuc n) f g l h = record { sfits = lt_of_le_of_lt (leb-true n m l) f.sfits }

-- what is below 0, taken from 0
pub below_zero : (z : ℤ) → lt_z z (pos 0) ≡ true → pos 0 -ℤ z ≡ pos (nat_abs z)
below_zero (pos n) e = absurd (omega (arith, ltb-true n 0 e))
below_zero (negsuc n) e = rw (zero-add (suc n))

module _ {z : ℤ} (fits : SFits w32 z) (neg : lt_z z (pos 0) ≡ true) where
  pub below_fits : SFits w64 (pos 0 -ℤ to_z w64 (of_z w64 z))
  below_fits = rw (to_z-of_z w64 z (sfits_widen tt fits)) (diff_fits {a = pos 0} (sfits_lit tt) fits)

  pub below_is : to_z w64 (of_z w64 (pos 0 -ℤ to_z w64 (of_z w64 z))) ≡ pos (nat_abs z)
  below_is = to_z-of_z w64 _ below_fits ∙ ap (λ (y : ℤ). pos 0 -ℤ y) (to_z-of_z w64 z (sfits_widen tt fits)) ∙ below_zero z neg

-- a word that `wide` made wider
pub wide_told : {r z : ℤ} → SFits w64 r → SFits w32 z → r ≡ to_z w32 (of_z w32 z) → to_z w64 (of_z w64 r) ≡ z
wide_told {r} {z} f g e = to_z-of_z w64 r f ∙ e ∙ to_z-of_z w32 z g

module _ {z x : ℤ} (fits : SFits w32 z) (same : z ≡ x) where
  -- a word that a call answered, and its test
  pub told : to_z w32 (of_z w32 z) ≡ x
  told = to_z-of_z w32 z fits ∙ same

  pub told_eqb : {n : ℤ} → SFits w32 n → eqb (of_z w32 z) (of_z w32 n) ≡ eq_z x n
  told_eqb {n} f = bits_eqb w32 {a = z} {b = n} fits f ∙ ap (λ (y : ℤ). eq_z y n) same
