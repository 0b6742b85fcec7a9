-- The decimal digits of a number: those of its tenth, and its last; or those of its hundredth, and two. Assumes nothing.
use Rattle.semantics.proofs.Prelude.{◌≡◌, refl, sym, ap, subst, ◌∙◌, Bool, true, false, List, [], ◌∷◌, ◌++◌, append_assoc, ℕ, zero, suc, ◌/◌, ◌≤◌, ◌<◌, arith, T, ltb, ℤ, pos, negsuc, nat_abs, lt_z, lt-ltb, le-ltb, ltb-true}
use Rattle.semantics.specs.Lists.{pick}
use Rattle.semantics.specs.Text.{digits_of, decimal, decimal_z}
use Rattle.semantics.proofs.Numbers.{last, digits_enough}
use Rattle.writer.specs.declared.Writer.{Writer}
use Rattle.writer.specs.Writers.{Writes}
use Rattle.writer.proofs.Written.{writes_then, writes_same}

-- what stands behind stays behind
digits_front : (f n : ℕ) (bs : List ℕ) → digits_of f n bs ≡ digits_of f n [] ++ bs
unfolding digits_of
digits_front zero n bs = refl
digits_front (suc f) n bs = go (ltb n 10) (digits_front f (n / 10) (last n ∷ bs)) (digits_front f (n / 10) (last n ∷ []))
  where
    go : (t : Bool) → digits_of f (n / 10) (last n ∷ bs) ≡ digits_of f (n / 10) [] ++ (last n ∷ bs)
        → digits_of f (n / 10) (last n ∷ []) ≡ digits_of f (n / 10) [] ++ (last n ∷ []) → pick t (last n ∷ bs) (digits_of f (n / 10) (last n ∷ bs)) ≡ pick t (last n ∷ []) (digits_of f (n / 10) (last n ∷ [])) ++ bs
    go true p q = refl
    go false p q = p ∙ rw q (sym (append_assoc (digits_of f (n / 10) []) (last n ∷ []) bs))

pub decimal_one : (n : ℕ) → n < 10 → decimal n ≡ last n ∷ []
unfolding digits_of
decimal_one zero h = refl
decimal_one (suc n) h = rw (lt-ltb (suc n) 10 h)

pub decimal_more : (n : ℕ) → 10 ≤ n → decimal n ≡ decimal (n / 10) ++ (last n ∷ [])
unfolding digits_of
decimal_more zero h = absurd (omega arith)
decimal_more (suc n) h =
    rw (le-ltb (suc n) 10 h) (digits_front n (suc n / 10) (last (suc n) ∷ []))
    ∙ ap (λ (l : List ℕ). l ++ (last (suc n) ∷ [])) (digits_enough n (suc n / 10) (suc n / 10) [] (omega arith) (omega arith))

-- two digits at a time
pub decimal_two : (n : ℕ) → 10 ≤ n → n < 100 → decimal n ≡ last (n / 10) ∷ last n ∷ []
decimal_two n h l = decimal_more n h ∙ rw (decimal_one (n / 10) (omega arith))

decimal_pair : (n : ℕ) → 100 ≤ n → decimal n ≡ decimal (n / 100) ++ (last (n / 10) ∷ last n ∷ [])
decimal_pair n h =
    let e : n / 10 / 10 ≡ n / 100 = omega arith in
    decimal_more n (omega arith) ∙ rw (decimal_more (n / 10) (omega arith), e) (append_assoc (decimal (n / 100)) (last (n / 10) ∷ []) (last n ∷ []))

pub writes_pair : {a b d : Writer} (n m : ℕ) → 100 ≤ n → m ≡ n / 100 → Writes (decimal m) a b → Writes (last (n / 10) ∷ last n ∷ []) b d → Writes (decimal n) a d
writes_pair n m h e p q = writes_same (sym (decimal_pair n h)) (writes_then (writes_same (ap decimal e) p) q)

-- ---- a number with its sign
pub decimal_z_below : (z : ℤ) → lt_z z (pos 0) ≡ true → decimal_z z ≡ 45 ∷ decimal (nat_abs z)
decimal_z_below (pos n) e = absurd (omega (arith, ltb-true n 0 e))
decimal_z_below (negsuc n) e = refl

pub decimal_z_else : (z : ℤ) → lt_z z (pos 0) ≡ false → decimal_z z ≡ decimal (nat_abs z)
decimal_z_else (pos n) e = refl
decimal_z_else (negsuc n) e = absurd (subst T e tt)
