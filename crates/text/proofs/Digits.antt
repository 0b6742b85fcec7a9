-- Numbers, digit by digit, and what stays the same where a number is cut. Assumes nothing.
use Rattle.semantics.proofs.Prelude.{◌≡◌, refl, sym, ap, ◌∙◌, Bool, true, false, ◌&&◌, ◌⊎◌, inl, inr, ⊎_elim, List, [], ◌∷◌, Option, some, none, ℕ, zero, suc, ◌+◌, ◌-◌, ◌*◌, ◌≤◌, ◌<◌, min, add-one, arith, length, get_or, take, drop, drop_of_length-le, drop-cons, ℤ, pos, negsuc, nat_abs, eqb, and-true, lt-leb, le-ltb, ltb, dec_lt, ◌^◌, leb, leb-true}
use Rattle.semantics.specs.Layout.{least_number, most_number, byte_limit}
use Rattle.semantics.specs.Lists.{pick, all}
use Rattle.semantics.specs.Text.{between, digits, natural_of, nonnegative, number_of}
use Rattle.semantics.specs.Chart.{small}
use Rattle.semantics.specs.Reading.{fail, ok, check, small_or, below_or}
use Rattle.semantics.proofs.Bools.{from_false, left_true, right_true}
use Rattle.std.specs.Prelude.{Some}
use Rattle.std.specs.Bool.{then_some}
use Rattle.std.specs.Str.{bytes_eq}
use Rattle.text.specs.Fields.{number_cut, clamp, natural_read, number_read, number_said}

pub lt_or_ge : (a b : ℕ) → (a < b) ⊎ (b ≤ a)
lt_or_ge a b = go (dec_lt a b)
  where
    go : Dec (a < b) → (a < b) ⊎ (b ≤ a)
    go (yes h) = inl h
    go (no h) = inr (omega arith)

-- ---- along the digits, at place i
module _ (l : List ℕ) (n i : ℕ) where
  pub digits_end : length l ≤ i → digits n (drop i l) ≡ some n
  unfolding digits
  digits_end h = rw (drop_of_length-le l h)

  pub digits_step : i < length l → between 48 57 (get_or l i 0) ≡ true → digits n (drop i l) ≡ digits (n * 10 + (get_or l i 0 - 48)) (drop (i + 1) l)
  unfolding digits
  digits_step h t = rw (add-one, drop-cons l i 0) (simp t)

  pub digits_other : i < length l → between 48 57 (get_or l i 0) ≡ false → digits n (drop i l) ≡ none
  unfolding digits
  digits_other h t = rw (drop-cons l i 0) (simp t)

-- numbers that are the same once cut lead to the same answer
pub capped_same : (l : List ℕ) (n m : ℕ) → min n number_cut ≡ min m number_cut → natural_read (digits n l) ≡ natural_read (digits m l)
unfolding digits natural_read
capped_same [] n m h = ap Some h
capped_same (b ∷ bs) n m h = go (between 48 57 b) (capped_same bs (n * 10 + (b - 48)) (m * 10 + (b - 48)) (omega arith))
  where
    go : (t : Bool) → natural_read (digits (n * 10 + (b - 48)) bs) ≡ natural_read (digits (m * 10 + (b - 48)) bs)
        → natural_read (pick t (digits (n * 10 + (b - 48)) bs) none) ≡ natural_read (pick t (digits (m * 10 + (b - 48)) bs) none)
    go true ih = ih
    go false ih = refl

-- ---- digits that are only looked at

pub digits_none : (n : ℕ) (l : List ℕ) → all (between 48 57) l ≡ false → digits n l ≡ none
unfolding digits
digits_none n [] e = absurd (from_false e tt)
digits_none n (b ∷ bs) e = go (between 48 57 b) e (digits_none (n * 10 + (b - 48)) bs)
  where
    go : (t : Bool) → t && all (between 48 57) bs ≡ false → (all (between 48 57) bs ≡ false → digits (n * 10 + (b - 48)) bs ≡ none) → pick t (digits (n * 10 + (b - 48)) bs) none ≡ none
    go true e ih = ih e
    go false e ih = refl

-- k digits more reach the cut
reach : (k i n : ℕ) (l : List ℕ) → k + i ≡ 5 → k ≤ length l → 10 ^ i ≤ n → all (between 48 57) l ≡ true → natural_read (digits n l) ≡ Some number_cut
unfolding digits natural_read
reach zero i n [] s f h e =
    let z : i ≡ 5 = omega arith in
    let c : number_cut ≤ n = rw z at h in
    ap Some (omega arith)
reach (suc k) i n [] s f h e = absurd (omega arith)
reach zero i n (b ∷ bs) s f h e =
    rw (left_true (between 48 57 b) (all (between 48 57) bs) e)
    (reach zero i (n * 10 + (b - 48)) bs s (omega arith) (omega arith) (right_true (between 48 57 b) (all (between 48 57) bs) e))
reach (suc k) i n (b ∷ bs) s f h e =
    rw (left_true (between 48 57 b) (all (between 48 57) bs) e)
    (reach k (suc i) (n * 10 + (b - 48)) bs (omega arith) (omega arith) (omega arith) (right_true (between 48 57 b) (all (between 48 57) bs) e))

pub digits_reach : (l : List ℕ) → (get_or l 0 0 ≡ 48 → ⊥) → 6 ≤ length l → all (between 48 57) l ≡ true → natural_read (digits 0 l) ≡ Some number_cut
unfolding digits
digits_reach [] w h e = absurd (omega arith)
digits_reach (b ∷ bs) w h e =
    let t = left_true (between 48 57 b) (all (between 48 57) bs) e in
    let low : 48 ≤ b = leb-true 48 b (left_true (leb 48 b) (leb b 57) t) in
    rw t (reach 5 0 (0 * 10 + (b - 48)) bs refl (omega arith) (omega (arith, low, w)) (right_true (between 48 57 b) (all (between 48 57) bs) e))

-- digits that do not begin with 0, by their test where there are many
pub digits_many : (l : List ℕ) → (get_or l 0 0 ≡ 48 → ⊥) → 6 ≤ length l → (t : Bool) → t ≡ all (between 48 57) l → then_some t number_cut ≡ natural_read (digits 0 l)
unfolding natural_read
digits_many l w h true e = sym (digits_reach l w h (sym e))
digits_many l w h false e = sym (ap natural_read (digits_none 0 l (sym e)))

-- ---- a number, by its first byte

-- as the library looks for the `-`
pub number_plain : (l : List ℕ) → bytes_eq (take 1 l) (45 ∷ []) ≡ false → number_of l ≡ nonnegative (natural_of l)
unfolding number_of natural_of
number_plain [] e = refl
number_plain (b ∷ bs) e = let t : eqb b 45 ≡ false = sym (and-true (eqb b 45)) ∙ e in rw t

-- ---- the tests of a field cannot tell a cut number from the number

-- a number that is cut, by a test or answer f that is the same for all from a bound on, which the cut keeps
pub by_size : {A : Type 0} (cut bound : ℕ) → bound ≤ cut → (f : ℕ → A) (a : A) → ((m : ℕ) → bound ≤ m → f m ≡ a) → (n : ℕ) → f (min n cut) ≡ f n
by_size cut bound h f a past n =
    ⊎_elim
    (λ k. let e : min n cut ≡ n = omega arith in ap f e)
    (λ k. past (min n cut) (omega arith) ∙ sym (past n k))
    (lt_or_ge n bound)

small_cut : (z : ℤ) → check (small (clamp z)) 7 (ok (clamp z)) ≡ check (small z) 7 (ok z)
unfolding check
small_cut (pos n) = by_size number_cut (suc (nat_abs most_number)) (omega arith) (λ k. check (small (pos k)) 7 (ok (pos k))) (fail 7) (λ m h. simp (lt-leb m (nat_abs most_number) (omega arith))) n
small_cut (negsuc n) = by_size (number_cut - 1) (nat_abs least_number) (omega arith) (λ k. check (small (negsuc k)) 7 (ok (negsuc k))) (fail 7) (λ m h. simp (lt-leb m (nat_abs least_number - 1) (omega arith))) n

pub small_or_cut : (o : Option ℤ) → small_or (number_said (number_read o)) ≡ small_or o
unfolding number_said number_read
small_or_cut none = refl
small_or_cut (some z) = small_cut z

pub below_or_cut : (count : ℕ) (o : Option ℤ) → count ≤ byte_limit → below_or count (number_said (number_read o)) ≡ below_or count o
unfolding number_said number_read check
below_or_cut count none h = refl
below_or_cut count (some (negsuc n)) h = refl
below_or_cut count (some (pos n)) h = by_size number_cut byte_limit (omega arith) (λ k. check (ltb k count) 10 (ok k)) (fail 10) (λ m k. simp (le-ltb m count (omega arith))) n

-- for `grind`: what is read of a number that was cut
pub ruleset cut_numbers = (small_or_cut, below_or_cut)
