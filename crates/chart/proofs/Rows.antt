-- The words begin with the encoding of what they decode to: row by row, each row with the words after it.
-- Assumes nothing.
use Rattle.semantics.proofs.Prelude.{◌≡◌, refl, sym, ap, ◌∙◌, Bool, true, false, ◌&&◌, List, [], ◌∷◌, ◌++◌, append_assoc, ℕ, zero, suc, ◌+◌, ◌*◌, ◌≤◌, mul-zero, mul-suc, arith, T, ℤ, length, drop, length-drop, length-append, drop-drop}
use Rattle.semantics.specs.Lists.{all, each}
use Rattle.semantics.specs.Chart.{eq_z}
use Rattle.semantics.specs.Encoding.{several, past, begins_with}
use Rattle.semantics.proofs.Bools.{and_left, and_right, and_regroup, both_true}
use Rattle.chart.specs.Encoded.{rows}

pub iff : (a b : Bool) → (T a → T b) → (T b → T a) → a ≡ b
iff true true f g = refl
iff true false f g = absurd (f tt)
iff false true f g = absurd (g tt)
iff false false f g = refl

pub interchange : (a b c d : Bool) → (a && b) && (c && d) ≡ (a && c) && (b && d)
interchange a b c d = iff _ _ (λ h. search (and_left, and_right, both_true)) (λ h. search (and_left, and_right, both_true))

pub begins_append : (xs ys ws : List ℤ) → begins_with (xs ++ ys) ws ≡ begins_with xs ws && begins_with ys (drop (length xs) ws)
begins_append [] ys ws = refl
begins_append (x ∷ xs) ys [] = refl
begins_append (x ∷ xs) ys (w ∷ ws) = ap (λ (b : Bool). eq_z x w && b) (begins_append xs ys ws) ∙ and_regroup (eq_z x w) (begins_with xs ws) (begins_with ys (drop (length xs) ws))

pub all_and : {A : Type 0} (p q : A → Bool) (xs : List A) → all p xs && all q xs ≡ all (λ x. p x && q x) xs
all_and p q [] = refl
all_and p q (x ∷ xs) = interchange (p x) (all p xs) (q x) (all q xs) ∙ ap (λ (b : Bool). (p x && q x) && b) (all_and p q xs)

-- n rows of k words are n * k words
pub past_drop : (k n : ℕ) (ws : List ℤ) → past k n ws ≡ drop (k * n) ws
past_drop k zero ws = rw (mul-zero k)
past_drop k (suc n) ws =
    let e : k + k * n ≡ k * suc n = rw (mul-suc k n) (omega arith) in
    past_drop k n (drop k ws) ∙ drop-drop (k * n) k ws ∙ ap (λ (m : ℕ). drop m ws) e

-- tests that agree at each row of k words
pub rows_same : (p q : List ℤ → Bool) (k : ℕ) → ((r : List ℤ) → k ≤ length r → p r ≡ q r) → (n : ℕ) (ws : List ℤ) → k * n ≤ length ws → all p (rows k n ws) ≡ all q (rows k n ws)
rows_same p q k h zero ws l = refl
rows_same p q k h (suc n) ws l =
    let m : k * n + k ≤ length ws = rw (mul-suc k n) at l in
    rw (h ws (omega arith), rows_same p q k h n (drop k ws) (simp length-drop (omega arith)))

module _ {A : Type 0} (g : List ℤ → A) (k : ℕ) where
  -- a test of each thing is a test of each row
  pub all_rows : (p : A → Bool) (n : ℕ) (ws : List ℤ) → all p (several g k n ws) ≡ all (λ r. p (g r)) (rows k n ws)
  all_rows p zero ws = refl
  all_rows p (suc n) ws = ap (λ (b : Bool). p (g ws) && b) (all_rows p n (drop k ws))

  module _ (f : A → List ℤ) (wide : (ws : List ℤ) → length (f (g ws)) ≡ k) where
    pub begins_rows : (n : ℕ) (more ws : List ℤ) → begins_with (each f (several g k n ws) ++ more) ws ≡ all (λ r. begins_with (f (g r)) r) (rows k n ws) && begins_with more (past k n ws)
    begins_rows zero more ws = refl
    begins_rows (suc n) more ws =
        ap (λ (l : List ℤ). begins_with l ws) (append_assoc (f (g ws)) (each f (several g k n (drop k ws))) more)
        ∙ begins_append (f (g ws)) (each f (several g k n (drop k ws)) ++ more) ws
        ∙ ap (λ (m : ℕ). begins_with (f (g ws)) ws && begins_with (each f (several g k n (drop k ws)) ++ more) (drop m ws)) (wide ws)
        ∙ ap (λ (b : Bool). begins_with (f (g ws)) ws && b) (begins_rows n more (drop k ws))
        ∙ and_regroup (begins_with (f (g ws)) ws) (all (λ r. begins_with (f (g r)) r) (rows k n (drop k ws))) (begins_with more (past k n (drop k ws)))

    -- so many words are there
    pub several_length_of : (n : ℕ) (ws : List ℤ) → length (each f (several g k n ws)) ≡ k * n
    several_length_of zero ws = sym (mul-zero k)
    several_length_of (suc n) ws = simp (length-append, wide, mul-suc) (omega (arith, several_length_of n (drop k ws)))
