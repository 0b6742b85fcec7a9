-- Lent numbers: what stands at a place, past the end 0; and what stays the same from number to number. Assumes nothing.
use Rattle.semantics.proofs.Prelude.{◌≡◌, ap, sym, ◌∙◌, List, [], ◌∷◌, ℕ, zero, suc, ◌+◌, ◌-◌, ◌≤◌, ◌<◌, arith, get_or, set, replicate}

pub replicate_most : (n i a : ℕ) → get_or (replicate n a) i 0 ≤ a
replicate_most zero i a = omega arith
replicate_most (suc n) zero a = omega arith
replicate_most (suc n) (suc i) a = replicate_most n i a

pub set_most : (s : List ℕ) (i a : ℕ) → get_or (set s i a) i 0 ≤ a
set_most [] i a = omega arith
set_most (x ∷ xs) zero a = omega arith
set_most (x ∷ xs) (suc i) a = set_most xs i a

-- f is the same for a number that is passed over and for the one after it
module _ {A : Type 0} (f : ℕ → A) (Over : ℕ → Type 0) (over : (g : ℕ) → Over g → f g ≡ f (g + 1)) where
  over_some : (k g : ℕ) → ((j : ℕ) → g ≤ j → j < g + k → Over j) → f g ≡ f (g + k)
  over_some zero g h = let z : g ≡ g + 0 = omega arith in ap f z
  over_some (suc k) g h =
      let m : g + suc k ≡ g + 1 + k = omega arith in
      over g (h g (omega arith) (omega arith)) ∙ over_some k (g + 1) (λ j lo hi. h j (omega arith) (omega arith)) ∙ ap f (sym m)

  -- and for m, where each from g up to m is passed over
  pub over_all : (g m : ℕ) → g ≤ m → ((j : ℕ) → g ≤ j → j < m → Over j) → f g ≡ f m
  over_all g m h p =
      let k : g + (m - g) ≡ m = omega arith in
      over_some (m - g) g (λ j lo hi. p j lo (omega arith)) ∙ ap f k
