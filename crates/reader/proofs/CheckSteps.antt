-- A judgement passed or failed, and what follows it. Assumes nothing.
use Rattle.semantics.proofs.Prelude.{◌≡◌, refl, Bool, true, false, ℕ}
use Rattle.semantics.specs.Reading.{Res, fail, ok, check, if_ok}

module _ {A : Type 0} {b : Bool} (n : ℕ) (r : Res A) where
  pub check_no : b ≡ false → check b n r ≡ fail n
  unfolding check
  check_no e = rw e

  pub check_yes : b ≡ true → check b n r ≡ r
  unfolding check
  check_yes e = rw e

-- ---- one judgement after another

pub check_then : {A B : Type 0} (b : Bool) (n : ℕ) (r : Res A) (f : A → Res B) → if_ok (check b n r) f ≡ check b n (if_ok r f)
unfolding check if_ok
check_then true n r f = refl
check_then false n r f = refl

pub then_then : {A B C : Type 0} (r : Res A) (f : A → Res B) (g : B → Res C) → if_ok (if_ok r f) g ≡ if_ok r (λ a. if_ok (f a) g)
unfolding if_ok
then_then (fail n) f g = refl
then_then (ok a) f g = refl

pub ok_then : {A B : Type 0} (a : A) (f : A → Res B) → if_ok (ok a) f ≡ f a
unfolding if_ok
ok_then a f = refl

-- for `simp`: what follows is said where it is judged
pub ruleset step_by_step = (check_then, then_then, ok_then)
