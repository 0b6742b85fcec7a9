-- One field by its tests: a number below a count, `$k`, an operand, an initial value. Assumes nothing.
use Rattle.semantics.proofs.Prelude.{◌≡◌, sym, ap, ◌∙◌, List, ℕ, ℤ}
use Rattle.semantics.specs.Chart.{known}
use Rattle.semantics.specs.Encoding.{val}
use Rattle.semantics.specs.Reading.{Res, fail, ok, if_ok, number_field}
use Rattle.semantics.proofs.MemoryOf.{small_not_top}
use Rattle.semantics.proofs.ReadInBounds.{number_small}

-- the field f is g, the answer r says what reading f says, and r is x
pub field_said : {A R : Type 0} (read : List ℕ → A) (res : R → A) {f g : List ℕ} {r x : R} → f ≡ g → res r ≡ read f → r ≡ x → read g ≡ res x
field_said read res same answer is = ap read (sym same) ∙ sym answer ∙ ap res is

-- ---- the refusal, or on with what was read

module _ {A B : Type 0} {r : Res A} (f : A → Res B) where
  pub then_fail : {n : ℕ} → r ≡ fail n → if_ok r f ≡ fail n
  unfolding if_ok
  then_fail e = rw e

  pub then_ok : {a : A} → r ≡ ok a → if_ok r f ≡ f a
  unfolding if_ok
  then_ok e = rw e

-- ---- an initial value

-- a number that a field says is no word of top
pub number_known : (l : List ℕ) (z : ℤ) → number_field l ≡ ok z → val z ≡ known z
number_known l z e = rw (small_not_top z (number_small l z e))
