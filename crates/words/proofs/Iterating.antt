-- What the library's iterators answer, said by the lists of the definitions: `all`, `any`, `contains`, and `fold` over
-- tests without a branch. Assumes nothing.
use Rattle.semantics.proofs.Prelude.{◌≡◌, refl, sym, ap, ◌∙◌, Bool, true, false, ◌&&◌, ◌||◌, List, [], ◌∷◌, ℤ, w32, SFits, of_z, to_z, to_z-of_z}
use Rattle.std.specs.List.{list_all, list_any, fold}
use Rattle.std.specs.Ordering.{int_eq}
use Rattle.std.proofs.lemmas.Bool.Decides.{same_from_decides, Decides-int_eq}
use Rattle.semantics.specs.Lists.{all, some_of}
use Rattle.semantics.specs.Chart.{eq_z}
use Rattle.semantics.proofs.Bools.{and_regroup}
use Rattle.words.proofs.Words.{eq_z_true, eq_eq_z}

-- ---- tests

-- `==` of two signed words
pub int_eq_is : (a b : ℤ) → int_eq a b ≡ eq_z b a
int_eq_is a b = same_from_decides (int_eq a b) (eq_z b a) (Decides-int_eq a b) (λ e. sym (eq_z_true b a e), λ e. eq_eq_z (sym e))

-- ---- lists

pub all_is : {A : Type 0} (p : A → Bool) (l : List A) → list_all p l ≡ all p l
all_is p [] = refl
all_is p (x ∷ l) = ap (λ (b : Bool). p x && b) (all_is p l)

pub any_is : {A : Type 0} (p : A → Bool) (l : List A) → list_any p l ≡ some_of p l
any_is p [] = refl
any_is p (x ∷ l) = turn (p x) (any_is p l) where
  turn : (b : Bool) → list_any p l ≡ some_of p l → b || list_any p l ≡ elim b [ true ↦ true | false ↦ some_of p l ]
  turn true e = refl
  turn false e = e

-- two tests that say the same
any_same : {A : Type 0} (p q : A → Bool) (same : (x : A) → p x ≡ q x) (l : List A) → list_any p l ≡ list_any q l
any_same p q same [] = refl
any_same p q same (x ∷ l) = ap (λ (b : Bool). b || list_any p l) (same x) ∙ ap (λ (b : Bool). q x || b) (any_same p q same l)

-- `contains` of a word, its clause `value`
pub contains_is : {r : Bool} (x : ℤ) (l : List ℤ) → SFits w32 x → r ≡ list_any (λ y. int_eq y (to_z w32 (of_z w32 x))) l → r ≡ some_of (eq_z x) l
contains_is x l f e = (rw (to_z-of_z w32 x) at e) ∙ any_same (λ y. int_eq y x) (eq_z x) (λ y. int_eq_is y x) l ∙ any_is (eq_z x) l

-- `fold(true, |ok, x| ok & p(*x))`
pub fold_is : {A : Type 0} (p : A → Bool) (b : Bool) (l : List A) → fold (λ ok x. ok && p x) b l ≡ b && all p l
fold_is p true [] = refl
fold_is p false [] = refl
fold_is p b (x ∷ l) = fold_is p (b && p x) l ∙ sym (and_regroup b (p x) (all p l))
