-- The first value that lies over its counterpart, as `position` over the pairs finds it. Assumes nothing.
use Rattle.semantics.proofs.Prelude.{◌≡◌, refl, sym, ◌∙◌, Bool, true, false, cond, ◌&&◌, not, List, [], ◌∷◌, ℕ, suc, ◌+◌, ◌≤◌, ◌<◌, ltb, ltb-true, ltb-false, arith, ℤ, length, length-drop}
use Rattle.std.proofs.Common.{Option, Some, None}
use Rattle.std.specs.List.{zip, position_or_len}
use Rattle.state.specs.Rows.{values_of, word_leq, words_leq, same_place, row_leq}

abbrev pub over : ℤ × ℤ → Bool
over p = not (word_leq p.0 p.1)

abbrev pub place : List ℤ → List ℤ → ℕ
place e s = position_or_len over (zip e s)

-- the values e and s, as many
pub under_all : (e s : List ℤ) → length s ≡ length e → length (zip e s) ≤ place e s → words_leq e s ≡ true
under_all [] [] l h = refl
under_all [] (y ∷ s) l h = absurd (omega arith)
under_all (x ∷ e) [] l h = absurd (omega arith)
under_all (x ∷ e) (y ∷ s) l h = go (word_leq x y) refl (under_all e s (omega arith))
  where
    go : (b : Bool) → word_leq x y ≡ b → (length (zip e s) ≤ place e s → words_leq e s ≡ true) → word_leq x y && words_leq e s ≡ true
    go true t ih = rw t (ih (omega (arith, rw t at h)))
    go false t ih = absurd (omega (arith, rw t at h))

pub over_one : (e s : List ℤ) → length s ≡ length e → place e s < length (zip e s) → (place e s < length e) × (words_leq e s ≡ false)
over_one [] [] l h = absurd (omega arith)
over_one [] (y ∷ s) l h = absurd (omega arith)
over_one (x ∷ e) [] l h = absurd (omega arith)
over_one (x ∷ e) (y ∷ s) l h = go (word_leq x y) refl (over_one e s (omega arith))
  where
    go : (b : Bool) → word_leq x y ≡ b → (place e s < length (zip e s) → (place e s < length e) × (words_leq e s ≡ false)) → (place (x ∷ e) (y ∷ s) < suc (length e)) × (word_leq x y && words_leq e s ≡ false)
    go false t ih = rw t (omega arith, refl)
    go true t ih = let k = ih (omega (arith, rw t at h)) in rw t (omega (arith, k.0), k.1)

-- rows of one length and location, and what `position` answered
module _ (e s : List ℤ) (l : length s ≡ length e) (some : 0 < length e) (same : same_place e s ≡ true) {r : Option ℕ}
    (at : r ≡ cond (ltb (place (values_of e) (values_of s)) (length (zip (values_of e) (values_of s)))) (Some (place (values_of e) (values_of s))) None) where
  abbrev E : List ℤ
  E = values_of e

  abbrev S : List ℤ
  S = values_of s

  as_many : length S ≡ length E
  as_many = simp length-drop (omega arith)

  pub row_under : r ≡ None → row_leq e s ≡ true
  row_under h = rw same (go (ltb (place E S) (length (zip E S))) refl)
    where
      go : (b : Bool) → ltb (place E S) (length (zip E S)) ≡ b → words_leq E S ≡ true
      go true t = let f : None ≡ Some (place E S) = sym h ∙ at ∙ rw t in absurd cc
      go false t = under_all E S as_many (ltb-false _ _ t)

  pub row_over : {i : ℕ} → r ≡ Some i → (i + 1 < length e) × (row_leq e s ≡ false)
  row_over {i} h = rw same (go (ltb (place E S) (length (zip E S))) refl)
    where
      go : (b : Bool) → ltb (place E S) (length (zip E S)) ≡ b → (i + 1 < length e) × (words_leq E S ≡ false)
      go false t = let f : Some i ≡ None = sym h ∙ at ∙ rw t in absurd cc
      go true t =
          let f : Some i ≡ Some (place E S) = sym h ∙ at ∙ rw t in
          let q : i ≡ place E S = cc in
          let k = over_one E S as_many (ltb-true _ _ t) in
          (omega (arith, q, k.0, length-drop 1 e), k.1)
