-- The turns of the loops over the words of a row. Assumes nothing.
use Rattle.semantics.proofs.Prelude.{◌≡◌, refl, sym, ap, subst, Bool, true, false, ◌&&◌, ◌||◌, not, not-true, and_assoc, and-false, T, List, [], ◌∷◌, ◌++◌, ℕ, zero, suc, ◌+◌, ◌<◌, add-one, arith, ℤ, pos, length, take, drop, set, drop-cons, take-suc-set, drop-set-lt, append_snoc}
use Rattle.semantics.specs.Lists.{pick}
use Rattle.semantics.specs.Layout.{top_word}
use Rattle.semantics.proofs.Bools.{right_true}
use Rattle.semantics.specs.Chart.{eq_z}
use Rattle.semantics.specs.Encoding.{word_at}
use Rattle.words.proofs.Words.{eq_z_self}
use Rattle.state.specs.Rows.{values_of, word_leq, word_join, words_leq, words_join, same_words, same_place, row_leq, row_join, row_merge}

pub same_refl : (s : List ℤ) → same_words s s ≡ true
same_refl [] = refl
same_refl (y ∷ s) = rw (eq_z_self y, same_refl s)

-- one word that does not lie under its counterpart tells two rows apart
pair_over : (e s : List ℤ) (i : ℕ) → i < length e → length s ≡ length e → word_leq (word_at e i) (word_at s i) ≡ false → words_leq e s ≡ false
pair_over [] s i h l o = absurd (omega arith)
pair_over (x ∷ e) [] i h l o = absurd (omega arith)
pair_over (x ∷ e) (y ∷ s) zero h l o = rw o
pair_over (x ∷ e) (y ∷ s) (suc i) h l o = rw (pair_over e s i (omega arith) (omega arith) o) (and-false (word_leq x y))

-- a location that does not lie under an equal one: there is none
equal_over : (b top : Bool) → b && not (top || b) ≡ true → ⊥
equal_over true true t = subst T (sym t) tt
equal_over true false t = subst T (sym t) tt
equal_over false top t = subst T (sym t) tt

pub apart_over : (e s : List ℤ) (i : ℕ) → length s ≡ length e → i < length e → same_place e s && not (word_leq (word_at e i) (word_at s i)) ≡ true → row_leq e s ≡ false
apart_over [] s i l h t = absurd (omega arith)
apart_over (x ∷ e) [] i l h t = absurd (omega arith)
apart_over (x ∷ e) (y ∷ s) zero l h t = absurd (equal_over (eq_z x y) (eq_z y top_word) t)
apart_over (x ∷ e) (y ∷ s) (suc i) l h t =
    let o = not-true _ (right_true (eq_z x y) (not (word_leq (word_at e i) (word_at s i))) t) in
    rw (pair_over e s i (omega arith) (omega arith) o) (and-false (eq_z x y))

-- what is left from place i on; s may be changed at i meanwhile
module _ (e s : List ℤ) (i : ℕ) (he : i < length e) (hs : i < length s) (v : ℤ) (q : v ≡ word_join (word_at e i) (word_at s i)) where
  kept : drop (suc i) (set s i v) ≡ drop (suc i) s
  kept = drop-set-lt (suc i) s i v (omega arith)

  pub join_turn : take i s ++ words_join (drop i e) (drop i s) ≡ take (i + 1) (set s i v) ++ words_join (drop (i + 1) e) (drop (i + 1) (set s i v))
  join_turn = rw (add-one, kept, take-suc-set s i v, append_snoc, drop-cons e i (pos 0), drop-cons s i (pos 0), q)

  pub same_turn : (t : Bool) → t && same_words (words_join (drop i e) (drop i s)) (drop i s)
      ≡ (t && eq_z v (word_at s i)) && same_words (words_join (drop (i + 1) e) (drop (i + 1) (set s i v))) (drop (i + 1) (set s i v))
  same_turn t = rw (add-one, kept, drop-cons e i (pos 0), drop-cons s i (pos 0), q) (sym (and_assoc t _ _))

-- ---- lengths

pub length_words_join : (e s : List ℤ) → length (words_join e s) ≡ length s
length_words_join [] s = refl
length_words_join (x ∷ e) [] = refl
length_words_join (x ∷ e) (y ∷ s) = ap suc (length_words_join e s)

pub length_row_join : (e s : List ℤ) → length (row_join e s) ≡ length s
length_row_join e [] = length_words_join (values_of e) []
length_row_join e (y ∷ s) = ap suc (length_words_join (values_of e) s)

pub length_row_merge : (e s : List ℤ) → length (row_merge e s) ≡ length s
length_row_merge e s = by_case (same_place e s) where
  by_case : (t : Bool) → length (pick t (row_join e s) s) ≡ length s
  by_case true = length_row_join e s
  by_case false = refl
