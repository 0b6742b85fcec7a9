-- What the tests and sums of the transfer tell, and the turn of the loop that writes the initial row. Assumes nothing.
use Rattle.semantics.proofs.Prelude.{◌≡◌, ◌∙◌, List, ◌++◌, ℕ, suc, ◌+◌, ◌-◌, ◌≤◌, ◌<◌, add-one, arith, T, ℤ, pos, ◌+ℤ◌, ◌-ℤ◌, le_z, length, take, set, take-suc-set, append_snoc, w32, w64, SFits, of_z, to_z, to_z-of_z, sfits_widen}
use Rattle.semantics.specs.Layout.{variable_size, variable_at, init_place}
use Rattle.semantics.specs.declared.Span.{Span}
use Rattle.semantics.specs.Chart.{Rel}
use Rattle.semantics.specs.Constants.{satisfying}
use Rattle.semantics.specs.Encoding.{word_at, variable_count}
use Rattle.semantics.proofs.Bools.{to_true}
use Rattle.semantics.proofs.SpanNumbers.{Among, satisfying_ends}
use Rattle.words.proofs.Words.{between_fits, sum_fits, diff_fits}
use Rattle.state.specs.Rows.{head_size}
use Rattle.transfer.specs.Transfer.{Narrow, initial_words, initial_row}

-- what a comparison leaves of a range of words ends in words
pub satisfying_fits : (g : Rel) (z : ℤ) (r : Span) → Narrow r → let s = satisfying g z r in T (le_z s.low s.high) → Narrow s
satisfying_fits g z r n t = let e = satisfying_ends g z r t in (fits (satisfying g z r).low e.0.0, fits (satisfying g z r).high e.1.0)
  where
    fits : (x : ℤ) → Among r x → SFits w32 x
    fits x h = between_fits x n.0 n.1 (to_true (le_z r.low x) h.0) (to_true (le_z x r.high) h.1)

-- a number as an i64 holds it, and what is made of two words
abbrev pub as_i64 : ℤ → ℤ
as_i64 z = to_z w64 (of_z w64 z)

module _ {a b : ℤ} (fa : SFits w32 a) (fb : SFits w32 b) where
  unchanged : (as_i64 a ≡ a) × (as_i64 b ≡ b)
  unchanged = (to_z-of_z w64 a (sfits_widen tt fa), to_z-of_z w64 b (sfits_widen tt fb))

  pub sum : SFits w64 (as_i64 a +ℤ as_i64 b)
  sum = rw (unchanged.0, unchanged.1) (sum_fits fa fb)

  pub difference : SFits w64 (as_i64 a -ℤ as_i64 b)
  difference = rw (unchanged.0, unchanged.1) (diff_fits fa fb)

  pub difference_is : as_i64 (as_i64 a -ℤ as_i64 b) ≡ a -ℤ b
  difference_is = to_z-of_z w64 _ difference ∙ λ i. unchanged.0 i -ℤ unchanged.1 i

pub initial_start : (c out : List ℤ) (n : ℕ) → 0 < length out → n ≡ variable_count c → initial_row c ≡ take head_size (set out 0 (pos 0)) ++ initial_words c (variable_at 0 + init_place) (n + 1 - 1)
unfolding initial_row
initial_start c out n h e = let f : n + 1 - 1 ≡ n = omega arith in rw (take-suc-set out 0 (pos 0) h, f, e)

module _ (c out : List ℤ) (i at n : ℕ) where
  pub initial_turn : (v : ℤ) → v ≡ word_at c at → i < length out → i ≤ n
      → take i out ++ initial_words c at (n + 1 - i) ≡ take (i + 1) (set out i v) ++ initial_words c (at + variable_size) (n + 1 - (i + 1))
  initial_turn v q h l =
      let e : n + 1 - i ≡ suc (n - i) = omega arith in
      let f : n + 1 - (i + 1) ≡ n - i = omega arith in
      rw (e, f, add-one i, take-suc-set out i v h, append_snoc, q)
