-- The scans of a whole file, by the first byte at fault and by how many lines end before it. Assumes nothing.
use Rattle.semantics.proofs.Prelude.{◌≡◌, refl, sym, ap, ◌∙◌, Bool, true, false, not, List, [], ◌∷◌, Option, none, some, ℕ, suc, ◌+◌, ◌-◌, ◌≤◌, arith, eqb, length, take, get_or}
use Rattle.std.specs.Prelude.{Some, None, count_by, cond}
use Rattle.std.specs.Prelude.{Option as Answer}
use Rattle.std.specs.List.{position, position_from}
use Rattle.std.proofs.lemmas.Iterator.Adapters.{position_from-zero}
use Rattle.std.proofs.lemmas.List.Recursion.{is_count_by}
use Rattle.semantics.specs.Lists.{pick, all}
use Rattle.semantics.specs.Reading.{byte_ok, bad_byte_line, open_line}
use Rattle.semantics.proofs.Bools.{left_true, right_true}

-- one of some lines more, where the byte ends one
more_lines : (t : Bool) (n m : ℕ) → pick t (suc n) n + m ≡ n + cond t (1 + m) m
more_lines true n m = omega arith
more_lines false n m = refl

abbrev ends : ℕ → Bool
ends b = eqb b 10

-- how many lines a text ends, from its first byte on
line_count : List ℕ → ℕ
line_count [] = 0
line_count (b ∷ bs) = cond (ends b) (1 + line_count bs) (line_count bs)

counted : (l : List ℕ) → line_count l ≡ count_by ends l
unfolding line_count
counted l = is_count_by line_count ends refl (λ _ _. refl) l

-- ---- a byte that no chart has

pub bad_none : (n : ℕ) (l : List ℕ) → all byte_ok l ≡ true → bad_byte_line n l ≡ none
unfolding bad_byte_line
bad_none n [] e = refl
bad_none n (b ∷ bs) e = rw (left_true (byte_ok b) (all byte_ok bs) e) (bad_none (pick (eqb b 10) (suc n) n) bs (right_true (byte_ok b) (all byte_ok bs) e))

-- what is said where the first such byte of l is looked for from place i on
abbrev Said : ℕ → ℕ → List ℕ → Answer ℕ → Option ℕ → Type 0
Said n i l None line = line ≡ none
Said n i l (Some k) line = (i ≤ k) × (line ≡ some (n + line_count (take (k - i) l)))

abbrev Looked : ℕ → ℕ → List ℕ → Answer ℕ → Type 0
Looked n i l r = Said n i l r (bad_byte_line n l)

looked : (n i : ℕ) (l : List ℕ) (r : Answer ℕ) → position_from (λ b. not (byte_ok b)) i l ≡ r → Looked n i l r
unfolding bad_byte_line line_count
looked n i [] None e = refl
looked n i [] (Some k) e = absurd (cc)
looked n i (b ∷ bs) r e = by_byte (byte_ok b) r e (looked (pick (eqb b 10) (suc n) n) (i + 1) bs r) where
  by_byte : (t : Bool) (r : Answer ℕ) → cond (not t) (Some i) (position_from (λ b. not (byte_ok b)) (i + 1) bs) ≡ r
      → (position_from (λ b. not (byte_ok b)) (i + 1) bs ≡ r → Looked (pick (eqb b 10) (suc n) n) (i + 1) bs r)
      → Said n i (b ∷ bs) r (pick t (bad_byte_line (pick (eqb b 10) (suc n) n) bs) (some n))
  by_byte true None e more = more e
  by_byte true (Some k) e more =
      let m = more e in
      let j : k - i ≡ suc (k - (i + 1)) = omega arith in
      (omega arith, m.1 ∙ ap some (more_lines (eqb b 10) n (line_count (take (k - (i + 1)) bs))) ∙ rw j)
  by_byte false None e more = absurd (cc)
  by_byte false (Some k) e more = let q : i ≡ k = cc in let z : k - i ≡ 0 = omega arith in (omega arith, rw z (ap some (omega arith)))

module _ (n : ℕ) (l : List ℕ) where
  pub bad_nowhere : position (λ b. not (byte_ok b)) l ≡ None → bad_byte_line n l ≡ none
  bad_nowhere e = looked n 0 l None (sym (position_from-zero _ l) ∙ e)

  pub bad_at : {k : ℕ} → position (λ b. not (byte_ok b)) l ≡ Some k → bad_byte_line n l ≡ some (n + count_by ends (take k l))
  bad_at {k} e = let z : k - 0 ≡ k = omega arith in (looked n 0 l (Some k) (sym (position_from-zero _ l) ∙ e)).1 ∙ rw (z, counted (take k l))

-- ---- the LF of the last line

pub open_none : (n last : ℕ) (l : List ℕ) → eqb (get_or (last ∷ l) (length l) 0) 10 ≡ true → open_line n last l ≡ none
unfolding open_line
open_none n last [] e = rw e
open_none n last (b ∷ bs) e = open_none (pick (eqb last 10) (suc n) n) b bs e

open_counted : (n last : ℕ) (l : List ℕ) → eqb (get_or (last ∷ l) (length l) 0) 10 ≡ false → open_line n last l ≡ some (n + line_count (last ∷ l))
unfolding open_line line_count
open_counted n last [] e = rw e (ap some (omega arith))
open_counted n last (b ∷ bs) e = open_counted (pick (eqb last 10) (suc n) n) b bs e ∙ ap some (more_lines (eqb last 10) n (line_count (b ∷ bs)))

-- the line before the first has ended
pub open_some : (l : List ℕ) → eqb (get_or (10 ∷ l) (length l) 0) 10 ≡ false → open_line 0 10 l ≡ some (1 + count_by ends l)
unfolding line_count
open_some l e = open_counted 0 10 l e ∙ ap some (omega (arith, counted l))

-- the byte before the end of a text, where LF stands before its start
pub last_none : (l : List ℕ) → length l ≡ 0 → get_or (10 ∷ l) (length l) 0 ≡ 10
last_none l h = rw h

pub last_some : (l : List ℕ) → (length l ≡ 0 → ⊥) → get_or (10 ∷ l) (length l) 0 ≡ get_or l (length l - 1) 0
last_some [] h = absurd (h refl)
last_some (b ∷ bs) h = let e : suc (length bs) - 1 ≡ length bs = omega arith in rw e
