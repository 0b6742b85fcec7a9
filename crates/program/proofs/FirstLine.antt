-- The first line and the rest of an input by the place of the first LF, and the go line judged by it. Assumes nothing.
use Rattle.semantics.proofs.Prelude.{◌≡◌, refl, sym, ap, ◌∙◌, Bool, true, false, ◌&&◌, ◌||◌, not, List, [], ◌∷◌, ℕ, zero, suc, ◌+◌, ◌≤◌, zero-add, add-one, arith, leb, ltb, eqb, leb-suc-suc, length, take, drop, take-length, length-take, ltb-true, ltb-false, lt-leb, le-leb, lt-ltb, le-ltb}
use Rattle.semantics.specs.Layout.{go_line_bytes}
use Rattle.semantics.specs.Lists.{pick, all}
use Rattle.semantics.specs.Text.{fields}
use Rattle.semantics.specs.Reading.{check}
use Rattle.semantics.specs.Program.{has_lf, first_line, past_line, line_byte, go_fields, go_line}
use Rattle.text.specs.Fields.{up_to}
use Rattle.text.specs.Places.{shape_of}
use Rattle.text.specs.declared.lines.Shape.{Shape}
use Rattle.text.proofs.LineEnds.{up_to_le}

first_is : (l : List ℕ) → first_line l ≡ take (up_to 10 l) l
unfolding up_to
first_is [] = refl
first_is (b ∷ bs) = at_byte (eqb b 10) (first_is bs)
  where
    at_byte : (t : Bool) → first_line bs ≡ take (up_to 10 bs) bs → pick t [] (b ∷ first_line bs) ≡ take (pick t 0 (suc (up_to 10 bs))) (b ∷ bs)
    at_byte true ih = refl
    at_byte false ih = rw ih

past_is : (l : List ℕ) → past_line l ≡ drop (suc (up_to 10 l)) l
unfolding up_to
past_is [] = refl
past_is (b ∷ bs) = at_byte (eqb b 10) (past_is bs)
  where
    at_byte : (t : Bool) → past_line bs ≡ drop (suc (up_to 10 bs)) bs → pick t bs (past_line bs) ≡ drop (suc (pick t 0 (suc (up_to 10 bs)))) (b ∷ bs)
    at_byte true ih = refl
    at_byte false ih = ih

-- the rest of the input, by the place e of the first LF
past_end : (l : List ℕ) (e : ℕ) → e ≡ up_to 10 l → drop (e + 1) l ≡ past_line l
past_end l e p = rw (add-one, p) (sym (past_is l))

-- an LF is among the first n bytes where its place is below n
has_is : (n : ℕ) (l : List ℕ) → n ≤ length l → has_lf (take n l) ≡ ltb (up_to 10 l) n
unfolding up_to
has_is zero l h = sym (le-ltb (up_to 10 l) 0 (omega arith))
has_is (suc n) [] h = absurd (omega arith)
has_is (suc n) (b ∷ bs) h = at_byte (eqb b 10) (has_is n bs (omega arith))
  where
    at_byte : (t : Bool) → has_lf (take n bs) ≡ ltb (up_to 10 bs) n → (t || has_lf (take n bs)) ≡ ltb (pick t 0 (suc (up_to 10 bs))) (suc n)
    at_byte true ih = sym (lt-ltb 0 (suc n) (omega arith))
    at_byte false ih = ih ∙ sym (leb-suc-suc (suc (up_to 10 bs)) n)

lf_is : (l : List ℕ) → has_lf l ≡ ltb (up_to 10 l) (length l)
lf_is l = ap has_lf (sym (take-length l)) ∙ has_is (length l) l (omega arith)

not_ltb : (a b : ℕ) → not (ltb a b) ≡ leb b a
not_ltb a b = by_test (ltb a b) refl
  where
    by_test : (t : Bool) → ltb a b ≡ t → not t ≡ leb b a
    by_test true e = sym (lt-leb b a (ltb-true a b e))
    by_test false e = sym (le-leb b a (ltb-false a b e))

-- more than n bytes, and no LF among the first n
late_is : (n : ℕ) (l : List ℕ) → (ltb n (length l) && not (has_lf (take n l))) ≡ (ltb n (length l) && leb n (up_to 10 l))
late_is n l = by_test (ltb n (length l)) refl
  where
    by_test : (t : Bool) → ltb n (length l) ≡ t → (t && not (has_lf (take n l))) ≡ (t && leb n (up_to 10 l))
    by_test true e = let k = ltb-true n (length l) e in ap not (has_is n l (omega arith)) ∙ not_ltb (up_to 10 l) n
    by_test false e = refl

-- the go line by the place e of its LF, which is the input's length where there is none
by_its_end : (l : List ℕ) (e : ℕ) → e ≡ up_to 10 l
    → go_line l ≡ check (not (ltb go_line_bytes (length l) && leb go_line_bytes e)) 1 (check (all line_byte (take e l)) 2 (check (ltb e (length l)) 3 (go_fields (fields (take e l)))))
unfolding go_line
by_its_end l e p = rw (p, late_is go_line_bytes l, first_is l, lf_is l)

-- the line as it was measured
module _ (input : List ℕ) (s : Shape) (measured : s ≡ shape_of input 0) where
  end_is : s.end ≡ up_to 10 input
  end_is = ap (λ (s : Shape). s.end) measured ∙ zero-add (up_to 10 input)

  pub end_within : s.end ≤ length input
  end_within = omega (arith, end_is, up_to_le 10 input)

  pub part_long : s.end ≡ length (take s.end input)
  part_long = simp length-take (omega (arith, end_within))

  pub rest_is : drop (s.end + 1) input ≡ past_line input
  rest_is = past_end input s.end end_is

  pub judged : go_line input
      ≡ check (not (ltb go_line_bytes (length input) && leb go_line_bytes s.end)) 1 (check (all line_byte (take s.end input)) 2 (check (ltb s.end (length input)) 3 (go_fields (fields (take s.end input)))))
  judged = by_its_end input s.end end_is
