-- The lines of a run piece by piece: a state's line as its fields, and what one turn of the loop over rows adds. Assumes
-- nothing.
use Rattle.semantics.proofs.Prelude.{◌≡◌, refl, sym, ap, ◌∙◌, Bool, List, [], ◌∷◌, ◌++◌, map, append_assoc, ℕ, suc, ◌+◌, ◌≤◌, zero, add-one, arith, T, ℤ, length, take, drop, length-take, length-drop}
use Rattle.semantics.specs.Lists.{pick, all, each}
use Rattle.semantics.specs.Text.{decimal, decimal_z, line_of}
use Rattle.semantics.specs.Chart.{known, top, Var, Chart, Ranged}
use Rattle.semantics.specs.Encoding.{val, var_ok, count}
use Rattle.semantics.specs.Memory.{width}
use Rattle.semantics.specs.Listing.{val_text, loc_text}
use Rattle.semantics.specs.RunListing.{state_text}
use Rattle.semantics.proofs.Bools.{and_left, and_right}
use Rattle.semantics.proofs.MemoryOf.{known_not_top}
use Rattle.state.specs.Rows.{location_in, values_of}
use Rattle.descent.specs.Rows.{state_of, Concrete}
use Rattle.listing.specs.Pieces.{tabbed, values_text}
use Rattle.search.specs.RunLines.{row_in, rows_after, Rows, rows_text}

-- ---- a line

line_fields : (f : List ℕ) (gs : List (List ℕ)) → line_of f gs ≡ f ++ (each tabbed gs ++ (10 ∷ []))
unfolding line_of
line_fields f [] = refl
line_fields f (g ∷ gs) = ap (λ (l : List ℕ). f ++ (9 ∷ l)) (line_fields g gs ∙ sym (append_assoc g (each tabbed gs) (10 ∷ [])))

-- a value in its range is never written as top
values_known : (vars : List Var) (xs : List ℤ) → T (all var_ok vars) → Ranged vars xs → map val_text (map val xs) ≡ map decimal_z xs
values_known [] [] t h = refl
values_known [] (x ∷ xs) t h = absurd h
values_known (v ∷ vs) [] t h = absurd h
values_known (v ∷ vs) (x ∷ xs) t h =
    let one = ap (λ (b : Bool). val_text (pick b top (known x))) (known_not_top v x (and_left (var_ok v) (all var_ok vs) t) h.0) in
    let rest = values_known vs xs (and_right (var_ok v) (all var_ok vs) t) h.1 in
    λ i. one i ∷ rest i

-- a state's line, by its location n
pub state_is : (c : Chart) → T (all var_ok c.vars) → (e : ℕ) (row : List ℤ) (n : ℕ) → Ranged c.vars (values_of row) → n ≡ location_in row
    → decimal e ++ (tabbed (loc_text c.locs n) ++ (values_text (values_of row) ++ (10 ∷ []))) ≡ state_text c e (state_of row)
unfolding values_text
state_is c t e row n h p =
    let vs = map val_text (map val (values_of row)) in
    (λ i. decimal e ++ (tabbed (loc_text c.locs (p i)) ++ (each tabbed vs ++ (10 ∷ []))))
    ∙ ap (λ (l : List ℕ). decimal e ++ (9 ∷ l)) (sym (append_assoc (loc_text c.locs (location_in row)) (each tabbed vs) (10 ∷ [])))
    ∙ sym (line_fields (decimal e) (loc_text c.locs (location_in row) ∷ vs))
    ∙ ap (λ (l : List (List ℕ)). line_of (decimal e) (loc_text c.locs (location_in row) ∷ l)) (values_known c.vars (values_of row) t h)

-- ---- a turn of the loop over rows

ranged_long : (vars : List Var) (xs : List ℤ) → Ranged vars xs → length xs ≡ length vars
ranged_long [] [] h = refl
ranged_long [] (x ∷ xs) h = absurd h
ranged_long (v ∷ vs) [] h = absurd h
ranged_long (v ∷ vs) (x ∷ xs) h = ap suc (ranged_long vs xs h.1)

pub concrete_long : (c : Chart) (e : List ℤ) → Concrete c e → length e ≡ width c
concrete_long c e h = ap (λ (l : List ℤ). length l) h.words ∙ ap suc (ranged_long c.vars (values_of e) h.ranged)

-- the first row, w words wide after its edge, and what is left
module _ (c : Chart) (left : List ℤ) (w : ℕ) (wide : w ≡ width c) where
  -- its state, as the code lends it
  abbrev pub lent_row : List ℤ
  lent_row = drop 1 (take (w + 1) left)

  row_is : (l : List ℤ) → take w (drop 1 l) ≡ drop 1 (take (w + 1) l)
  row_is [] = rw add-one (nothing w)
    where
      nothing : (n : ℕ) → take n (drop {A = ℤ} 1 []) ≡ drop 1 (take {A = ℤ} (suc n) [])
      nothing zero = refl
      nothing (suc n) = refl
  row_is (x ∷ l) = rw add-one refl

  first_is : (l : List ℤ) → count l 0 ≡ count (take (w + 1) l) 0
  first_is [] = rw add-one refl
  first_is (x ∷ l) = rw add-one refl

  pub record Turn (n : ℕ) : Type 0 where
    pub fits : w + 1 ≤ length left
    pub state : Concrete c lent_row
    pub rest : Rows c n (drop (w + 1) left)
    pub text : rows_text c (suc n) left ≡ state_text c (count (take (w + 1) left) 0) (state_of lent_row) ++ rows_text c n (drop (w + 1) left)

  pub turn : (n : ℕ) → Rows c (suc n) left → Turn n
  unfolding rows_text
  turn n h =
      let long = concrete_long c (row_in c left) h.0 in
      let row : row_in c left ≡ lent_row = rw (← wide) (row_is left) in
      let after : rows_after c left ≡ drop (w + 1) left = rw (add-one, wide) in
      let edge : count left 0 ≡ count (take (w + 1) left) 0 = first_is left in
      record {
        fits = omega (arith, length-take (width c) (drop 1 left), length-drop 1 left, long, wide);
        state = rw row at h.0;
        rest = rw after at h.1;
        text = λ i. state_text c (edge i) (state_of (row i)) ++ rows_text c n (after i);
      }
