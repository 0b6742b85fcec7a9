-- Facts behind the form check: the loops' turns, the two parts of rule 21, and what 20, 14 and 21 ask.
-- Assumes nothing.
use Rattle.semantics.proofs.Prelude.{◌≡◌, refl, ap, sym, ◌∙◌, Bool, true, false, ◌&&◌, ◌||◌, not, and_assoc, and-true, List, [], ◌∷◌, ◌++◌, ℕ, suc, ◌+◌, ◌*◌, ◌<◌, add-zero, add-one, arith, leb, ℤ, pos, length, take, drop, drop-cons, drop-drop, get_or-drop, take-take, non_neg}
use Rattle.semantics.specs.Lists.{all, all_pairs, all_of}
use Rattle.semantics.specs.Chart.{Chart, eq_z, within}
use Rattle.semantics.specs.Layout.{top_word, counts_size, variable_size, high_place}
use Rattle.semantics.specs.Encoding.{word_at, several, var_in, decode, well_formed, variable_count, location_count, edge_count}
use Rattle.semantics.specs.declared.Analysis.{Analysis}
use Rattle.semantics.specs.Memory.{Memory, value_ok, below, width, stride, row_ok, states_in, origins_in, slots_ok, locations, origins_ok, each_once, zeros, lent_tests, record_tests, analysis_ok}
use Rattle.semantics.specs.Outcomes.{too_few}
use Rattle.semantics.proofs.Decoded.{vars_count, locs_count, edges_count}
use Rattle.semantics.proofs.Bools.{passed}
use Rattle.semantics.proofs.FirstCase.{enough}
use Rattle.state.specs.declared.Layout.{Layout}
use Rattle.state.specs.Rows.{location_word, values_of, row_of, tail_of}
use Rattle.state.proofs.Layouts.{LayoutOf}
use Rattle.state.proofs.Slots.{drop_slot}
use Rattle.checks.specs.Form.{lent, InForm}

-- ---- turns of the loops: the test at i, which says b, and what is left after it

module _ (l : List ℤ) (i : ℕ) (h : i < length l) (b : Bool) where
  abbrev word : ℤ
  word = word_at l i

  -- a value, and its variable's words at `at`
  pub values_ok_turn : (ws : List ℤ) (at n : ℕ) → (eq_z word top_word || within (word_at ws at) (word_at ws (at + high_place)) word) ≡ b →
      all_pairs value_ok (several var_in variable_size (suc n) (drop at ws)) (drop i l) ≡ b && all_pairs value_ok (several var_in variable_size n (drop (at + variable_size) ws)) (drop (i + 1) l)
  values_ok_turn ws at n e = rw (add-one i, drop-cons l i (pos 0) h, get_or-drop at ws 0 (pos 0), get_or-drop at ws 1 (pos 0), drop-drop variable_size at ws, add-zero at, e)

-- a row: its location, and its values
pub row_is : (ws row : List ℤ) → length row ≡ width (decode ws) →
    below (location_count ws) (location_word row) && all_pairs value_ok (several var_in variable_size (length (values_of row)) (drop counts_size ws)) (values_of row) ≡ row_ok (decode ws) row
unfolding decode
row_is ws [] h = absurd (omega arith)
row_is ws (x ∷ xs) h =
    let n : length xs ≡ variable_count ws = omega (arith, h, vars_count ws) in
    λ j. below (sym (locs_count ws) j) x && all_pairs value_ok (several var_in variable_size (n j) (drop counts_size ws)) xs

-- the words of slot s are tested, those of its state and of its origin, and the slots after it are left
pub slots_ok_turn : (ws t : List ℤ) (y : Layout) → LayoutOf (decode ws) y → (s n : ℕ) (b : Bool) → (row_ok (decode ws) (row_of y s t) && all non_neg (tail_of y s t)) ≡ b →
    slots_ok (decode ws) (suc n) (drop (s * y.stride) t) ≡ b && slots_ok (decode ws) n (drop ((s + 1) * y.stride) t)
slots_ok_turn ws t y o s n b q =
    let d = decode ws in
    rw (← drop_slot y s t, ← q, o.wide, o.stride, take-take (width d) (stride d) (drop (s * stride d) t) (omega arith))

-- ---- the rule in its two parts

all_of_append : (xs ys : List Bool) → all_of xs && all_of ys ≡ all_of (xs ++ ys)
all_of_append [] ys = refl
all_of_append (true ∷ xs) ys = all_of_append xs ys
all_of_append (false ∷ xs) ys = refl

pub both_parts : (ws t l : List ℤ) (a : Analysis)
    → all_of (lent_tests (decode ws) a.capacity a.used a.waiting t l) && all_of (record_tests (edge_count ws) a) ≡ analysis_ok (decode ws) (lent t l a)
unfolding analysis_ok
both_parts ws t l a =
    all_of_append (lent_tests (decode ws) a.capacity a.used a.waiting t l) (record_tests (edge_count ws) a)
    ∙ ap (λ (n : ℕ). all_of (lent_tests (decode ws) a.capacity a.used a.waiting t l ++ record_tests n a)) (sym (edges_count ws))

in_order : (s o a e u f : Bool) → (((s && o) && (a && e)) && u) && f ≡ s && (o && (a && (e && (u && (f && true)))))
in_order s o a e u f = simp (and_assoc, and-true)

-- the words lent pass, by what the code asks of them once the counts are in order
module _ (c : Chart) (r n k : ℕ) (t l : List ℤ) where
  pub lent_passes : leb n r ≡ true → leb k n ≡ true → {s o w u f : Bool} → s ≡ slots_ok c n t → o ≡ origins_ok c (locations (states_in c n t)) 0 (origins_in c n t)
      → w ≡ (all (below n) (take k l) && each_once (take k l)) → u ≡ zeros (drop (n * stride c) (take (r * stride c) t)) → f ≡ zeros (drop k (take r l)) → (((s && o) && w) && u) && f ≡ all_of (lent_tests c r n k t l)
  lent_passes p q hs ho hw hu hf =
      rw (p, q)
      ((λ j. (((hs j && ho j) && hw j) && hu j) && hf j)
      ∙ in_order (slots_ok c n t) (origins_ok c (locations (states_in c n t)) 0 (origins_in c n t)) (all (below n) (take k l)) (each_once (take k l)) (zeros (drop (n * stride c) (take (r * stride c) t))) (zeros (drop k (take r l))))

-- none of 20, 14 and 21 holds
pub in_form : (words : List ℤ) (m : Memory) → not (well_formed words) ≡ false → too_few (decode words) m.analysis.capacity (length m.table) (length m.waitlist) ≡ false → not (analysis_ok (decode words) m) ≡ false → InForm words m
in_form words m p q r =
    let h = enough (decode words) m.analysis.capacity (length m.table) (length m.waitlist) q in
    record { chart = passed (well_formed words) p; table = h.0; list = h.1; analysis = passed (analysis_ok (decode words) m) r }
