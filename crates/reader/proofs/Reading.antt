-- The words that the code reads of a line are those of the variable, location or edge that the definitions read.
-- Assumes nothing.
use Rattle.semantics.proofs.Prelude.{◌≡◌, ◌⊎◌, inl, inr, refl, sym, ap, ◌∙◌, true, false, ◌&&◌, List, ℕ, ◌<◌, ◌≤◌, arith, eqb, leb, ltb→lt, length, ℤ, le_z, lt-ltb, le-ltb}
use Rattle.semantics.specs.Lists.{is_empty}
use Rattle.semantics.specs.Layout.{most_variables, most_locations, most_edges}
use Rattle.semantics.specs.Chart.{Var, input, Edge, Op, Chart, in_range}
use Rattle.semantics.specs.Reading.{Res, fail, ok, check, if_ok, nth, none_empty, number_field, target_field, op_word_field, OpWord, field_count, op_fields_read, SoFar, with_edge, var_line, loc_line, edge_line}
use Rattle.semantics.specs.declared.Arithmetic.TheVariants as arithmetic
use Rattle.semantics.proofs.ReadInBounds.{location_is, target_below, ok_parts}
use Rattle.chart.specs.Encoded.{ranged}
use Rattle.text.specs.Fields.{the_word}
use Rattle.text.specs.declared.Action.TheVariants as action
use Rattle.std.specs.Prelude.{Option as Answer, Some, None}
use Rattle.text.specs.declared.Action.{Action}
use Rattle.reader.specs.Lines.{input_fields, op_read, edge_fields, edge_read, var_judged, var_named, loc_judged, loc_named, edge_worded}
use Rattle.reader.specs.ReadSoFar.{Rows}
use Rattle.reader.specs.declared.draft.Tally.{Tally}
use Rattle.reader.proofs.OneRowMore.{range_held}
use Rattle.semantics.proofs.AtAndIn.{none_empty_list, some_list}
use Rattle.text.proofs.FieldTests.{then_fail, then_ok}
use Rattle.reader.proofs.CheckSteps.{check_no, check_yes, step_by_step}

-- ---- operations

-- by the ranges in the rows, and by those of the variables
module _ (rows : List ℤ) (vars : List Var) (ranges : (k : ℕ) (z : ℤ) → k < length vars → ranged rows k z ≡ in_range vars k z) where
  input_held : (t : Res ℕ) → ((v : ℕ) → t ≡ ok v → v < length vars) → (f g : List ℕ)
      → if_ok t (λ v. input_fields rows v f g)
      ≡ if_ok t (λ v. if_ok (number_field f) (λ p. check (in_range vars v p) 7 (if_ok (number_field g) (λ z. check (in_range vars v z && le_z p z) 7 (ok (input v p z))))))
  unfolding if_ok
  input_held (fail n) b f g = refl
  input_held (ok v) b f g = by_field (number_field f) (number_field g) where
    by_field : (r q : Res ℤ) → if_ok r (λ p. check (ranged rows v p) 7 (if_ok q (λ z. check (ranged rows v z && le_z p z) 7 (ok (input v p z)))))
        ≡ if_ok r (λ p. check (in_range vars v p) 7 (if_ok q (λ z. check (in_range vars v z && le_z p z) 7 (ok (input v p z)))))
    by_field (fail n) q = refl
    by_field (ok p) (fail n) = rw (ranges v p (b v refl))
    by_field (ok p) (ok z) = rw (ranges v p (b v refl), ranges v z (b v refl))

op_held : (rows : List ℤ) (c : Chart) → ((k : ℕ) (z : ℤ) → k < length c.vars → ranged rows k z ≡ in_range c.vars k z) → (w : Answer Action) (fs : List (List ℕ))
    → op_read rows (length c.vars) w fs ≡ op_fields_read c (the_word w) fs
unfolding op_fields_read
op_held rows c ranges None fs = refl
op_held rows c ranges (Some action.Set) fs = refl
op_held rows c ranges (Some (action.Compute arithmetic.Add)) fs = refl
op_held rows c ranges (Some (action.Compute arithmetic.Sub)) fs = refl
op_held rows c ranges (Some action.In) fs =
    let n = length c.vars in
    input_held rows c.vars ranges (target_field n (nth fs 4)) (λ v e. ltb→lt v n (target_below n (nth fs 4) v e)) (nth fs 5) (nth fs 6)
op_held rows c ranges (Some action.If) fs = refl

-- ---- edges

-- a line with as many fields as it is to have
pub edge_counted : {t : Tally} {ws : List ℤ} (s : SoFar) → Rows t ws s.chart → (w : Answer Action) (fs : List (List ℕ)) → eqb (length fs) (field_count (the_word w)) ≡ true
    → edge_worded s (the_word w) fs ≡ if_ok (edge_read t.locs (op_read ws t.vars w fs) fs) (λ g. ok (with_edge s g))
edge_counted {t} {ws} s h w fs e = check_yes _ _ e ∙ rw (h.vars, h.locs, op_held ws s.chart (λ k z l. range_held h k z (omega (arith, h.vars))) w fs)

-- an edge's locations are among those of the chart
pub edge_near : (m : ℕ) (r : Res Op) (f h : List ℕ) {g : Edge} → edge_fields m r f h ≡ ok g → (g.from < m) × (g.to < m)
edge_near m r f h {g} e =
    let from = ok_parts _ _ e in
    let to = ok_parts _ _ from.2 in
    let o = ok_parts _ _ to.2 in
    let p : from.0 ≡ g.from = cc o.2 in
    let q : to.0 ≡ g.to = cc o.2 in
    (omega (arith, ltb→lt from.0 m (location_is m f from.0 from.1)), omega (arith, ltb→lt to.0 m (location_is m h to.0 to.1)))

-- ---- lines

module _ (s : SoFar) (fs : List (List ℕ)) where
  pub edge_full : most_edges ≤ length s.chart.edges → edge_line s fs ≡ fail 8
  unfolding edge_line
  edge_full h = check_no _ _ (le-ltb _ _ h)

  module _ (few : length s.chart.edges < most_edges) where
    pub edge_few_fields : (leb 4 (length fs) && none_empty fs) ≡ false → edge_line s fs ≡ fail 5
    unfolding edge_line
    edge_few_fields e = check_yes _ _ (lt-ltb _ _ few) ∙ check_no _ _ e

    module _ (enough : (leb 4 (length fs) && none_empty fs) ≡ true) where
      pub edge_no_word : {k : ℕ} → op_word_field (nth fs 3) ≡ fail k → edge_line s fs ≡ fail k
      unfolding edge_line
      edge_no_word e = check_yes _ _ (lt-ltb _ _ few) ∙ check_yes _ _ enough ∙ then_fail _ e

      pub edge_by_word : {w : OpWord} → op_word_field (nth fs 3) ≡ ok w → edge_line s fs ≡ edge_worded s w fs
      unfolding edge_line
      edge_by_word {w} e =
          check_yes _ _ (lt-ltb _ _ few) ∙ check_yes _ _ enough ∙ then_ok _ e
          ∙ ap (check (eqb (length fs) (field_count w)) 5) (sym (simp step_by_step))

-- ---- by the counts and the words that hold the chart

module _ (s : SoFar) (fs : List (List ℕ)) {t : Tally} {ws : List ℤ} (h : Rows t ws s.chart) where
  -- a location
  pub loc_late : (t.edges ≡ 0 → ⊥) → loc_line s fs ≡ fail 4
  unfolding loc_line
  loc_late n = check_no _ _ (some_list s.chart.edges (omega (arith, h.edges, n)))

  module _ (e : t.edges ≡ 0) where
    no_edges : is_empty s.chart.edges ≡ true
    no_edges = none_empty_list s.chart.edges (omega (arith, h.edges, e))

    pub loc_full : most_locations ≤ t.locs → loc_line s fs ≡ fail 8
    unfolding loc_line
    loc_full n = check_yes _ _ no_edges ∙ check_no _ _ (le-ltb (length s.chart.locs) most_locations (omega (arith, h.locs, n)))

    pub loc_read : t.locs < most_locations → loc_line s fs ≡ if_ok (loc_judged fs) (λ k. loc_named s (nth fs 1) k)
    unfolding loc_line
    loc_read n =
        check_yes _ _ no_edges ∙ check_yes _ _ (lt-ltb (length s.chart.locs) most_locations (omega (arith, h.locs, n)))
        ∙ sym (simp step_by_step)

  -- a variable
  pub var_late : (t.locs ≡ 0 → ⊥) ⊎ ((t.locs ≡ 0) × (t.edges ≡ 0 → ⊥)) → var_line s fs ≡ fail 4
  unfolding var_line
  var_late (inl n) = check_no _ _ (rw (some_list s.chart.locs (omega (arith, h.locs, n))))
  var_late (inr n) = check_no _ _ (rw (none_empty_list s.chart.locs (omega (arith, h.locs, n.0)), some_list s.chart.edges (omega (arith, h.edges, n.1))))

  module _ (l : t.locs ≡ 0) where
    no_locs : is_empty s.chart.locs ≡ true
    no_locs = none_empty_list s.chart.locs (omega (arith, h.locs, l))

    module _ (e : t.edges ≡ 0) where
      early : (is_empty s.chart.locs && is_empty s.chart.edges) ≡ true
      early = rw (no_locs, no_edges e)

      pub var_full : most_variables ≤ t.vars → var_line s fs ≡ fail 8
      unfolding var_line
      var_full n = check_yes _ _ early ∙ check_no _ _ (le-ltb (length s.chart.vars) most_variables (omega (arith, h.vars, n)))

      pub var_read : t.vars < most_variables → var_line s fs ≡ if_ok (var_judged fs) (λ v. var_named s (nth fs 1) v)
      unfolding var_line
      var_read n =
          check_yes _ _ early ∙ check_yes _ _ (lt-ltb (length s.chart.vars) most_variables (omega (arith, h.vars, n)))
          ∙ sym (simp step_by_step)
