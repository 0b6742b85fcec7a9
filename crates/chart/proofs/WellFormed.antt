-- The tests of the words are the form check: counts first, then room for all rows, then the rows. Assumes nothing.
use Rattle.semantics.proofs.Prelude.{◌≡◌, refl, sym, ap, ◌∙◌, Bool, true, false, ◌&&◌, and-true, List, [], ◌∷◌, ◌++◌, map, append-nil, ℕ, zero, suc, ◌+◌, ◌*◌, ◌≤◌, ◌<◌, arith, leb-true, leb-false, T, leb, ℤ, pos, length, drop, length-append, length-map, length-drop, drop-drop, get_or-drop, non_neg}
use Rattle.semantics.specs.Layout.{most_variables, most_locations, most_edges, counts_size, variable_size, name_size, location_size, edge_size, variables_place, locations_place, edges_place, high_place, name_place}
use Rattle.semantics.specs.Lists.{all, each}
use Rattle.semantics.specs.Text.{name_ok}
use Rattle.semantics.specs.Chart.{eq_z, in_range}
use Rattle.semantics.specs.Encoding.{word_at, var_words, loc_words, edge_words, encode, var_in, loc_in, edge_in, name_in, several, past, decode, var_ok, distinct_names, edge_ok, chart_ok, begins_with, well_formed, variable_count, location_count, edge_count}
use Rattle.semantics.proofs.Bools.{and_left, and_right, left_true, right_true, to_false, both_true}
use Rattle.semantics.proofs.MemoryOf.{padded_length}
use Rattle.semantics.proofs.Encoded.{edge_wide}
use Rattle.chart.specs.Encoded.{rows, is_at_most, counts_fine, locations_at, edges_at, location_fine, ranged, edge_fine, rows_fine}
use Rattle.semantics.proofs.Decoded.{vars_count, locs_count, edges_count}
use Rattle.chart.proofs.Rows.{iff, all_and, past_drop, rows_same, all_rows, begins_rows, several_length_of}
use Rattle.chart.proofs.RowTests.{said, var_row, name_few, location_row, edge_row}

loc_wide : (ws : List ℤ) → length (loc_words (loc_in ws)) ≡ location_size
loc_wide ws = ap suc (padded_length name_size (map pos (name_in name_size (drop name_place ws))) (omega (arith, length-map (name_in name_size (drop name_place ws)) pos, name_few name_size (drop name_place ws))))

-- ---- room for all rows

begins_length : (xs ws : List ℤ) → T (begins_with xs ws) → length xs ≤ length ws
begins_length [] ws t = omega arith
begins_length (x ∷ xs) [] t = absurd t
begins_length (x ∷ xs) (w ∷ ws) t = omega (arith, begins_length xs ws (and_right (eq_z x w) (begins_with xs ws) t))

encode_length : (ws : List ℤ) → length (encode (decode ws)) ≡ edges_at ws + edge_size * edge_count ws
unfolding encode decode
encode_length ws =
    let v = drop counts_size ws in
    let l = past variable_size (variable_count ws) v in
    let e = past location_size (location_count ws) l in
    simp length-append (omega (
      arith,
      several_length_of var_in variable_size var_words (λ r. refl) (variable_count ws) v,
      several_length_of loc_in location_size loc_words loc_wide (location_count ws) l,
      several_length_of edge_in edge_size edge_words (λ r. edge_wide (edge_in r) tt) (edge_count ws) e,
    ))

pub no_room : (ws : List ℤ) → length ws < edges_at ws + edge_size * edge_count ws → well_formed ws ≡ false
unfolding well_formed
no_room ws h =
    to_false (well_formed ws) (λ t. omega (arith, encode_length ws, begins_length (encode (decode ws)) ws (and_left (begins_with (encode (decode ws)) ws) (chart_ok (decode ws)) t)))

-- ---- the counts, and then the rows

-- counts in order are no more than a chart has
pub few_locations : (ws : List ℤ) → counts_fine ws ≡ true → location_count ws ≤ most_locations
unfolding counts_fine
few_locations ws e =
    let v = is_at_most most_variables (word_at ws variables_place) in
    let l = is_at_most most_locations (word_at ws locations_place) in
    let m = right_true v l (left_true (v && l) _ (left_true (v && l && leb 1 (location_count ws)) _ e)) in
    leb-true _ _ (right_true (non_neg (word_at ws locations_place)) _ m)

shuffle_chart : (x y z p a b c d v n s g : Bool) → (x && (y && (z && p))) && (a && (b && c) && d && v && n && s && g)
    ≡ ((x && a) && (y && c) && b && (z && d)) && (p && (v && n && s && g))
shuffle_chart x y z p a b c d v n s g = iff _ _ (λ h. search (and_left, and_right, both_true) depth 12) (λ h. search (and_left, and_right, both_true) depth 12)

shuffle_rows : (p q v n s g : Bool) → (p && q) && (v && n && s && g) ≡ v && (p && n) && s && (q && g)
shuffle_rows p q v n s g = iff _ _ (λ h. search (and_left, and_right, both_true) depth 9) (λ h. search (and_left, and_right, both_true) depth 9)

begins_three : (ws : List ℤ) → counts_size ≤ length ws → (x y z : ℤ) (xs : List ℤ) → begins_with (x ∷ y ∷ z ∷ xs) ws ≡ eq_z x (word_at ws variables_place) && (eq_z y (word_at ws locations_place) && (eq_z z (word_at ws edges_place) && begins_with xs (drop counts_size ws)))
begins_three [] h x y z xs = absurd (omega arith)
begins_three (a ∷ []) h x y z xs = absurd (omega arith)
begins_three (a ∷ b ∷ []) h x y z xs = absurd (omega arith)
begins_three (a ∷ b ∷ c ∷ ws) h x y z xs = refl

range_words : (n k : ℕ) (ws : List ℤ) (z : ℤ) → k < n → in_range (several var_in variable_size n ws) k z ≡ ranged ws k z
unfolding ranged
range_words zero k ws z h = absurd (omega arith)
range_words (suc n) zero ws z h = refl
range_words (suc n) (suc k) ws z h =
    let a : variable_size + variable_size * k ≡ variable_size * suc k = omega arith in
    let b : variable_size + (variable_size * k + high_place) ≡ variable_size * suc k + high_place = omega arith in
    range_words n k (drop variable_size ws) z (omega arith) ∙ rw (get_or-drop counts_size ws (variable_size * k) (pos 0), get_or-drop counts_size ws (variable_size * k + 1) (pos 0), a, b)

-- a row begins with what its decoding encodes to
abbrev exact : {A : Type 0} → (A → List ℤ) → (List ℤ → A) → List ℤ → Bool
exact f g r = begins_with (f (g r)) r

module _ (ws : List ℤ) where
  abbrev v_rows : List ℤ
  v_rows = drop counts_size ws

  abbrev l_rows : List ℤ
  l_rows = past variable_size (variable_count ws) v_rows

  abbrev e_rows : List ℤ
  e_rows = past location_size (location_count ws) l_rows

  -- where they stand
  l_at : l_rows ≡ drop (locations_at ws) ws
  l_at = past_drop variable_size (variable_count ws) v_rows ∙ drop-drop (variable_size * variable_count ws) counts_size ws

  e_at : e_rows ≡ drop (edges_at ws) ws
  e_at = past_drop location_size (location_count ws) l_rows ∙ ap (drop (location_size * location_count ws)) l_at ∙ drop-drop (location_size * location_count ws) (locations_at ws) ws

  -- the chart's edges, by the place of their rows
  pub edges_by_place : (decode ws).edges ≡ several edge_in edge_size (edge_count ws) (drop (edges_at ws) ws)
  unfolding decode
  edges_by_place = ap (several edge_in edge_size (edge_count ws)) e_at

  -- each row is what its decoding encodes to; and that is what reading can produce
  abbrev exact_vars : Bool
  exact_vars = all (exact var_words var_in) (rows variable_size (variable_count ws) v_rows)

  abbrev exact_locs : Bool
  exact_locs = all (exact loc_words loc_in) (rows location_size (location_count ws) l_rows)

  abbrev exact_edges : Bool
  exact_edges = all (exact edge_words edge_in) (rows edge_size (edge_count ws) e_rows)

  abbrev exact_rows : Bool
  exact_rows = exact_vars && (exact_locs && exact_edges)

  abbrev ok_rows : Bool
  ok_rows =
      all var_ok (decode ws).vars && all (λ l. name_ok l.name) (decode ws).locs && distinct_names (decode ws).locs && all (edge_ok (decode ws)) (decode ws).edges

  exactly : counts_size ≤ length ws → begins_with (encode (decode ws)) ws ≡ eq_z (pos (variable_count ws)) (word_at ws variables_place) && (eq_z (pos (location_count ws)) (word_at ws locations_place) && (eq_z (pos (edge_count ws)) (word_at ws edges_place) && exact_rows))
  unfolding encode decode
  exactly h =
      let vs = each var_words (several var_in variable_size (variable_count ws) v_rows) in
      let ls = each loc_words (several loc_in location_size (location_count ws) l_rows) in
      let es = each edge_words (several edge_in edge_size (edge_count ws) e_rows) in
      let nv = vars_count ws in
      let nl = locs_count ws in
      let ne = edges_count ws in
      (λ i. begins_with (pos (nv i) ∷ pos (nl i) ∷ pos (ne i) ∷ (vs ++ (ls ++ es))) ws)
      ∙ begins_three ws h (pos (variable_count ws)) (pos (location_count ws)) (pos (edge_count ws)) (vs ++ (ls ++ es))
      ∙ ap (λ (b : Bool). eq_z (pos (variable_count ws)) (word_at ws variables_place) && (eq_z (pos (location_count ws)) (word_at ws locations_place) && (eq_z (pos (edge_count ws)) (word_at ws edges_place) && b)))
      (begins_rows var_in variable_size var_words (λ r. refl) (variable_count ws) (ls ++ es) v_rows
      ∙ ap (λ (b : Bool). exact_vars && b)
      (begins_rows loc_in location_size loc_words loc_wide (location_count ws) es l_rows
      ∙ ap (λ (b : Bool). exact_locs && b)
      (ap (λ (x : List ℤ). begins_with x e_rows) (sym (append-nil es))
      ∙ begins_rows edge_in edge_size edge_words (λ r. edge_wide (edge_in r) tt) (edge_count ws) [] e_rows
      ∙ and-true exact_edges)))

  -- the counts, the rows' form, and what the rows say
  parts : counts_size ≤ length ws → well_formed ws ≡ counts_fine ws && (exact_rows && ok_rows)
  unfolding well_formed counts_fine chart_ok decode
  parts h =
      let v = variable_count ws in
      let l = location_count ws in
      let e = edge_count ws in
      let c = decode ws in
      rw (
        exactly h,
        vars_count ws,
        locs_count ws,
        edges_count ws,
        said (word_at ws variables_place),
        said (word_at ws locations_place),
        said (word_at ws edges_place),
      )
      (shuffle_chart (non_neg (word_at ws variables_place)) (non_neg (word_at ws locations_place)) (non_neg (word_at ws edges_place)) exact_rows (leb v most_variables) (leb 1 l) (leb l most_locations) (leb e most_edges)
      (all var_ok c.vars) (all (λ l. name_ok l.name) c.locs) (distinct_names c.locs) (all (edge_ok c) c.edges))

every_true : (rs : List (List ℤ)) → all (λ r. true) rs ≡ true
every_true [] = refl
every_true (r ∷ rs) = every_true rs

-- ---- what the code's tests tell

pub no_counts : (ws : List ℤ) → counts_fine ws ≡ false → well_formed ws ≡ false
no_counts ws e = go (leb counts_size (length ws)) refl where
  go : (b : Bool) → leb counts_size (length ws) ≡ b → well_formed ws ≡ false
  go true t = parts ws (leb-true counts_size (length ws) t) ∙ rw e
  go false t = no_room ws (omega (arith, leb-false counts_size (length ws) t))

module _ (ws : List ℤ) (room : edges_at ws + edge_size * edge_count ws ≤ length ws) where
  vars_exact : exact_vars ws ≡ true
  vars_exact = rows_same (exact var_words var_in) (λ r. true) variable_size var_row (variable_count ws) (v_rows ws) (simp length-drop (omega arith)) ∙ every_true (rows variable_size (variable_count ws) (v_rows ws))

  locations_are : exact_locs ws && all (λ l. name_ok l.name) (several loc_in location_size (location_count ws) (l_rows ws)) ≡ all location_fine (rows location_size (location_count ws) (l_rows ws))
  locations_are =
      rw (all_rows loc_in location_size (λ l. name_ok l.name) (location_count ws) (l_rows ws))
      (all_and (exact loc_words loc_in) (λ r. name_ok (loc_in r).name) (rows location_size (location_count ws) (l_rows ws))
      ∙ rows_same (λ r. exact loc_words loc_in r && name_ok (loc_in r).name) location_fine location_size location_row (location_count ws) (l_rows ws) (rw (l_at ws) (simp length-drop (omega arith))))

  edges_are : exact_edges ws && all (edge_ok (decode ws)) (several edge_in edge_size (edge_count ws) (e_rows ws))
      ≡ all (edge_fine (v_rows ws) (variable_count ws) (location_count ws)) (rows edge_size (edge_count ws) (e_rows ws))
  unfolding decode
  edges_are =
      let c = decode ws in
      let row = edge_row c (v_rows ws) (λ k z h. range_words (variable_count ws) k (v_rows ws) z (rw (vars_count ws) at h)) in
      rw (all_rows edge_in edge_size (edge_ok c) (edge_count ws) (e_rows ws))
      (all_and (exact edge_words edge_in) (λ r. edge_ok c (edge_in r)) (rows edge_size (edge_count ws) (e_rows ws))
      ∙ rows_same (λ r. exact edge_words edge_in r && edge_ok c (edge_in r)) (edge_fine (v_rows ws) (length c.vars) (length c.locs)) edge_size row (edge_count ws) (e_rows ws) (rw (e_at ws) (simp length-drop (omega arith)))
      ∙ rw (vars_count ws, locs_count ws))

  pub by_rows : counts_fine ws ≡ true → well_formed ws ≡ rows_fine ws
  unfolding rows_fine decode
  by_rows e =
      let c = decode ws in
      parts ws (omega arith)
      ∙ rw (e, vars_exact)
      (shuffle_rows (exact_locs ws) (exact_edges ws) (all var_ok c.vars) (all (λ l. name_ok l.name) c.locs) (distinct_names c.locs) (all (edge_ok c) c.edges)
      ∙ rw (locations_are, edges_are, e_at ws, l_at ws))
