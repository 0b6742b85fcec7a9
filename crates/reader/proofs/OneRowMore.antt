-- The rows and the names after one more variable, location or edge. Assumes nothing.
use Rattle.semantics.proofs.Prelude.{◌≡◌, refl, sym, ap, ◌∙◌, false, List, [], ◌∷◌, ◌++◌, append_assoc, append-nil, map, map-append, ℕ, zero, suc, ◌+◌, ◌*◌, ◌≤◌, ◌<◌, add-one, arith, T, length, take, drop, set, length-append, length-drop, take-suc-set, take-append-drop, get_or-append-add, ℤ, pos}
use lib.Seq.{take-set-le, drop-set-add}
use Rattle.semantics.specs.Lists.{all, each}
use Rattle.semantics.specs.Text.{name_ok}
use Rattle.semantics.specs.Layout.{variable_size, location_size, edge_size, high_place}
use Rattle.semantics.specs.Chart.{Var, Loc, Edge, Chart, in_range}
use Rattle.semantics.specs.Encoding.{var_words, loc_words, edge_words}
use Rattle.semantics.specs.Reading.{SoFar, with_var, with_loc, with_edge}
use Rattle.semantics.proofs.Bools.{both_true}
use Rattle.semantics.proofs.ReadInBounds.{all_snoc}
use Rattle.semantics.proofs.Encoded.{loc_wide, edge_wide}
use Rattle.chart.specs.Encoded.{ranged, number_of}
use Rattle.chart.specs.Rows.{stored, rows_size, the_location}
use Rattle.chart.proofs.Storing.{stored_take, stored_past}
use Rattle.reader.specs.ReadSoFar.{chart_rows, used_words, numbers_at, Rows, as_locations, Names}
use Rattle.reader.specs.declared.draft.Tally.{Tally}

module _ {A : Type 0} (f : A → List ℤ) where
  each_snoc : (xs : List A) (x : A) → each f (xs ++ (x ∷ [])) ≡ each f xs ++ f x
  each_snoc [] x = append-nil (f x)
  each_snoc (y ∷ ys) x = rw (each_snoc ys x) (sym (append_assoc (f y) (each f ys) (f x)))

  pub each_none : (xs : List A) → 0 ≡ length xs → each f xs ≡ []
  each_none [] e = refl
  each_none (x ∷ xs) e = absurd (omega arith)

length_snoc : {A : Type 0} (xs : List A) (x : A) → length (xs ++ (x ∷ [])) ≡ length xs + 1
length_snoc xs x = length-append xs (x ∷ [])

-- what is stored at the end of the rows
rows_more : {t : Tally} {ws ws' : List ℤ} {c : Chart} {at : ℕ} → Rows t ws c → at ≡ used_words t → (row : List ℤ) → ws' ≡ stored at row ws → used_words t + length row ≤ length ws → (n : ℕ) → n ≡ used_words t + length row → take n ws' ≡ chart_rows c ++ row
rows_more {t} {ws} h a row w fits n e = rw (w, a, e) (stored_take (used_words t) row ws fits ∙ ap (λ (l : List ℤ). l ++ row) h.rows)

-- it does not reach the numbers
pub numbers_kept : {t : Tally} {ws ws' : List ℤ} {c : Chart} {at : ℕ} → Rows t ws c → at ≡ used_words t → (row : List ℤ) → ws' ≡ stored at row ws → used_words t + length row ≤ numbers_at → numbers_at ≤ length ws → take t.locs (drop numbers_at ws') ≡ map number_of c.locs
numbers_kept {t} {ws} h a row w k fits = rw (w, a, stored_past (used_words t) row ws (omega arith) numbers_at k) h.numbers

-- ---- the rows

module _ {t : Tally} {ws ws' : List ℤ} {at : ℕ} (s : SoFar) (h : Rows t ws s.chart) (a : at ≡ used_words t) where
  pub rows_var : (name : List ℕ) (v : Var) → ws' ≡ stored at (var_words v) ws → t.locs ≡ 0 → t.edges ≡ 0 → used_words t + variable_size ≤ numbers_at → numbers_at ≤ length ws
      → Rows (record { vars = t.vars + 1; locs = t.locs; edges = t.edges }) ws' (with_var s name v).chart
  rows_var name v w l g few room =
      let fits : used_words t + variable_size ≤ length ws = omega arith in
      record {
        vars = omega (arith, h.vars, length_snoc s.chart.vars v);
        locs = h.locs;
        edges = h.edges;
        rows =
            rows_more h a (var_words v) w fits (rows_size (t.vars + 1) t.locs t.edges) (omega arith)
            ∙ rw (each_none loc_words s.chart.locs (omega (arith, h.locs)), each_none edge_words s.chart.edges (omega (arith, h.edges)), each_snoc var_words s.chart.vars v) (simp append-nil);
        numbers = numbers_kept h a (var_words v) w (omega arith) room;
        named = h.named;
      }

  -- the number of its name is stored too
  pub rows_loc : (l : Loc) → ws' ≡ stored at (loc_words l) ws → T (name_ok l.name) → t.edges ≡ 0 → {z : ℤ} → z ≡ number_of l → (used_words t + location_size ≤ numbers_at) × (numbers_at ≤ length ws) × (numbers_at + t.locs < length ws')
      → Rows (record { vars = t.vars; locs = t.locs + 1; edges = t.edges }) (set ws' (numbers_at + t.locs) z) (with_loc s l).chart
  rows_loc l w o g {z} e fits =
      let n = loc_wide l o in
      record {
        vars = h.vars;
        locs = omega (arith, h.locs, length_snoc s.chart.locs l);
        edges = h.edges;
        rows =
            take-set-le (rows_size t.vars (t.locs + 1) t.edges) ws' (numbers_at + t.locs) z (omega arith)
            ∙ rows_more h a (loc_words l) w (omega arith) (rows_size t.vars (t.locs + 1) t.edges) (omega arith)
            ∙ rw (each_none edge_words s.chart.edges (omega (arith, h.edges)), each_snoc loc_words s.chart.locs l) (simp (append-nil, append_assoc));
        numbers =
            rw (drop-set-add numbers_at ws' t.locs z, add-one t.locs, take-suc-set (drop numbers_at ws') t.locs z (simp length-drop (omega arith)), e, numbers_kept h a (loc_words l) w (omega arith) (omega arith))
            (sym (map-append number_of s.chart.locs (l ∷ [])));
        named = all_snoc (λ (m : Loc). name_ok m.name) s.chart.locs l h.named o;
      }

  pub rows_edge : (g : Edge) → ws' ≡ stored at (edge_words g) ws → (used_words t + edge_size ≤ numbers_at) × (numbers_at ≤ length ws)
      → Rows (record { vars = t.vars; locs = t.locs; edges = t.edges + 1 }) ws' (with_edge s g).chart
  rows_edge g w fits =
      let n = edge_wide g tt in
      record {
        vars = h.vars;
        locs = h.locs;
        edges = omega (arith, h.edges, length_snoc s.chart.edges g);
        rows = rows_more h a (edge_words g) w (omega arith) (rows_size t.vars t.locs (t.edges + 1)) (omega arith) ∙ rw (each_snoc edge_words s.chart.edges g) (simp append_assoc);
        numbers = numbers_kept h a (edge_words g) w (omega arith) (omega arith);
        named = h.named;
      }

pub names_more : {n : ℕ} {ws ws' : List ℤ} {ns : List (List ℕ)} (name : List ℕ) → Names n ws ns → ws' ≡ stored (location_size * n) (loc_words (the_location false name)) ws → T (name_ok name) → location_size * n + location_size ≤ length ws → Names (n + 1) ws' (name ∷ ns)
names_more {n} {ws} {ns = ns} name h w o fits =
    let row = loc_words (the_location false name) in
    let k = loc_wide (the_location false name) o in
    let j : location_size * (n + 1) ≡ location_size * n + length row = omega arith in
    record {
      count = omega (arith, h.count);
      rows = rw (w, j) (stored_take (location_size * n) row ws (omega arith) ∙ rw (h.rows, each_snoc loc_words (as_locations ns) (the_location false name)));
      named = both_true (name_ok name) (all name_ok ns) o h.named;
    }

-- ---- what the code reads back

ranges : (vs : List Var) (rest : List ℤ) (k : ℕ) (z : ℤ) → k < length vs → ranged (each var_words vs ++ rest) k z ≡ in_range vs k z
unfolding ranged
ranges [] rest k z h = absurd (omega arith)
ranges (v ∷ vs) rest zero z h = refl
ranges (v ∷ vs) rest (suc k) z h =
    let e : variable_size * suc k ≡ variable_size + variable_size * k = omega arith in
    let d : variable_size * suc k + high_place ≡ variable_size + (variable_size * k + high_place) = omega arith in
    let past = get_or-append-add (var_words v) (each var_words vs ++ rest) in
    rw (d, e, past (variable_size * k) (pos 0), past (variable_size * k + high_place) (pos 0)) (ranges vs rest k z (omega arith))

pub range_held : {t : Tally} {ws : List ℤ} {c : Chart} → Rows t ws c → (k : ℕ) (z : ℤ) → k < t.vars → ranged ws k z ≡ in_range c.vars k z
range_held {t} {ws} {c} h k z l =
    let e : ws ≡ each var_words c.vars ++ ((each loc_words c.locs ++ each edge_words c.edges) ++ drop (used_words t) ws)
    = sym (take-append-drop (used_words t) ws) ∙ rw h.rows (append_assoc (each var_words c.vars) (each loc_words c.locs ++ each edge_words c.edges) (drop (used_words t) ws)) in
    ap (λ (w : List ℤ). ranged w k z) e ∙ ranges c.vars _ k z (omega (arith, h.vars))
