-- Where the words of an encoded chart stand: those of a variable, of a location and of an edge, with any words after.
-- Assumes nothing.
use Rattle.semantics.proofs.Prelude.{◌≡◌, refl, sym, ap, ◌∙◌, List, [], ◌∷◌, ◌++◌, map, append_assoc, ℕ, zero, suc, ◌+◌, ◌*◌, ◌<◌, mul-suc, arith, T, ℤ, pos, length, length-append, get_or-append, get_or-append-add}
use Rattle.semantics.specs.Layout.{counts_size, variable_size, location_size, edge_size, variable_at, low_place, high_place, init_place, kind_place, error_kind}
use Rattle.semantics.specs.Lists.{At, each}
use Rattle.semantics.specs.Text.{name_ok}
use Rattle.semantics.specs.Chart.{Var, Loc, Edge, Chart, eq_z, within, in_range, error_location, inits}
use Rattle.semantics.specs.declared.Span.{Span}
use Rattle.semantics.specs.Constants.{range_of}
use Rattle.semantics.specs.Tidy.{Every}
use Rattle.semantics.specs.Encoding.{word_at, word, kind_word, var_words, loc_words, edge_words, encode, var_ok, chart_ok, variable_count, location_count}
use Rattle.semantics.proofs.ConstantValues.{in_range_of}
use Rattle.semantics.proofs.StatesOk.{Bounds, bounds}
use Rattle.semantics.proofs.Encoded.{kind_back, each_length, every_of, loc_wide, edge_wide, every_any}
use Rattle.state.specs.Rows.{location_in, row_at}
use Rattle.transfer.specs.Transfer.{range_at, in_range_at, edge_at, error_row, initial_words, initial_row}

pub at_some : {A : Type 0} (xs : List A) (n : ℕ) → n < length xs → (x : A) × At xs n x
at_some [] n h = absurd (omega arith)
at_some (x ∷ xs) zero h = (x, refl)
at_some (x ∷ xs) (suc n) h = at_some xs n (omega arith)

-- things of k words each, one after the other
module _ {A : Type 0} (f : A → List ℤ) (k : ℕ) (Ok : A → Type 0) (wide : (x : A) → Ok x → length (f x) ≡ k) where
  each_at : (xs : List A) (rest : List ℤ) (n : ℕ) (x : A) → Every Ok xs → At xs n x → (i : ℕ) → i < k → word_at (each f xs ++ rest) (k * n + i) ≡ word_at (f x) i
  each_at [] rest n x h a i l = absurd a
  each_at (y ∷ ys) rest zero x h a i l =
      let e : k * 0 + i ≡ i = omega arith in
      let w = wide y h.0 in
      rw (append_assoc (f y) (each f ys) rest, e, get_or-append (f y) (each f ys ++ rest) (pos 0) i (omega arith)) (ap (λ (z : A). word_at (f z) i) a)
  each_at (y ∷ ys) rest (suc n) x h a i l =
      let w = wide y h.0 in
      let e : k * suc n + i ≡ length (f y) + (k * n + i) = omega (arith, mul-suc k n) in
      rw (append_assoc (f y) (each f ys) rest, e, get_or-append-add (f y) (each f ys ++ rest) (k * n + i) (pos 0)) (each_at ys rest n x h.1 a i l)

  each_past : (xs : List A) (rest : List ℤ) (i : ℕ) → Every Ok xs → word_at (each f xs ++ rest) (k * length xs + i) ≡ word_at rest i
  each_past xs rest i h = rw (← each_length f k Ok wide xs h, get_or-append-add (each f xs) rest i (pos 0))

range_of_at : (vars : List Var) (k : ℕ) (v : Var) → At vars k v → range_of vars k ≡ record { low = v.lo; high = v.hi }
range_of_at [] k v a = absurd a
range_of_at (u ∷ us) zero v a = ap (λ (w : Var). record { low = w.lo; high = w.hi }) a
range_of_at (u ∷ us) (suc k) v a = range_of_at us k v a

error_at : (locs : List Loc) (n : ℕ) (l : Loc) → At locs n l → error_location locs n ≡ l.error
error_at [] n l a = absurd a
error_at (m ∷ ms) zero l a = ap (λ (x : Loc). x.error) a
error_at (m ∷ ms) (suc n) l a = error_at ms n l a

-- the variables' initial words
initial_from : (before : List ℤ) (vars : List Var) (rest : List ℤ) (n : ℕ) → n ≡ length before + init_place
    → initial_words (before ++ (each var_words vars ++ rest)) n (length vars) ≡ map word (inits vars)
initial_from before [] rest n e = refl
initial_from before (v ∷ vs) rest n e =
    let here : word_at (before ++ (each var_words (v ∷ vs) ++ rest)) n ≡ word v.init =
    rw (e, get_or-append-add before (each var_words (v ∷ vs) ++ rest) init_place (pos 0)) in
    let again : before ++ (each var_words (v ∷ vs) ++ rest) ≡ (before ++ var_words v) ++ (each var_words vs ++ rest) =
    ap (λ (l : List ℤ). before ++ l) (append_assoc (var_words v) (each var_words vs) rest) ∙ sym (append_assoc before (var_words v) (each var_words vs ++ rest)) in
    let more : initial_words (before ++ (each var_words (v ∷ vs) ++ rest)) (n + variable_size) (length vs) ≡ map word (inits vs) =
    rw again (initial_from (before ++ var_words v) vs rest (n + variable_size) (omega (arith, length-append before (var_words v)))) in
    λ i. here i ∷ more i

module _ (c : Chart) (ok : T (chart_ok c)) (rest : List ℤ) where
  b : Bounds c
  b = bounds c ok

  abbrev ws : List ℤ
  ws = encode c ++ rest

  abbrev after_vars : List ℤ
  after_vars = each loc_words c.locs ++ (each edge_words c.edges ++ rest)

  apart : (each var_words c.vars ++ (each loc_words c.locs ++ each edge_words c.edges)) ++ rest ≡ each var_words c.vars ++ after_vars
  apart =
      append_assoc (each var_words c.vars) (each loc_words c.locs ++ each edge_words c.edges) rest
      ∙ ap (λ (l : List ℤ). each var_words c.vars ++ l) (append_assoc (each loc_words c.locs) (each edge_words c.edges) rest)

  from_counts : (i : ℕ) → word_at ws (counts_size + i) ≡ word_at (each var_words c.vars ++ after_vars) i
  unfolding encode
  from_counts i =
      get_or-append-add (pos (length c.vars) ∷ pos (length c.locs) ∷ pos (length c.edges) ∷ [])
      ((each var_words c.vars ++ (each loc_words c.locs ++ each edge_words c.edges)) ++ rest) i (pos 0)
      ∙ ap (λ (l : List ℤ). word_at l i) apart

  pub var_count : variable_count ws ≡ length c.vars
  unfolding encode
  var_count = refl

  pub loc_count : location_count ws ≡ length c.locs
  unfolding encode
  loc_count = refl

  var_word : (k : ℕ) (v : Var) → At c.vars k v → (i : ℕ) → i < variable_size → word_at ws (counts_size + (variable_size * k + i)) ≡ word_at (var_words v) i
  var_word k v a i l = from_counts (variable_size * k + i) ∙ each_at var_words variable_size (λ v. T (var_ok v)) (λ v t. refl) c.vars after_vars k v (every_of var_ok c.vars b.vars) a i l

  -- a range, and the test of one, by the chart's words
  pub range_of_is : (k : ℕ) → k < length c.vars → range_at ws k ≡ range_of c.vars k
  range_of_is k h =
      let v = at_some c.vars k h in
      let e : variable_at k ≡ counts_size + (variable_size * k + low_place) = omega arith in
      let f : variable_at k + high_place ≡ counts_size + (variable_size * k + high_place) = omega arith in
      let p : word_at ws (variable_at k) ≡ v.0.lo = rw e (var_word k v.0 v.1 low_place (omega arith)) in
      let q : word_at ws (variable_at k + high_place) ≡ v.0.hi = rw f (var_word k v.0 v.1 high_place (omega arith)) in
      (λ i. record { low = p i; high = q i }) ∙ sym (range_of_at c.vars k v.0 v.1)

  pub range_is : (k : ℕ) (z : ℤ) → k < length c.vars → in_range_at ws k z ≡ in_range c.vars k z
  range_is k z h = ap (λ (r : Span). within r.low r.high z) (range_of_is k h) ∙ sym (in_range_of c.vars k z h)

  past_vars : (i : ℕ) → word_at ws (counts_size + (variable_size * length c.vars + i)) ≡ word_at after_vars i
  past_vars i = from_counts (variable_size * length c.vars + i) ∙ each_past var_words variable_size (λ v. T (var_ok v)) (λ v t. refl) c.vars after_vars i (every_of var_ok c.vars b.vars)

  -- the test of an error location by the chart's words
  pub error_is : (e : List ℤ) → location_in e < length c.locs → error_row ws e ≡ error_location c.locs (location_in e)
  unfolding error_row
  error_is e h =
      let n = location_in e in
      let l = at_some c.locs n h in
      let at : counts_size + variable_size * variable_count ws + location_size * n ≡ counts_size + (variable_size * length c.vars + (location_size * n + kind_place)) = omega (arith, var_count) in
      let p : word_at ws (counts_size + variable_size * variable_count ws + location_size * n) ≡ kind_word l.0.error =
      ap (λ (j : ℕ). word_at ws j) at ∙ past_vars (location_size * n + kind_place)
      ∙ each_at loc_words location_size (λ l. T (name_ok l.name)) loc_wide c.locs (each edge_words c.edges ++ rest) n l.0 (every_of (λ l. name_ok l.name) c.locs b.names) l.1 kind_place (omega arith) in
      ap (λ (z : ℤ). eq_z z error_kind) p ∙ kind_back l.0.error ∙ sym (error_at c.locs n l.0 l.1)

  -- the words of an edge
  pub edge_word : (n : ℕ) (g : Edge) → At c.edges n g → (i : ℕ) → i < edge_size → word_at ws (edge_at ws n + i) ≡ word_at (edge_words g) i
  edge_word n g a i l =
      let at : edge_at ws n + i ≡ counts_size + (variable_size * length c.vars + (location_size * length c.locs + (edge_size * n + i))) = omega (arith, var_count, loc_count) in
      ap (λ (j : ℕ). word_at ws j) at ∙ past_vars (location_size * length c.locs + (edge_size * n + i))
      ∙ each_past loc_words location_size (λ l. T (name_ok l.name)) loc_wide c.locs (each edge_words c.edges ++ rest) (edge_size * n + i) (every_of (λ l. name_ok l.name) c.locs b.names)
      ∙ each_at edge_words edge_size (λ g. Unit {0}) edge_wide c.edges rest n g (every_any c.edges) a i l

  pub initial_is : initial_row ws ≡ row_at 0 (map word (inits c.vars))
  unfolding initial_row encode
  initial_is =
      ap (row_at 0) (
      ap (λ (l : List ℤ). initial_words (pos (length c.vars) ∷ pos (length c.locs) ∷ pos (length c.edges) ∷ l) (variable_at 0 + init_place) (length c.vars)) apart
      ∙ initial_from (pos (length c.vars) ∷ pos (length c.locs) ∷ pos (length c.edges) ∷ []) c.vars after_vars (variable_at 0 + init_place) refl
      )
