-- A new name is looked for among the rows that hold the names before it. Assumes nothing.
use Rattle.semantics.proofs.Prelude.{◌≡◌, refl, sym, ap, ◌∙◌, Bool, true, false, ◌&&◌, not, List, [], ◌∷◌, ◌++◌, append_assoc, append-nil, map, ℕ, ◌+◌, ◌-◌, ◌*◌, ◌≤◌, arith, T, length, take, drop, length-append, ℤ, pos, drop-drop, drop_at}
use Rattle.semantics.specs.Lists.{all, each}
use Rattle.semantics.specs.Text.{same_bytes, name_ok}
use Rattle.semantics.specs.Layout.{variable_size, location_size}
use Rattle.semantics.specs.Chart.{Loc, Chart}
use Rattle.semantics.specs.Tidy.{Every}
use Rattle.semantics.specs.Encoding.{var_words, loc_words, edge_words, loc_in, several}
use Rattle.semantics.proofs.Encoded.{each_length, several_back, every_of, every_any, loc_wide, loc_back}
use Rattle.semantics.proofs.Integers.{eq_z_sym}
use Rattle.words.proofs.Rows.{tail}
use Rattle.chart.specs.Encoded.{number_of, name_number}
use Rattle.chart.specs.Rows.{stored, rows_size, the_location}
use Rattle.chart.proofs.Names.{other_name}
use Rattle.chart.proofs.NameNumbers.{numbers_of}
use Rattle.reader.specs.ReadSoFar.{used_words, numbers_at, Rows, as_locations, Names}
use Rattle.reader.specs.declared.draft.Tally.{Tally}
use Rattle.reader.proofs.OneRowMore.{each_none, numbers_kept}

same_sym : (m n : List ℕ) → same_bytes m n ≡ same_bytes n m
same_sym [] [] = refl
same_sym [] (b ∷ n) = refl
same_sym (a ∷ m) [] = refl
same_sym (a ∷ m) (b ∷ n) = rw (eq_z_sym (pos a) (pos b), same_sym m n)

-- the names before the new one are compared with it, or it with them
others : (n : List ℕ) (ls : List Loc) → all (λ m. not (same_bytes n m.name)) ls ≡ all (λ m. not (same_bytes m.name n)) ls
others n [] = refl
others n (m ∷ ls) = rw (same_sym n m.name, others n ls)

-- `pre` stands before the rows of ls, and that of l after them
module _ (pre : List ℤ) (ls : List Loc) (l : Loc) (rest : List ℤ) (named : T (all (λ m. name_ok m.name) ls)) (o : T (name_ok l.name)) where
  abbrev before : List ℤ
  before = pre ++ (each loc_words ls ++ (loc_words l ++ rest))

  every : Every (λ (m : Loc). T (name_ok m.name)) ls
  every = every_of (λ m. name_ok m.name) ls named

  module _ (first n : ℕ) (p : length pre ≡ first) (q : n ≡ length ls) where
    after : drop first before ≡ each loc_words ls ++ (loc_words l ++ rest)
    after = drop_at pre _ first p

    -- the rows say the locations
    rows_say : several loc_in location_size n (drop first before) ≡ ls
    rows_say = rw (after, q) (several_back loc_words loc_in location_size (λ m. T (name_ok m.name)) loc_wide loc_back ls (loc_words l ++ rest) every)

    module _ (at : ℕ) (r : at ≡ first + location_size * n) where
      row_here : loc_in (drop at before) ≡ l
      row_here =
          let k : length (each loc_words ls) ≡ location_size * n = each_length loc_words location_size (λ m. T (name_ok m.name)) loc_wide ls every ∙ omega arith in
          let e : drop at before ≡ loc_words l ++ rest = rw (r, ← drop-drop (location_size * n) first before, after) (drop_at (each loc_words ls) (loc_words l ++ rest) (location_size * n) k) in
          rw e (loc_back l rest o)

      new_among : all (other_name (drop at before)) (several loc_in location_size n (drop first before)) ≡ all (λ m. not (same_bytes m.name l.name)) ls
      new_among = rw rows_say (ap (λ (k : Loc). all (λ m. not (same_bytes k.name m.name)) ls) row_here ∙ others l.name ls)

-- ---- among locations

module _ {t : Tally} {ws : List ℤ} {c : Chart} (h : Rows t ws c) (l : Loc) (none : t.edges ≡ 0) (o : T (name_ok l.name)) (at first : ℕ) (ws' : List ℤ) (w : ws' ≡ stored at (loc_words l) ws) (a : at ≡ used_words t) (f : first ≡ rows_size t.vars 0 0) where
  abbrev vs : List ℤ
  vs = each var_words c.vars

  abbrev rest : List ℤ
  rest = drop (length (loc_words l)) (drop at ws)

  laid : ws' ≡ vs ++ (each loc_words c.locs ++ (loc_words l ++ rest))
  unfolding stored
  laid = w ∙ rw (ap (λ (n : ℕ). take n ws) a ∙ h.rows, each_none edge_words c.edges (omega (arith, h.edges)), append-nil) (append_assoc vs (each loc_words c.locs) (loc_words l ++ rest))

  place : length vs ≡ first
  place = omega (arith, each_length var_words variable_size (λ v. Unit {0}) (λ v t. refl) c.vars (every_any c.vars), h.vars)

  -- the number of its name, the numbers kept, which are those of the rows before it, and whether the name is new
  pub new_location : used_words t + location_size ≤ numbers_at → numbers_at ≤ length ws
      → (name_number (take (length ws' - at) (drop at ws')) ≡ number_of l)
      × (take t.locs (drop numbers_at ws') ≡ several name_number location_size t.locs (take (length ws' - first) (drop first ws')))
      × (all (other_name (take (length ws' - at) (drop at ws'))) (several loc_in location_size t.locs (take (length ws' - first) (drop first ws'))) ≡ all (λ m. not (same_bytes m.name l.name)) c.locs)
  new_location k fits =
      let here = row_here vs c.locs l rest h.named o first t.locs place h.locs at (omega arith) in
      let say : several loc_in location_size t.locs (drop first ws') ≡ c.locs = rw laid (rows_say vs c.locs l rest h.named o first t.locs place h.locs) in
      let new = new_among vs c.locs l rest h.named o first t.locs place h.locs at (omega arith) in (
        rw (tail ws' at, laid) (ap number_of here),
        numbers_kept h a (loc_words l) w (omega (arith, loc_wide l o)) fits ∙ sym (rw (tail ws' first) (numbers_of t.locs (drop first ws') ∙ ap (map number_of) say)),
        rw (tail ws' at, tail ws' first, laid) new,
      )

-- ---- among names of variables

all_locations : (p : Loc → Bool) (ns : List (List ℕ)) → all p (as_locations ns) ≡ all (λ n. p (the_location false n)) ns
all_locations p [] = refl
all_locations p (n ∷ ns) = snoc (as_locations ns) ∙ ap (λ (b : Bool). p (the_location false n) && b) (all_locations p ns) where
  swap : (a b c : Bool) → a && (b && c) ≡ b && (a && c)
  swap true true c = refl
  swap true false c = refl
  swap false true c = refl
  swap false false c = refl

  snoc : (ls : List Loc) → all p (ls ++ (the_location false n ∷ [])) ≡ p (the_location false n) && all p ls
  snoc [] = refl
  snoc (m ∷ ls) = rw (snoc ls) (swap (p m) (p (the_location false n)) (all p ls))

length_locations : (ns : List (List ℕ)) → length (as_locations ns) ≡ length ns
length_locations [] = refl
length_locations (n ∷ ns) = length-append (as_locations ns) (the_location false n ∷ []) ∙ omega (arith, length_locations ns)

module _ {n : ℕ} {ws : List ℤ} {ns : List (List ℕ)} (h : Names n ws ns) (name : List ℕ) (o : T (name_ok name)) where
  pub new_variable : (ws' : List ℤ) → ws' ≡ stored (location_size * n) (loc_words (the_location false name)) ws
      → all (other_name (take (length ws' - location_size * n) (drop (location_size * n) ws'))) (several loc_in location_size n ws') ≡ all (λ m. not (same_bytes m name)) ns
  unfolding stored
  new_variable ws' w =
      let row = loc_words (the_location false name) in
      let rest = drop (length row) (drop (location_size * n) ws) in
      let e : ws' ≡ each loc_words (as_locations ns) ++ (row ++ rest) = w ∙ rw h.rows in
      rw (tail ws' (location_size * n), e)
      (new_among [] (as_locations ns) (the_location false name) rest (rw (all_locations (λ (m : Loc). name_ok m.name) ns) h.named) o 0 n refl (h.count ∙ sym (length_locations ns)) (location_size * n) (omega arith)
      ∙ all_locations (λ (m : Loc). not (same_bytes m.name name)) ns)
