-- The merge of all slots as the rules say it; and after merge join, the test against the join of the slots is the
-- test against one slot. Assumes nothing.
use Rattle.semantics.proofs.Prelude.{◌≡◌, refl, sym, ap, subst, ◌∙◌, Bool, true, false, ◌&&◌, or-true, List, [], ◌∷◌, map, ℕ, suc, ◌<◌, arith, T, ℤ, length}
use Rattle.semantics.specs.declared.Mode.{Mode}
use Rattle.semantics.specs.declared.Mode.TheVariants.{Sep, Join}
use Rattle.semantics.specs.Layout.{top_word}
use Rattle.semantics.specs.Chart.{eq_z}
use Rattle.semantics.specs.Lists.{pick, some_of}
use Rattle.semantics.specs.Algorithm.{wait, wait_all, changed, merged, of_place, leq_joined, stopped, allowed}
use Rattle.semantics.specs.Tidy.{Every}
use Rattle.semantics.proofs.Bools.{left_true, right_true}
use Rattle.words.proofs.Words.{eq_z_true}
use Rattle.state.specs.Rows.{values_of, word_leq, word_join, words_leq, words_join, same_words, same_place, row_leq, row_join, row_merge, join_of}
use Rattle.state.proofs.RowLoops.{length_words_join}
use Rattle.reached.specs.Reached.{rewaits}
use Rattle.reached.proofs.Table.{Sized}
use Rattle.progress.specs.Progress.{rows_only}

-- ---- the slots that wait again

pub rewaits_all : (e : List ℤ) (i : ℕ) (en : List (List ℤ)) (wa : List ℕ) → rewaits e i en wa ≡ wait_all (changed rows_only e i en) wa
rewaits_all e i [] wa = refl
rewaits_all e i (x ∷ xs) wa = go (same_words (row_merge e x) x) (rewaits_all e (suc i) xs)
  where
    go : (b : Bool) → ((v : List ℕ) → rewaits e (suc i) xs v ≡ wait_all (changed rows_only e (suc i) xs) v)
        → rewaits e (suc i) xs (pick b wa (wait i wa)) ≡ wait_all (pick b (changed rows_only e (suc i) xs) (i ∷ (changed rows_only e (suc i) xs))) wa
    go true ih = ih wa
    go false ih = ih (wait i wa)

-- ---- a successor lies under the slots that it was joined into, and under their join

word_new : (x y : ℤ) → word_leq x (word_join x y) ≡ true
word_new x y = go (eq_z x y) refl
  where
    go : (b : Bool) → eq_z x y ≡ b → word_leq x (pick b y top_word) ≡ true
    go true e = rw e (or-true (eq_z y top_word))
    go false e = refl

word_more : (x a b : ℤ) → word_leq x a ≡ true → word_leq x (word_join a b) ≡ true
word_more x a b h = go (eq_z a b) refl
  where
    go : (t : Bool) → eq_z a b ≡ t → word_leq x (pick t b top_word) ≡ true
    go true e = subst (λ (z : ℤ). word_leq x z ≡ true) (eq_z_true a b e) h
    go false e = refl

words_new : (e s : List ℤ) → length s ≡ length e → words_leq e (words_join e s) ≡ true
words_new [] [] l = refl
words_new [] (y ∷ s) l = absurd (omega arith)
words_new (x ∷ e) [] l = absurd (omega arith)
words_new (x ∷ e) (y ∷ s) l = rw (word_new x y, words_new e s (omega arith))

words_more : (e a b : List ℤ) → length a ≡ length e → length b ≡ length e → words_leq e a ≡ true → words_leq e (words_join a b) ≡ true
words_more [] [] [] l m h = refl
words_more [] [] (z ∷ b) l m h = absurd (omega arith)
words_more [] (y ∷ a) b l m h = absurd (omega arith)
words_more (x ∷ e) [] b l m h = absurd (omega arith)
words_more (x ∷ e) (y ∷ a) [] l m h = absurd (omega arith)
words_more (x ∷ e) (y ∷ a) (z ∷ b) l m h =
    rw (word_more x y z (left_true (word_leq x y) (words_leq e a) h), words_more e a b (omega arith) (omega arith) (right_true (word_leq x y) (words_leq e a) h))

-- a row as long as e, of e's place, that e lies under
record Above (e z : List ℤ) : Type 0 where
  len : length z ≡ length e
  place : same_place e z ≡ true
  under : row_leq e z ≡ true

above_new : (e x : List ℤ) → 0 < length e → length x ≡ length e → same_place e x ≡ true → Above e (row_join e x)
above_new [] x n l p = absurd (omega arith)
above_new (a ∷ e) [] n l p = absurd (omega arith)
above_new (a ∷ e) (b ∷ x) n l p = record { len = ap suc (length_words_join e x) ∙ l; place = p; under = rw p (words_new e x (omega arith)) }

above_more : (e x y : List ℤ) → 0 < length e → Above e x → Above e y → Above e (row_join x y)
above_more [] x y n g h = absurd (omega arith)
above_more (a ∷ e) [] y n g h = absurd (omega (arith, g.len))
above_more (a ∷ e) (b ∷ x) [] n g h = absurd (omega (arith, h.len))
above_more (a ∷ e) (b ∷ x) (c ∷ y) n g h = record {
  len = ap suc (length_words_join x y) ∙ h.len;
  place = h.place;
  under = rw h.place (words_more e x y (omega (arith, g.len)) (omega (arith, h.len)) (right_true (eq_z a b) (words_leq e x) g.under));
}

under_join : (e x : List ℤ) (xs : List (List ℤ)) → 0 < length e → Above e x → Every (Above e) xs → row_leq e (join_of x xs) ≡ true
under_join e x [] n g h = g.under
under_join e x (y ∷ ys) n g h = under_join e (row_join x y) ys n (above_more e x y n g h.0) h.1

-- the slots of e's place after the merge are all above e
place_above : (e : List ℤ) (en : List (List ℤ)) → 0 < length e → Sized (length e) en → Every (Above e) (of_place rows_only e (map (row_merge e) en))
place_above e [] n z = tt
place_above e (x ∷ xs) n z = go (same_place e x) refl (place_above e xs n z.1)
  where
    go : (b : Bool) → same_place e x ≡ b → Every (Above e) (of_place rows_only e (map (row_merge e) xs))
        → Every (Above e) (pick (same_place e (pick b (row_join e x) x)) ((pick b (row_join e x) x) ∷ (of_place rows_only e (map (row_merge e) xs))) (of_place rows_only e (map (row_merge e) xs)))
    go true p ih = let g = above_new e x n z.0 p in rw g.place (g, ih)
    go false p ih = rw p ih

some_by : (e x : List ℤ) (xs : List (List ℤ)) (b : Bool) → row_leq e x ≡ b
    → some_of (row_leq e) (x ∷ xs) ≡ elim b [ true ↦ true | false ↦ some_of (row_leq e) xs ]
some_by e x xs b h = ap (λ (t : Bool). elim t [ true ↦ true | false ↦ some_of (row_leq e) xs ]) h

join_some : (e : List ℤ) (en : List (List ℤ)) → 0 < length e → Sized (length e) en
    → leq_joined rows_only e (of_place rows_only e (map (row_merge e) en)) ≡ some_of (row_leq e) (map (row_merge e) en)
join_some e [] n z = refl
join_some e (x ∷ xs) n z = go (same_place e x) refl (join_some e xs n z.1) (place_above e xs n z.1)
  where
    go : (b : Bool) → same_place e x ≡ b → leq_joined rows_only e (of_place rows_only e (map (row_merge e) xs)) ≡ some_of (row_leq e) (map (row_merge e) xs)
        → Every (Above e) (of_place rows_only e (map (row_merge e) xs))
        → leq_joined rows_only e (pick (same_place e (pick b (row_join e x) x)) ((pick b (row_join e x) x) ∷ (of_place rows_only e (map (row_merge e) xs))) (of_place rows_only e (map (row_merge e) xs)))
        ≡ some_of (row_leq e) (pick b (row_join e x) x ∷ map (row_merge e) xs)
    go true p ih above =
        let g = above_new e x n z.0 p in
        rw g.place (under_join e (row_join e x) (of_place rows_only e (map (row_merge e) xs)) n g above
        ∙ sym (some_by e (row_join e x) (map (row_merge e) xs) true g.under))
    go false p ih above =
        let u : row_leq e x ≡ false = ap (λ (b : Bool). b && words_leq (values_of e) (values_of x)) p in
        rw p (ih ∙ sym (some_by e x (map (row_merge e) xs) false u))

pub stop_same : (m s : Mode) (e : List ℤ) (en : List (List ℤ)) → T (allowed m s) → 0 < length e → Sized (length e) en
    → stopped rows_only s e (merged rows_only m e en) ≡ some_of (row_leq e) (merged rows_only m e en)
stop_same Sep Sep e en a n z = refl
stop_same Sep Join e en a n z = absurd a
stop_same Join Sep e en a n z = refl
stop_same Join Join e en a n z = join_some e en n z
