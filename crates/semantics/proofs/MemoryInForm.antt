-- Words in form are those of the exploration that they hold: its states are of the chart, and storing what was loaded
-- changes nothing. Assumes nothing.
use Rattle.semantics.proofs.Prelude.{◌≡◌, refl, sym, ap, ◌∙◌, subst, Bool, true, false, ◌&&◌, ◌||◌, List, [], ◌∷◌, ◌++◌, map, ℕ, zero, suc, ◌+◌, ◌-◌, ◌*◌, ◌≤◌, mul-le-mul_right, arith, T, ltb, leb, eqb, leb→le, ltb→lt, length, take, drop, replicate, take-append-drop, length-drop, length-map, length-take-le, take-take, take-add, ℤ, pos, nat_abs, non_neg, pos-nat_abs}
use Rattle.semantics.specs.Lists.{all, all_of, all_pairs, pick}
use Rattle.semantics.specs.Layout.{most_iterations, top_word, origin_size}
use Rattle.semantics.specs.Chart.{Var, Chart, eq_z, within, top, known}
use Rattle.semantics.specs.Algorithm.{allowed}
use Rattle.semantics.specs.Tidy.{Every}
use Rattle.semantics.specs.Encoding.{word, val, padded}
use Rattle.semantics.specs.Memory.{value_ok, Memory, width, stride, row, tail, slots, table_of, waitlist_of, state_in, states_in, origin_in, origins_in, load, below, row_ok, slot_ok, slots_ok, locations, origins_ok, each_once, zeros, is_alarm, empty_if_safe, capacity_ok, form_tests, analysis_ok}
use Rattle.semantics.specs.Outcomes.{put_in}
use Rattle.semantics.proofs.Bools.{from_true, and_left, and_right}
use Rattle.semantics.proofs.Integers.{eq_z_same}
use Rattle.semantics.proofs.StatesOk.{ValOk, ValsOk, StateOk}

all_each : (bs : List Bool) → T (all_of bs) → Every (λ b. T b) bs
all_each [] t = tt
all_each (b ∷ bs) t = (and_left b (all_of bs) t, all_each bs (and_right b (all_of bs) t))

-- ---- the tests of rule 21, by name

pub record Form (c : Chart) (m : Memory) : Type 0 where
  pub used : T (leb m.analysis.used m.analysis.capacity)
  pub waiting : T (leb m.analysis.waiting m.analysis.used)
  pub rows : T (slots_ok c m.analysis.used m.table)
  pub origins : T (origins_ok c (locations (states_in c m.analysis.used m.table)) 0 (origins_in c m.analysis.used m.table))
  pub slots : T (all (below m.analysis.used) (take m.analysis.waiting m.waitlist))
  pub once : T (each_once (take m.analysis.waiting m.waitlist))
  pub rest : T (zeros (drop (m.analysis.used * stride c) (take (m.analysis.capacity * stride c) m.table)))
  pub free : T (zeros (drop m.analysis.waiting (take m.analysis.capacity m.waitlist)))
  pub iterations : T (leb m.analysis.iterations most_iterations)
  pub edge : T (leb m.analysis.edge.0 (length c.edges))
  pub alarm : T (eqb m.analysis.edge.0 0 || is_alarm m.analysis.verdict)
  pub capacity : T (capacity_ok (pos m.analysis.capacity))
  pub settings : T (allowed m.analysis.settings.merge m.analysis.settings.stop)
  pub verdict : T (empty_if_safe m.analysis.verdict m.analysis.waiting)

pub form : (c : Chart) (m : Memory) → T (analysis_ok c m) → Form c m
unfolding analysis_ok
form c m t =
    let h = all_each (form_tests c m) t in
    let k = h.1.1.1 in
    let i = k.1.1.1.1 in
    record {
      used = h.0;
      waiting = h.1.0;
      rows = h.1.1.0;
      origins = k.0;
      slots = k.1.0;
      once = k.1.1.0;
      rest = k.1.1.1.0;
      free = i.0;
      iterations = i.1.0;
      edge = i.1.1.0;
      alarm = i.1.1.1.0;
      capacity = i.1.1.1.1.0;
      settings = i.1.1.1.1.1.0;
      verdict = i.1.1.1.1.1.1.0;
    }

-- ---- one row

pub word_back : (x : ℤ) → word (val x) ≡ x
word_back x = go (eq_z x top_word) refl
  where
    go : (b : Bool) → eq_z x top_word ≡ b → word (pick b top (known x)) ≡ x
    go true e = sym (eq_z_same x top_word (from_true e))
    go false e = refl

pub words_back : (xs : List ℤ) → map word (map val xs) ≡ xs
words_back [] = refl
words_back (x ∷ xs) = λ i. word_back x i ∷ words_back xs i

pub slots_back : (n : ℕ) (xs : List ℤ) → T (all (below n) xs) → map pos (map nat_abs xs) ≡ xs
slots_back n [] t = refl
slots_back n (x ∷ xs) t =
    let p = pos-nat_abs x (and_left (non_neg x) (ltb (nat_abs x) n) (and_left (below n x) (all (below n) xs) t)) in
    λ i. p i ∷ slots_back n xs (and_right (below n x) (all (below n) xs) t) i

pub zeros_back : (ws : List ℤ) → T (zeros ws) → replicate (length ws) (pos 0) ≡ ws
zeros_back [] t = refl
zeros_back (x ∷ xs) t = let p = eq_z_same (pos 0) x (and_left (eq_z (pos 0) x) (zeros xs) t) in λ i. p i ∷ zeros_back xs (and_right (eq_z (pos 0) x) (zeros xs) t) i

-- a part in use and zeros after it, within the first n words
pub padded_back : (n k : ℕ) (ws : List ℤ) → k ≤ n → n ≤ length ws → T (zeros (drop k (take n ws))) → padded n (take k ws) ≡ take n ws
padded_back n k ws l h z =
    let front : take k (take n ws) ≡ take k ws = take-take k n ws l in
    let ln : length (take n ws) ≡ n = length-take-le n ws h in
    let lk : length (take k ws) ≡ k = length-take-le k ws (omega arith) in
    let gap : n - length (take k ws) ≡ length (drop k (take n ws)) = omega (arith, length-drop k (take n ws)) in
    ap (λ (m : ℕ). take k ws ++ replicate m (pos 0)) gap
    ∙ ap (λ (x : List ℤ). take k ws ++ x) (zeros_back (drop k (take n ws)) z)
    ∙ ap (λ (x : List ℤ). x ++ drop k (take n ws)) (sym front)
    ∙ take-append-drop k (take n ws)

val_ok : (v : Var) (x : ℤ) → T (value_ok v x) → ValOk v (val x)
val_ok v x t = go (eq_z x top_word) t
  where
    go : (b : Bool) → T (b || within v.lo v.hi x) → ValOk v (pick b top (known x))
    go true u = tt
    go false u = u

vals_ok : (vars : List Var) (xs : List ℤ) → T (all_pairs value_ok vars xs) → ValsOk vars (map val xs)
vals_ok [] [] t = tt
vals_ok [] (x ∷ xs) t = absurd t
vals_ok (v ∷ vs) [] t = absurd t
vals_ok (v ∷ vs) (x ∷ xs) t =
    (val_ok v x (and_left (value_ok v x) (all_pairs value_ok vs xs) t), vals_ok vs xs (and_right (value_ok v x) (all_pairs value_ok vs xs) t))

module _ (c : Chart) where
  -- a row in form holds a state of the chart
  pub row_state : (r : List ℤ) → T (row_ok c r) → StateOk c (state_in r)
  row_state [] t = absurd t
  row_state (x ∷ xs) t =
      let q : T (ltb (nat_abs x) (length c.locs)) = search (and_left, and_right) in
      let u : T (all_pairs value_ok c.vars xs) = search (and_left, and_right) in
      record { loc = ltb→lt (nat_abs x) (length c.locs) q; vals = vals_ok c.vars xs u }

  -- of a slot in form its state's words, and its origin's
  pub slot_row : (ws : List ℤ) → T (slot_ok c ws) → T (row_ok c (take (width c) ws))
  slot_row ws t = and_left (row_ok c (take (width c) ws)) (all non_neg (drop (width c) ws)) t

  pub slot_tail : (ws : List ℤ) → T (slot_ok c ws) → T (all non_neg (drop (width c) ws))
  slot_tail ws t = and_right (row_ok c (take (width c) ws)) (all non_neg (drop (width c) ws)) t

  -- the first of several slots in form, and the others
  module _ (n : ℕ) (t : List ℤ) (h : T (slots_ok c (suc n) t)) where
    pub slots_first : T (slot_ok c (take (stride c) t))
    slots_first = and_left (slot_ok c (take (stride c) t)) (slots_ok c n (drop (stride c) t)) h

    pub slots_later : T (slots_ok c n (drop (stride c) t))
    slots_later = and_right (slot_ok c (take (stride c) t)) (slots_ok c n (drop (stride c) t)) h

    pub row_first : T (row_ok c (take (width c) t))
    row_first = subst (λ (ws : List ℤ). T (row_ok c ws)) (take-take (width c) (stride c) t (omega arith)) (slot_row (take (stride c) t) slots_first)

  pub rows_states : (n : ℕ) (t : List ℤ) → T (slots_ok c n t) → Every (StateOk c) (states_in c n t)
  rows_states zero t h = tt
  rows_states (suc n) t h = (row_state (take (width c) t) (row_first n t h), rows_states n (drop (stride c) t) (slots_later n t h))

  pub row_back : (r : List ℤ) → T (row_ok c r) → row (state_in r) ≡ r
  row_back [] t = absurd t
  row_back (x ∷ xs) t =
      let p = pos-nat_abs x (and_left (non_neg x) (ltb (nat_abs x) (length c.locs)) (and_left (below (length c.locs) x) (all_pairs value_ok c.vars xs) t)) in
      λ i. p i ∷ words_back xs i

  pub tail_back : (p : List ℤ) → length p ≡ origin_size → T (all non_neg p) → tail (origin_in p) ≡ p
  tail_back [] l t = absurd (omega arith)
  tail_back (x ∷ []) l t = absurd (omega arith)
  tail_back (x ∷ y ∷ []) l t =
      let p = pos-nat_abs x (and_left (non_neg x) (non_neg y && true) t) in
      let q = pos-nat_abs y (and_left (non_neg y) true (and_right (non_neg x) (non_neg y && true) t)) in
      λ i. p i ∷ q i ∷ []
  tail_back (x ∷ y ∷ z ∷ zs) l t = absurd (omega arith)

  pub slots_again : (n : ℕ) (t : List ℤ) → n * stride c ≤ length t → T (slots_ok c n t) → slots (states_in c n t) (origins_in c n t) ≡ take (n * stride c) t
  slots_again zero t l h = let z : 0 * stride c ≡ 0 = omega arith in rw z
  slots_again (suc n) t l h =
      let k = stride c in
      let ws = take k t in
      let long : length ws ≡ k = length-take-le k t (omega arith) in
      let p = row_back (take (width c) t) (row_first n t h) in
      let s = tail_back (drop (width c) ws) (length-drop (width c) ws ∙ omega arith) (slot_tail ws (slots_first n t h)) in
      let q = slots_again n (drop k t) (omega (arith, length-drop k t)) (slots_later n t h) in
      let front : take (width c) t ≡ take (width c) ws = sym (take-take (width c) k t (omega arith)) in
      let e : suc n * k ≡ k + n * k = omega arith in
      (λ i. (p i ++ s i) ++ q i)
      ∙ ap (λ (r : List ℤ). (r ++ drop (width c) ws) ++ take (n * k) (drop k t)) front
      ∙ ap (λ (r : List ℤ). r ++ take (n * k) (drop k t)) (take-append-drop (width c) ws)
      ∙ sym (take-add k (n * k) t) ∙ ap (λ (m : ℕ). take m t) (sym e)

  pub states_count : (n : ℕ) (t : List ℤ) → length (states_in c n t) ≡ n
  states_count zero t = refl
  states_count (suc n) t = ap suc (states_count n (drop (stride c) t))

  pub origins_count : (n : ℕ) (t : List ℤ) → length (origins_in c n t) ≡ n
  origins_count zero t = refl
  origins_count (suc n) t = ap suc (origins_count n (drop (stride c) t))

  -- storing what was loaded changes nothing
  pub put_load : (m : Memory) → m.analysis.capacity * stride c ≤ length m.table → m.analysis.capacity ≤ length m.waitlist → T (analysis_ok c m) → put_in c (load c m) m ≡ m
  unfolding load
  put_load m lt ll t =
      let r = m.analysis in
      let f = form c m t in
      let used = leb→le r.used r.capacity f.used in
      let waits = leb→le r.waiting r.used f.waiting in
      let k = stride c in
      let ne : length (states_in c r.used m.table) ≡ r.used = states_count r.used m.table in
      let tw : length (take r.waiting m.waitlist) ≡ r.waiting = length-take-le r.waiting m.waitlist (omega arith) in
      let nw : length (map nat_abs (take r.waiting m.waitlist)) ≡ r.waiting = length-map (take r.waiting m.waitlist) nat_abs ∙ tw in
      let p : table_of c (load c m) ≡ take (r.capacity * k) m.table =
      ap (padded (r.capacity * k)) (slots_again r.used m.table (omega (arith, mul-le-mul_right k used)) f.rows) ∙ padded_back (r.capacity * k) (r.used * k) m.table (mul-le-mul_right k used) lt f.rest in
      let q : waitlist_of (load c m) ≡ take r.capacity m.waitlist =
      ap (padded r.capacity) (slots_back r.used (take r.waiting m.waitlist) f.slots) ∙ padded_back r.capacity r.waiting m.waitlist (omega arith) ll f.free in
      let pt = ap (λ (x : List ℤ). x ++ drop (r.capacity * k) m.table) p ∙ take-append-drop (r.capacity * k) m.table in
      let pl = ap (λ (x : List ℤ). x ++ drop r.capacity m.waitlist) q ∙ take-append-drop r.capacity m.waitlist in
      λ i. record { table = pt i; waitlist = pl i; analysis = record { settings = r.settings; capacity = r.capacity; iterations = r.iterations; used = ne i; waiting = nw i; verdict = r.verdict; edge = r.edge } }
