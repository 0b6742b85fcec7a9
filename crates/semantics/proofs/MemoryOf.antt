-- An exploration stored in words, with any words after, is read back and is in form. Assumes nothing.
use Rattle.semantics.proofs.Prelude.{◌≡◌, refl, sym, ap, ◌∙◌, subst, inl, inr, Bool, true, false, ◌&&◌, ◌||◌, not, List, [], ◌∷◌, ◌++◌, map, append_assoc, ℕ, zero, suc, ◌+◌, ◌-◌, ◌*◌, ◌≤◌, ◌<◌, mul-le-mul_right, arith, T, ltb, eqb, leb→le, le→leb, lt→ltb, length, take, drop, replicate, length-append, length-map, length-replicate, take_at, drop_at, ℤ, pos, negsuc, nat_abs, le_z, ne_eqb, not_T, eqb-true, eqb-suc-zero, non_neg}
use Rattle.semantics.specs.Lists.{In, some_of, all, all_of, all_pairs, pick}
use Rattle.semantics.specs.Layout.{most_iterations, most_slots, most_number, top_word, origin_size}
use Rattle.semantics.specs.Chart.{Value, known, top, Var, Chart, eq_z, within, small}
use Rattle.semantics.specs.Algorithm.{Verdict, Open, Safe, Alarm, Full, Origin, Exploration}
use Rattle.semantics.specs.Constants.{AbstractState, Covers, constants}
use Rattle.semantics.specs.Coverage.{system}
use Rattle.semantics.specs.Laws.{Fit}
use Rattle.semantics.specs.Tidy.{Every, Distinct, Tidy}
use Rattle.semantics.specs.Encoding.{word, val, padded, var_ok}
use Rattle.semantics.specs.Memory.{Memory, width, stride, row, tail, slots, table_of, waitlist_of, analysis_of, state_in, states_in, origin_in, origins_in, load, value_ok, below, row_ok, slot_ok, slots_ok, locations, origins_ok, each_once, zeros, is_alarm, empty_if_safe, capacity_ok, form_tests, analysis_ok}
use Rattle.semantics.proofs.AtAndIn.{clash}
use Rattle.semantics.proofs.Bools.{and_left, and_right, both_true, or_right}
use Rattle.semantics.proofs.Covering.{Sound}
use Rattle.semantics.proofs.ConstantsSound.{laws}
use Rattle.semantics.proofs.Tidy.{queue_few}
use Rattle.semantics.proofs.StatesOk.{ValOk, ValsOk, StateOk, Bounds}
use Rattle.semantics.proofs.PathHolds.{PathKept}

-- ---- tests

-- a capacity that 11 lets pass is a number from 1 to 256
pub record Counted (z : ℤ) : Type 0 where
  pub sign : T (non_neg z)
  pub some : 1 ≤ nat_abs z
  pub few : nat_abs z ≤ most_slots

pub counted : (z : ℤ) → T (capacity_ok z) → Counted z
counted (pos n) t = record { sign = tt; some = leb→le 1 n (search (and_left)); few = leb→le n most_slots (search (and_right)) }
counted (negsuc n) t = absurd t

all_true : (bs : List Bool) → Every (λ b. T b) bs → T (all_of bs)
all_true [] h = tt
all_true (b ∷ bs) h = both_true b (all_of bs) h.0 (all_true bs h.1)

-- ---- one value and one row

pub not_top : (z hi : ℤ) → T (le_z z hi) → T (le_z hi most_number) → eq_z z top_word ≡ false
not_top (pos z) (pos hi) a b = ne_eqb z (nat_abs top_word) (λ e. let q = leb→le z hi a in let r = leb→le hi (nat_abs most_number) b in omega arith)
not_top (pos z) (negsuc hi) a b = absurd a
not_top (negsuc z) hi a b = refl

-- a number that a file can hold is not the word for top
pub small_not_top : (z : ℤ) → T (small z) → eq_z z top_word ≡ false
small_not_top z t = not_top z most_number (search (and_left, and_right)) tt

-- nor is one in a variable's range
pub known_not_top : (v : Var) (z : ℤ) → T (var_ok v) → ValOk v (known z) → eq_z z top_word ≡ false
known_not_top v z t h =
    let p : T (le_z z v.hi) = search (and_left, and_right) in
    let q : T (le_z v.hi most_number) = search (and_left, and_right) depth 8 in
    not_top z v.hi p q

val_back : (v : Var) (x : Value) → T (var_ok v) → ValOk v x → val (word x) ≡ x
val_back v (known z) t h = ap (λ (b : Bool). pick b top (known z)) (known_not_top v z t h)
val_back v top t h = refl

vals_back : (vars : List Var) (xs : List Value) → T (all var_ok vars) → ValsOk vars xs → map val (map word xs) ≡ xs
vals_back [] [] t h = refl
vals_back [] (x ∷ xs) t h = absurd h
vals_back (v ∷ vs) [] t h = absurd h
vals_back (v ∷ vs) (x ∷ xs) t h = rw (val_back v x (and_left (var_ok v) (all var_ok vs) t) h.0, vals_back vs xs (and_right (var_ok v) (all var_ok vs) t) h.1)

pub vals_length : (vars : List Var) (xs : List Value) → ValsOk vars xs → length xs ≡ length vars
vals_length [] [] h = refl
vals_length [] (x ∷ xs) h = absurd h
vals_length (v ∷ vs) [] h = absurd h
vals_length (v ∷ vs) (x ∷ xs) h = ap suc (vals_length vs xs h.1)

vals_formed : (vars : List Var) (xs : List Value) → ValsOk vars xs → T (all_pairs value_ok vars (map word xs))
vals_formed [] [] h = tt
vals_formed [] (x ∷ xs) h = absurd h
vals_formed (v ∷ vs) [] h = absurd h
vals_formed (v ∷ vs) (x ∷ xs) h = both_true (value_ok v (word x)) (all_pairs value_ok vs (map word xs)) (one x h.0) (vals_formed vs xs h.1)
  where
    one : (x : Value) → ValOk v x → T (value_ok v (word x))
    one (known z) q = or_right (eq_z z top_word) (within v.lo v.hi z) q
    one top q = tt

-- ---- lists of words

pub map_back : (wa : List ℕ) → map nat_abs (map pos wa) ≡ wa
map_back [] = refl
map_back (x ∷ xs) = ap (λ (l : List ℕ). x ∷ l) (map_back xs)

pub padded_length : (n : ℕ) (ws : List ℤ) → length ws ≤ n → length (padded n ws) ≡ n
padded_length n ws l = length-append ws (replicate (n - length ws) (pos 0)) ∙ simp length-replicate (omega arith)

zeros_zeros : (n : ℕ) → T (zeros (replicate n (pos 0)))
zeros_zeros zero = tt
zeros_zeros (suc n) = zeros_zeros n

-- past what was stored, the words of the capacity hold 0
pub padded_zeros : (n : ℕ) (ws : List ℤ) (k : ℕ) → length ws ≡ k → T (zeros (drop k (padded n ws)))
padded_zeros n ws k l = rw (drop_at ws (replicate (n - length ws) (pos 0)) k l) (zeros_zeros (n - length ws))

below_all : (n : ℕ) (wa : List ℕ) → ((j : ℕ) → In j wa → j < n) → T (all (below n) (map pos wa))
below_all n [] h = tt
below_all n (x ∷ xs) h = both_true (ltb x n) (all (below n) (map pos xs)) (lt→ltb x n (h x (inl refl))) (below_all n xs (λ j i. h j (inr i)))

in_words : (x : ℕ) (xs : List ℕ) → T (some_of (eq_z (pos x)) (map pos xs)) → In x xs
in_words x [] t = t
in_words x (y ∷ ys) t = go (eqb x y) refl t (in_words x ys)
  where
    go : (b : Bool) → eqb x y ≡ b → T (elim b [ true ↦ true | false ↦ some_of (eq_z (pos x)) (map pos ys) ]) → (T (some_of (eq_z (pos x)) (map pos ys)) → In x ys) → In x (y ∷ ys)
    go true e t ih = inl (eqb-true x y e)
    go false e t ih = inr (ih t)

once_all : (wa : List ℕ) → Distinct wa → T (each_once (map pos wa))
once_all [] d = tt
once_all (x ∷ xs) d = both_true (not (some_of (eq_z (pos x)) (map pos xs))) (each_once (map pos xs)) (not_T (some_of (eq_z (pos x)) (map pos xs)) (λ t. d.0 (in_words x xs t))) (once_all xs d.1)

module _ (c : Chart) where
  row_length : (e : AbstractState) → StateOk c e → length (row e) ≡ width c
  row_length e h = ap suc (length-map e.vals word ∙ vals_length c.vars e.vals h.vals)

  slot_length : (e : AbstractState) (o : Origin) → StateOk c e → length (row e ++ tail o) ≡ stride c
  slot_length e o h = length-append (row e) (tail o) ∙ ap (λ (n : ℕ). n + origin_size) (row_length e h)

  slots_length : (es : List AbstractState) (os : List Origin) → length os ≡ length es → Every (StateOk c) es → length (slots es os) ≡ length es * stride c
  slots_length [] os l h = omega arith
  slots_length (e ∷ es) [] l h = absurd (omega arith)
  slots_length (e ∷ es) (o ∷ os) l h = omega (arith, length-append (row e ++ tail o) (slots es os), slots_length es os (omega arith) h.1, slot_length e o h.0)

  state_back : (b : Bounds c) (e : AbstractState) → StateOk c e → state_in (row e) ≡ e
  state_back b e h = ap (λ (vs : List Value). record { loc = e.loc; vals = vs }) (vals_back c.vars e.vals b.vars h.vals)

  -- a slot of the words r of a state and p of an origin, before others
  module _ (r p rest : List ℤ) (lr : length r ≡ width c) (lp : length p ≡ origin_size) where
    long : length (r ++ p) ≡ stride c
    long = length-append r p ∙ (λ i. lr i + lp i)

    after_slot : drop (stride c) ((r ++ p) ++ rest) ≡ rest
    after_slot = drop_at (r ++ p) rest (stride c) long

    front_slot : take (stride c) ((r ++ p) ++ rest) ≡ r ++ p
    front_slot = take_at (r ++ p) rest (stride c) long

    first_state : (n : ℕ) → states_in c (suc n) ((r ++ p) ++ rest) ≡ state_in r ∷ states_in c n rest
    first_state n = λ i. state_in ((ap (take (width c)) (append_assoc r p rest) ∙ take_at r (p ++ rest) (width c) lr) i) ∷ states_in c n (after_slot i)

    first_origin : (n : ℕ) → origins_in c (suc n) ((r ++ p) ++ rest) ≡ origin_in p ∷ origins_in c n rest
    first_origin n = λ i. origin_in ((ap (drop (width c)) front_slot ∙ drop_at r p (width c) lr) i) ∷ origins_in c n (after_slot i)

    first_formed : (n : ℕ) → T (row_ok c r) → T (all non_neg p) → T (slots_ok c n rest) → T (slots_ok c (suc n) ((r ++ p) ++ rest))
    first_formed n t q u =
        let slot : T (slot_ok c (r ++ p)) = subst T (λ i. row_ok c (sym (take_at r p (width c) lr) i) && all non_neg (sym (drop_at r p (width c) lr) i)) (both_true (row_ok c r) (all non_neg p) t q) in
        subst T (λ i. slot_ok c (sym front_slot i) && slots_ok c n (sym after_slot i)) (both_true (slot_ok c (r ++ p)) (slots_ok c n rest) slot u)

  states_back : (b : Bounds c) (es : List AbstractState) (os : List Origin) (rest : List ℤ) → length os ≡ length es → Every (StateOk c) es → states_in c (length es) (slots es os ++ rest) ≡ es
  states_back b [] os rest l h = refl
  states_back b (e ∷ es) [] rest l h = absurd (omega arith)
  states_back b (e ∷ es) (o ∷ os) rest l h =
      ap (states_in c (suc (length es))) (append_assoc (row e ++ tail o) (slots es os) rest)
      ∙ first_state (row e) (tail o) (slots es os ++ rest) (row_length e h.0) refl (length es)
      ∙ rw (state_back b e h.0, states_back b es os rest (omega arith) h.1)

  origins_back : (es : List AbstractState) (os : List Origin) (rest : List ℤ) → length os ≡ length es → Every (StateOk c) es → origins_in c (length es) (slots es os ++ rest) ≡ os
  origins_back [] [] rest l h = refl
  origins_back [] (o ∷ os) rest l h = absurd (omega arith)
  origins_back (e ∷ es) [] rest l h = absurd (omega arith)
  origins_back (e ∷ es) (o ∷ os) rest l h =
      ap (origins_in c (suc (length es))) (append_assoc (row e ++ tail o) (slots es os) rest)
      ∙ first_origin (row e) (tail o) (slots es os ++ rest) (row_length e h.0) refl (length es)
      ∙ ap (λ (l : List Origin). o ∷ l) (origins_back es os rest (omega arith) h.1)

  row_formed : (e : AbstractState) → StateOk c e → T (row_ok c (row e))
  row_formed e h = both_true (below (length c.locs) (pos e.loc)) (all_pairs value_ok c.vars (map word e.vals)) (lt→ltb e.loc (length c.locs) h.loc) (vals_formed c.vars e.vals h.vals)

  slots_formed : (es : List AbstractState) (os : List Origin) (rest : List ℤ) → length os ≡ length es → Every (StateOk c) es → T (slots_ok c (length es) (slots es os ++ rest))
  slots_formed [] os rest l h = tt
  slots_formed (e ∷ es) [] rest l h = absurd (omega arith)
  slots_formed (e ∷ es) (o ∷ os) rest l h =
      subst (λ (t : List ℤ). T (slots_ok c (suc (length es)) t)) (sym (append_assoc (row e ++ tail o) (slots es os) rest))
      (first_formed (row e) (tail o) (slots es os ++ rest) (row_length e h.0) refl (length es) (row_formed e h.0) tt (slots_formed es os rest (omega arith) h.1))

  -- what every exploration keeps that a beginning which went through has begun
  pub record Proper (w : Exploration AbstractState) : Type 0 where
    pub tidy : Tidy (StateOk c) (length c.edges) w
    pub held : Sound (system c) (constants c) (Fit c) (Covers c) (laws c) w
    pub path : PathKept c w
    pub capacity : T (capacity_ok (pos w.capacity))
    pub iterations : w.iterations ≤ most_iterations

  module _ (b : Bounds c) (w : Exploration AbstractState) (g : Proper w) where
    abbrev in_use : List ℤ
    in_use = slots w.reached w.origins

    in_use_length : length in_use ≡ length w.reached * stride c
    in_use_length = slots_length w.reached w.origins g.path.brought.beside g.tidy.every

    slots_fit : length in_use ≤ w.capacity * stride c
    slots_fit = omega (arith, in_use_length, mul-le-mul_right (stride c) g.tidy.within)

    list_fit : length (map pos w.waitlist) ≤ w.capacity
    list_fit = omega (arith, length-map w.waitlist pos, queue_few (length w.reached) w.waitlist g.tidy.queue, g.tidy.within)

    pub table_length : length (table_of c w) ≡ w.capacity * stride c
    table_length = padded_length (w.capacity * stride c) in_use slots_fit

    pub list_length : length (waitlist_of w) ≡ w.capacity
    list_length = padded_length w.capacity (map pos w.waitlist) list_fit

    module _ (more_table more_list : List ℤ) where
      -- the stored exploration, with words after it
      abbrev pub with_words_after : Memory
      with_words_after = record { table = table_of c w ++ more_table; waitlist = waitlist_of w ++ more_list; analysis = analysis_of w }

      waiting_words : take (length w.waitlist) with_words_after.waitlist ≡ map pos w.waitlist
      waiting_words = rw (append_assoc (map pos w.waitlist) (replicate (w.capacity - length (map pos w.waitlist)) (pos 0)) more_list) (take_at (map pos w.waitlist) _ (length w.waitlist) (length-map w.waitlist pos))

      -- what follows the slots in use
      abbrev table_rest : List ℤ
      table_rest = replicate (w.capacity * stride c - length in_use) (pos 0) ++ more_table

      table_words : with_words_after.table ≡ in_use ++ table_rest
      table_words = append_assoc in_use (replicate (w.capacity * stride c - length in_use) (pos 0)) more_table

      pub load_back : load c with_words_after ≡ w
      unfolding load
      load_back =
          let p : states_in c (length w.reached) with_words_after.table ≡ w.reached = ap (states_in c (length w.reached)) table_words ∙ states_back b w.reached w.origins table_rest g.path.brought.beside g.tidy.every in
          let o : origins_in c (length w.reached) with_words_after.table ≡ w.origins = ap (origins_in c (length w.reached)) table_words ∙ origins_back w.reached w.origins table_rest g.path.brought.beside g.tidy.every in
          let q : map nat_abs (take (length w.waitlist) with_words_after.waitlist) ≡ w.waitlist = ap (map nat_abs) waiting_words ∙ map_back w.waitlist in
          λ i. record { settings = w.settings; capacity = w.capacity; iterations = w.iterations; reached = p i; origins = o i; waitlist = q i; verdict = w.verdict; edge = w.edge }

      pub table_part : take (w.capacity * stride c) with_words_after.table ≡ table_of c w
      table_part = take_at (table_of c w) more_table (w.capacity * stride c) table_length

      pub list_part : take w.capacity with_words_after.waitlist ≡ waitlist_of w
      list_part = take_at (waitlist_of w) more_list w.capacity list_length

      -- without safe, some slot waits
      some_wait : (w.verdict ≡ Safe → ⊥) → T (not (eqb (length w.waitlist) 0))
      some_wait n = go w.waitlist (λ p. n (g.tidy.empty_safe p))
        where
          go : (wa : List ℕ) → (wa ≡ [] → ⊥) → T (not (eqb (length wa) 0))
          go [] m = absurd (m refl)
          go (x ∷ xs) m = rw (eqb-suc-zero (length xs)) tt

      verdict_listed : (v : Verdict) → w.verdict ≡ v → T (empty_if_safe v (length w.waitlist))
      verdict_listed Open e = some_wait (λ p. clash cc)
      verdict_listed Safe e = rw (g.tidy.safe_empty e) tt
      verdict_listed Alarm e = some_wait (λ p. clash cc)
      verdict_listed Full e = some_wait (λ p. clash cc)

      -- without alarm, no edge is named
      edge_0 : (w.verdict ≡ Alarm → ⊥) → T (eqb w.edge 0 || false)
      edge_0 n = rw (g.tidy.no_edge n) tt

      alarm_edge : (v : Verdict) → w.verdict ≡ v → T (eqb w.edge 0 || is_alarm v)
      alarm_edge Open e = edge_0 (λ p. clash cc)
      alarm_edge Safe e = edge_0 (λ p. clash cc)
      alarm_edge Alarm e = or_right (eqb w.edge 0) true tt
      alarm_edge Full e = edge_0 (λ p. clash cc)

      pub formed_back : T (analysis_ok c with_words_after)
      unfolding load analysis_ok
      formed_back =
          let q = g.tidy.queue in
          let t₁ = le→leb (length w.reached) w.capacity g.tidy.within in
          let t₂ = le→leb (length w.waitlist) (length w.reached) (queue_few (length w.reached) w.waitlist q) in
          let t₃ : T (slots_ok c (length w.reached) with_words_after.table) = rw table_words (slots_formed w.reached w.origins table_rest g.path.brought.beside g.tidy.every) in
          let t₃' : T (origins_ok c (locations (load c with_words_after).reached) 0 (load c with_words_after).origins) = subst (λ (v : Exploration AbstractState). T (origins_ok c (locations v.reached) 0 v.origins)) (sym load_back) g.path.brought.ok in
          let t₄ : T (all (below (length w.reached)) (take (length w.waitlist) with_words_after.waitlist)) = rw waiting_words (below_all (length w.reached) w.waitlist q.used) in
          let t₅ : T (each_once (take (length w.waitlist) with_words_after.waitlist)) = rw waiting_words (once_all w.waitlist q.once) in
          let t₆ : T (zeros (drop (length w.reached * stride c) (take (w.capacity * stride c) with_words_after.table))) = rw table_part (padded_zeros (w.capacity * stride c) in_use (length w.reached * stride c) in_use_length) in
          let t₇ : T (zeros (drop (length w.waitlist) (take w.capacity with_words_after.waitlist))) = rw list_part (padded_zeros w.capacity (map pos w.waitlist) (length w.waitlist) (length-map w.waitlist pos)) in
          let t₈ = le→leb w.iterations most_iterations g.iterations in
          let t₉ = le→leb w.edge (length c.edges) g.tidy.edge_in in
          let t₁₀ = alarm_edge w.verdict refl in
          let t₁₁ = g.capacity in
          let t₁₂ = g.held.allowed in
          let t₁₃ = verdict_listed w.verdict refl in
          all_true (form_tests c with_words_after) (t₁, (t₂, (t₃, (t₃', (t₄, (t₅, (t₆, (t₇, (t₈, (t₉, (t₁₀, (t₁₁, (t₁₂, (t₁₃, tt))))))))))))))
