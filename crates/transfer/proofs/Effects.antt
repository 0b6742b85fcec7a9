-- The effect of an operation on a row's words is its effect on the values that they say. Assumes nothing.
use Rattle.semantics.proofs.Prelude.{◌≡◌, refl, sym, ap, ◌∙◌, Bool, true, false, ◌&&◌, ◌||◌, List, [], ◌∷◌, ◌++◌, map, ℕ, zero, suc, ◌+◌, ◌<◌, add-one, arith, T, ltb→lt, ℤ, pos, nat_abs, ◌+ℤ◌, ◌-ℤ◌, le_z, length, get_or, set, get_or-map}
use Rattle.semantics.specs.declared.Span.{Span}
use Rattle.semantics.specs.declared.Arithmetic.{Arithmetic}
use Rattle.semantics.specs.declared.Arithmetic.TheVariants.{Add, Sub}
use Rattle.semantics.specs.Layout.{top_word, edge_size, operation_place, target_place, first_tag_place, first_value_place, second_tag_place, second_value_place, add_code, sub_code}
use Rattle.semantics.specs.Lists.{pick, all}
use Rattle.semantics.specs.Chart.{Value, known, top, Var, Operand, num, var, Rel, eq, ne, lt, le, gt, ge, Op, assign, add, sub, input, assume, skip, Chart, eq_z, holds}
use Rattle.semantics.specs.Algorithm.{Step, blocked, fault, to}
use Rattle.semantics.specs.Constants.{operand_value, both, only, value_span, operand_span, span_in_range, assign_value, computed, one_of, turned, satisfying, range_of, refine, tested, effect}
use Rattle.semantics.specs.Encoding.{word, word_at, tag, operand_word, rel_code, op_words, encode, count, var_ok, operand_ok, op_ok, chart_ok}
use Rattle.semantics.proofs.Bools.{and_left, and_right}
use Rattle.semantics.proofs.ConstantValues.{Spans, spans_operand, spans_both}
use Rattle.semantics.proofs.StatesOk.{ValOk, ValsOk}
use Rattle.semantics.proofs.MemoryOf.{small_not_top, known_not_top}
use Rattle.words.proofs.Words.{eq_z_true}
use Rattle.state.specs.Rows.{value_at, with_value, word_join}
use Rattle.transfer.specs.Transfer.{results_by, operand_by, span_at, assign_result, assign_at, compute_at, input_at, refine_by, tested_by, assume_at, op_by}
use Rattle.transfer.proofs.Places.{range_of_is, range_is}

-- a value whose word is top's only where it is top
abbrev pub Writable : Value → Type 0
Writable (known z) = eq_z z top_word ≡ false
Writable top = Unit

value_plain : (v : Var) (x : Value) → T (var_ok v) → ValOk v x → Writable x
value_plain v (known z) t h = known_not_top v z t h
value_plain v top t h = tt

-- each value of a list
abbrev pub AllPlain : List Value → Type 0
AllPlain [] = Unit
AllPlain (x ∷ xs) = Writable x × AllPlain xs

pub values_plain : (vars : List Var) (xs : List Value) → T (all var_ok vars) → ValsOk vars xs → AllPlain xs
values_plain [] [] t h = tt
values_plain [] (x ∷ xs) t h = absurd h
values_plain (v ∷ vs) [] t h = absurd h
values_plain (v ∷ vs) (x ∷ xs) t h = (value_plain v x (and_left (var_ok v) (all var_ok vs) t) h.0, values_plain vs xs (and_right (var_ok v) (all var_ok vs) t) h.1)

get_plain : (xs : List Value) (k : ℕ) → AllPlain xs → Writable (get_or xs k (known (pos 0)))
get_plain [] k h = refl
get_plain (x ∷ xs) zero h = h.0
get_plain (x ∷ xs) (suc k) h = get_plain xs k h.1

map_set : (xs : List Value) (k : ℕ) (x : Value) → set (map word xs) k (word x) ≡ map word (set xs k x)
map_set [] k x = refl
map_set (y ∷ ys) zero x = refl
map_set (y ∷ ys) (suc k) x = ap (λ (l : List ℤ). word y ∷ l) (map_set ys k x)

-- the row of location word l that an operation's step says
abbrev pub row_step : ℤ → Step (List Value) → Step (List ℤ)
row_step l blocked = blocked
row_step l fault = fault
row_step l (to xs) = to (l ∷ map word xs)

row_step_pick : (l : ℤ) (t : Bool) (xs : List Value) (o : Step (List Value)) → pick t (to (l ∷ map word xs)) (row_step l o) ≡ row_step l (pick t (to xs) o)
row_step_pick l true xs o = refl
row_step_pick l false xs o = refl

-- the word that a result becomes: top's, or the one number of its span
set_to : (r : Span) (x : Value) → Spans r x → Writable x → pick (eq_z (word x) top_word) top_word r.low ≡ word x
set_to r (known z) h p = rw p (ap (λ (s : Span). s.low) h)
set_to r top h p = refl

both_set_to : (f : ℤ → ℤ → ℤ) (r : Span) (x y : Value) → Spans r (both f x y) → Writable x → Writable y → pick (eq_z (word x) top_word || eq_z (word y) top_word) top_word r.low ≡ word (both f x y)
both_set_to f r (known a) (known b) h p q = rw (p, q) (ap (λ (s : Span). s.low) h)
both_set_to f r (known a) top h p q = rw p
both_set_to f r top (known b) h p q = refl
both_set_to f r top top h p q = refl

module _ (c : Chart) (ok : T (chart_ok c)) (rest : List ℤ) (l : ℤ) (xs : List Value) (plain : AllPlain xs) where
  abbrev ws : List ℤ
  ws = encode c ++ rest

  abbrev e : List ℤ
  e = l ∷ map word xs

  get_word : (k : ℕ) → value_at e k ≡ word (get_or xs k (known (pos 0)))
  get_word k = rw (add-one k) (get_or-map word xs k (known (pos 0)))

  set_word : (k : ℕ) (x : Value) → with_value e k (word x) ≡ l ∷ map word (set xs k x)
  set_word k x = rw (add-one k) (ap (λ (m : List ℤ). l ∷ m) (map_set xs k x))

  assign_is : (k : ℕ) (r : Span) (t : Bool) (x : Value) → k < length c.vars → pick t top_word r.low ≡ word x → assign_result ws k t r e ≡ row_step l (assign_value c.vars k r x xs)
  unfolding assign_result
  assign_is k r t x h q =
      (λ i. pick (range_is c ok rest k r.low h i && range_is c ok rest k r.high h i) (to ((ap (with_value e k) q ∙ set_word k x) i)) fault)
      ∙ row_step_pick l (span_in_range c.vars k r) (set xs k x) fault

  join_is : (k : ℕ) (p q : ℤ) → to (with_value e k (word_join p q)) ≡ row_step l (to (set xs k (one_of p q)))
  join_is k p q = ap (λ (z : ℤ). to (with_value e k z)) (go (eq_z p q) refl) ∙ ap to (set_word k (one_of p q))
    where
      go : (t : Bool) → eq_z p q ≡ t → pick t q top_word ≡ word (pick t (known p) top)
      go true h = sym (eq_z_true p q h)
      go false h = refl

  -- ---- tests

  refine_is : (r : Rel) (k : ℕ) (z : ℤ) → k < length c.vars → refine_by ws r k z e ≡ row_step l (refine c.vars r (var k) z xs)
  unfolding refine_by
  refine_is r k z h =
      let s = satisfying r z (range_of c.vars k) in
      rw (range_of_is c ok rest k h)
      (ap (λ (o : Step (List ℤ)). pick (le_z s.low s.high) o blocked) (join_is k s.low s.high) ∙ row_step_pick l (le_z s.low s.high) (set xs k (one_of s.low s.high)) blocked)

  -- only a variable is at top
  abbrev Sided : Operand → Value → Type 0
  Sided (num z) (known y) = Unit
  Sided (num z) top = ⊥
  Sided (var j) y = Unit

  tested_is : (r : Rel) (k : ℕ) (a : Operand) (x y : Value) → k < length c.vars → T (operand_ok c.vars a) → Writable x → Writable y → Sided a y
      → tested_by ws r k (nat_abs (operand_word a)) (word x) (word y) e ≡ row_step l (tested c.vars r (var k) a x y xs)
  unfolding tested_by
  tested_is r k a (known x) (known y) h o p q s = rw (p, q) (row_step_pick l (holds r x y) xs blocked)
  tested_is r k (num z) (known x) top h o p q s = absurd s
  tested_is r k (var j) (known x) top h o p q s = rw p (refine_is (turned r) j x (ltb→lt j (length c.vars) o))
  tested_is r k a top (known y) h o p q s = rw q (refine_is r k y h)
  tested_is r k a top top h o p q s = refl

  -- ---- operands

  operand_plain : (a : Operand) → T (operand_ok c.vars a) → Writable (operand_value a xs)
  operand_plain (num z) o = small_not_top z o
  operand_plain (var k) o = get_plain xs k plain

  operand_sided : (a : Operand) → Sided a (operand_value a xs)
  operand_sided (num z) = tt
  operand_sided (var j) = tt

  operand_is : (a : Operand) → operand_by (tag a) (operand_word a) e ≡ word (operand_value a xs)
  operand_is (num z) = refl
  operand_is (var k) = get_word k

  span_is : (a : Operand) → T (operand_ok c.vars a) → span_at ws (nat_abs (operand_word a)) (word (operand_value a xs)) ≡ operand_span c.vars a xs
  span_is (num z) o = rw (small_not_top z o)
  span_is (var k) o = go (operand_value (var k) xs) (get_plain xs k plain)
    where
      go : (v : Value) → Writable v → span_at ws k (word v) ≡ value_span c.vars k v
      go (known z) p = rw p
      go top p = range_of_is c ok rest k (ltb→lt k (length c.vars) o)

  -- ---- the operations: the edge's words, from i on, are two for its locations and six for its operation
  module _ (i : ℕ) (from goal : ℤ) where
    abbrev pub Reads : Op → Type 0
    Reads o = (j : ℕ) → j < edge_size → word_at ws (i + j) ≡ get_or (from ∷ goal ∷ op_words o) j (pos 0)

    -- add and sub, by their code
    compute_is : (s : Arithmetic) (f : ℤ → ℤ → ℤ) → ((x y : ℤ) → results_by s (only x) (only y) ≡ only (f x y))
        → (n v : ℕ) (a b : Operand) → T (op_ok c.vars (add v a b))
        → ((j : ℕ) → j < edge_size → word_at ws (i + j) ≡ get_or (from ∷ goal ∷ pos n ∷ pos v ∷ tag a ∷ operand_word a ∷ tag b ∷ operand_word b ∷ []) j (pos 0))
        → compute_at s ws i e ≡ row_step l (computed c.vars v (results_by s) f a b xs)
    unfolding compute_at
    compute_is s f one n v a b t r =
        let k : v < length c.vars = ltb→lt v (length c.vars) (search (and_left, and_right)) in
        let u : T (operand_ok c.vars a) = search (and_left, and_right) in
        let w : T (operand_ok c.vars b) = search (and_left, and_right) in
        let x = operand_value a xs in
        let y = operand_value b xs in
        let p = operand_span c.vars a xs in
        let q = operand_span c.vars b xs in
        rw (r target_place (omega arith), r first_tag_place (omega arith), r first_value_place (omega arith), r second_tag_place (omega arith), r second_value_place (omega arith), operand_is a, operand_is b, span_is a u, span_is b w)
        (assign_is v (results_by s p q) (eq_z (word x) top_word || eq_z (word y) top_word) (both f x y) k
        (both_set_to f (results_by s p q) x y (spans_both (results_by s) f one p q x y (spans_operand c.vars a xs) (spans_operand c.vars b xs)) (operand_plain a u) (operand_plain b w)))

    pub effect_is : (o : Op) → T (op_ok c.vars o) → Reads o → op_by (count ws (i + operation_place)) ws i e ≡ row_step l (effect c.vars o xs)
    unfolding op_by assign_at input_at assume_at
    effect_is skip t r = rw (r operation_place (omega arith))
    effect_is (assign v a) t r =
        let k : v < length c.vars = ltb→lt v (length c.vars) (search (and_left, and_right)) in
        let u : T (operand_ok c.vars a) = search (and_left, and_right) in
        let x = operand_value a xs in
        let p = operand_span c.vars a xs in
        rw (r operation_place (omega arith), r target_place (omega arith), r first_tag_place (omega arith), r first_value_place (omega arith), operand_is a, span_is a u)
        (assign_is v p (eq_z (word x) top_word) x k (set_to p x (spans_operand c.vars a xs) (operand_plain a u)))
    effect_is (add v a b) t r = rw (r operation_place (omega arith)) (compute_is Add ◌+ℤ◌ (λ x y. refl) add_code v a b t r)
    effect_is (sub v a b) t r = rw (r operation_place (omega arith)) (compute_is Sub ◌-ℤ◌ (λ x y. refl) sub_code v a b t r)
    effect_is (input v p q) t r = rw (r operation_place (omega arith), r target_place (omega arith), r first_value_place (omega arith), r second_value_place (omega arith)) (join_is v p q)
    effect_is (assume v g a) t r =
        let k : v < length c.vars = ltb→lt v (length c.vars) (search (and_left, and_right)) in
        let u : T (operand_ok c.vars a) = search (and_left, and_right) in
        coded g (ap nat_abs (r operation_place (omega arith)))
        ∙ rw (r target_place (omega arith), r first_tag_place (omega arith), r first_value_place (omega arith), operand_is a, get_word v) (tested_is g v a (operand_value (var v) xs) (operand_value a xs) k u (get_plain xs v plain) (operand_plain a u) (operand_sided a))
      where
        coded : (g : Rel) → count ws (i + operation_place) ≡ rel_code g → op_by (count ws (i + operation_place)) ws i e ≡ assume_at ws g i e
        coded eq h = rw h
        coded ne h = rw h
        coded lt h = rw h
        coded le h = rw h
        coded gt h = rw h
        coded ge h = rw h
