-- Facts of values, of any number of variables. Assumes nothing.
use Rattle.semantics.proofs.Prelude.{◌≡◌, refl, sym, ap, ◌∙◌, subst, ◌⊎◌, inl, inr, Bool, true, false, not, List, [], ◌∷◌, Option, none, some, ℕ, zero, suc, ◌<◌, arith, T, eqb, length, get_or, set, ℤ, pos, ◌+ℤ◌, ◌-ℤ◌, le_z}
use Rattle.semantics.specs.declared.Span.{Span}
use Rattle.semantics.specs.Lists.{all_pairs, get, map_or, pick}
use Rattle.semantics.specs.Chart.{Value, known, top, Var, Operand, num, var, Rel, Op, assign, add, sub, input, assume, skip, Edge, Chart, eq_z, within, holds, Ranged, Matches₁, Matches, value, Becomes, result_outside, in_range}
use Rattle.semantics.specs.Algorithm.{Step, blocked, fault, to}
use Rattle.semantics.specs.Constants.{AbstractState, equal_value, leq_value, join_values, operand_value, both, only, range_of, value_span, operand_span, sums, differences, span_in_range, assign_value, computed, turned, satisfying, refine, tested, one_of, effect, arrive_at, post}
use Rattle.semantics.proofs.Bools.{from_true, to_false, and_left, and_right, both_true, not_both}
use Rattle.semantics.proofs.Integers.{eq_z_same, le_z_antisym, le_z_trans}
use Rattle.semantics.proofs.SpanNumbers.{Among, among_only, among_sums, among_differences, satisfying_has, satisfying_ends, holds_turned}
use Rattle.semantics.proofs.Covering.{blocked_to, fault_to}

-- one value
equal_value_same : (v w : Value) → T (equal_value v w) → v ≡ w
equal_value_same (known a) (known b) t = ap known (eq_z_same a b t)
equal_value_same (known a) top t = absurd t
equal_value_same top (known b) t = absurd t
equal_value_same top top t = refl

leq_value_matches : (v w : Value) (x : ℤ) → T (leq_value v w) → Matches₁ v x → Matches₁ w x
leq_value_matches (known a) (known b) x t m = sym (eq_z_same a b t) ∙ m
leq_value_matches (known a) top x t m = tt
leq_value_matches top (known b) x t m = absurd t
leq_value_matches top top x t m = tt

join_value_slot : (v w : Value) (x : ℤ) (b : Bool) → Matches₁ w x → Matches₁ (pick b w top) x
join_value_slot v w x true m = m
join_value_slot v w x false m = tt

join_value_new : (v w : Value) (x : ℤ) (b : Bool) → equal_value v w ≡ b → Matches₁ v x → Matches₁ (pick b w top) x
join_value_new v w x true e m = subst (λ (u : Value). Matches₁ u x) (equal_value_same v w (from_true e)) m
join_value_new v w x false e m = tt

both_matches : (f : ℤ → ℤ → ℤ) (v w : Value) (x y : ℤ) → Matches₁ v x → Matches₁ w y → Matches₁ (both f v w) (f x y)
both_matches f (known a) (known b) x y p q = cc
both_matches f (known a) top x y p q = tt
both_matches f top (known b) x y p q = tt
both_matches f top top x y p q = tt

one_of_matches : (p q z : ℤ) (b : Bool) → eq_z p q ≡ b → T (within p q z) → Matches₁ (pick b (known p) top) z
one_of_matches p q z true e t =
    let same : p ≡ q = eq_z_same p q (from_true e) in
    le_z_antisym p z (and_left (le_z p z) (le_z z q) t) (subst (λ (y : ℤ). T (le_z z y)) (sym same) (and_right (le_z p z) (le_z z q) t))
one_of_matches p q z false e t = tt

-- lists of values
pub all_same : (vs ws : List Value) → T (all_pairs equal_value vs ws) → vs ≡ ws
all_same [] [] t = refl
all_same [] (w ∷ ws) t = absurd t
all_same (v ∷ vs) [] t = absurd t
all_same (v ∷ vs) (w ∷ ws) t =
    let p : v ≡ w = equal_value_same v w (and_left (equal_value v w) (all_pairs equal_value vs ws) t) in
    let q : vs ≡ ws = all_same vs ws (and_right (equal_value v w) (all_pairs equal_value vs ws) t) in
    cc

pub leq_matches : (vs ws : List Value) (xs : List ℤ) → T (all_pairs leq_value vs ws) → Matches vs xs → Matches ws xs
leq_matches [] [] xs t m = m
leq_matches [] (w ∷ ws) xs t m = absurd t
leq_matches (v ∷ vs) [] xs t m = absurd t
leq_matches (v ∷ vs) (w ∷ ws) [] t m = absurd m
leq_matches (v ∷ vs) (w ∷ ws) (x ∷ xs) t m =
    (leq_value_matches v w x (and_left (leq_value v w) (all_pairs leq_value vs ws) t) m.0, leq_matches vs ws xs (and_right (leq_value v w) (all_pairs leq_value vs ws) t) m.1)

pub joins_slot : (vs ws : List Value) (xs : List ℤ) → Matches ws xs → Matches (join_values vs ws) xs
joins_slot [] ws xs m = m
joins_slot (v ∷ vs) [] xs m = m
joins_slot (v ∷ vs) (w ∷ ws) [] m = absurd m
joins_slot (v ∷ vs) (w ∷ ws) (x ∷ xs) m = (join_value_slot v w x (equal_value v w) m.0, joins_slot vs ws xs m.1)

pub joins_new : (vs ws : List Value) (xs : List ℤ) → length vs ≡ length ws → Matches vs xs → Matches (join_values vs ws) xs
joins_new [] [] xs l m = m
joins_new [] (w ∷ ws) xs l m = absurd (omega arith)
joins_new (v ∷ vs) [] xs l m = absurd (omega arith)
joins_new (v ∷ vs) (w ∷ ws) [] l m = absurd m
joins_new (v ∷ vs) (w ∷ ws) (x ∷ xs) l m = (join_value_new v w x (equal_value v w) refl m.0, joins_new vs ws xs (omega arith) m.1)

pub joins_length : (vs ws : List Value) → length (join_values vs ws) ≡ length ws
joins_length [] ws = refl
joins_length (v ∷ vs) [] = refl
joins_length (v ∷ vs) (w ∷ ws) = ap suc (joins_length vs ws)

matches_get : (vs : List Value) (xs : List ℤ) (k : ℕ) → Matches vs xs → Matches₁ (get_or vs k (known (pos 0))) (get_or xs k (pos 0))
matches_get [] [] k m = refl
matches_get [] (x ∷ xs) k m = absurd m
matches_get (v ∷ vs) [] k m = absurd m
matches_get (v ∷ vs) (x ∷ xs) zero m = m.0
matches_get (v ∷ vs) (x ∷ xs) (suc k) m = matches_get vs xs k m.1

matches_set : (vs : List Value) (xs : List ℤ) (k : ℕ) (v : Value) (x : ℤ) → Matches vs xs → Matches₁ v x → Matches (set vs k v) (set xs k x)
matches_set [] [] k v x m h = tt
matches_set [] (y ∷ ys) k v x m h = absurd m
matches_set (w ∷ ws) [] k v x m h = absurd m
matches_set (w ∷ ws) (y ∷ ys) zero v x m h = (h, m.1)
matches_set (w ∷ ws) (y ∷ ys) (suc k) v x m h = (m.0, matches_set ws ys k v x m.1 h)

-- a value found out: the state is as it was
matches_learn : (vs : List Value) (xs : List ℤ) (k : ℕ) (v : Value) → Matches vs xs → Matches₁ v (get_or xs k (pos 0)) → Matches (set vs k v) xs
matches_learn [] [] k v m h = tt
matches_learn [] (x ∷ xs) k v m h = absurd m
matches_learn (w ∷ ws) [] k v m h = absurd m
matches_learn (w ∷ ws) (x ∷ xs) zero v m h = (h, m.1)
matches_learn (w ∷ ws) (x ∷ xs) (suc k) v m h = (m.0, matches_learn ws xs k v m.1 h)

pub ranged_set : (vars : List Var) (xs : List ℤ) (k : ℕ) (z : ℤ) → Ranged vars (set xs k z) → T (in_range vars k z)
ranged_set [] xs k z q = tt
ranged_set (v ∷ vs) [] k z q = absurd q
ranged_set (v ∷ vs) (x ∷ xs) zero z q = q.0
ranged_set (v ∷ vs) (x ∷ xs) (suc k) z q = ranged_set vs xs k z q.1

pub ranged_as_set : (vars : List Var) (xs : List ℤ) (k : ℕ) (z : ℤ) → Ranged vars xs → T (in_range vars k z) → Ranged vars (set xs k z)
ranged_as_set [] [] k z r t = tt
ranged_as_set [] (x ∷ xs) k z r t = absurd r
ranged_as_set (v ∷ vs) [] k z r t = absurd r
ranged_as_set (v ∷ vs) (x ∷ xs) zero z r t = (t, r.1)
ranged_as_set (v ∷ vs) (x ∷ xs) (suc k) z r t = (r.0, ranged_as_set vs xs k z r.1 t)

-- ---- spans

-- the test of a range by its ends
pub in_range_of : (vars : List Var) (k : ℕ) (z : ℤ) → k < length vars → in_range vars k z ≡ within (range_of vars k).low (range_of vars k).high z
in_range_of [] k z h = absurd (omega arith)
in_range_of (v ∷ vs) zero z h = refl
in_range_of (v ∷ vs) (suc k) z h = in_range_of vs k z (omega arith)

-- a number of the range is in it
range_in : (vars : List Var) (k : ℕ) (z : ℤ) → Among (range_of vars k) z → T (in_range vars k z)
range_in vars k z h = go (get vars k) h
  where
    go : (o : Option Var) → Among (map_or o (only (pos 0)) (λ v. record { low = v.lo; high = v.hi })) z → T (map_or o true (λ v. within v.lo v.hi z))
    go none h = tt
    go (some v) h = both_true (le_z v.lo z) (le_z z v.hi) h.0 h.1

-- a number between two of the range is of it
pub between : (vars : List Var) (k : ℕ) (low z high : ℤ) → T (le_z low z) → T (le_z z high) → T (in_range vars k low) → T (in_range vars k high) → T (in_range vars k z)
between vars k low z high p q s t = go (get vars k) s t
  where
    go : (o : Option Var) → T (map_or o true (λ v. within v.lo v.hi low)) → T (map_or o true (λ v. within v.lo v.hi high)) → T (map_or o true (λ v. within v.lo v.hi z))
    go none s t = tt
    go (some v) s t =
        both_true (le_z v.lo z) (le_z z v.hi) (le_z_trans v.lo low z (and_left (le_z v.lo low) (le_z low v.hi) s) p)
        (le_z_trans z high v.hi q (and_right (le_z v.lo high) (le_z high v.hi) t))

-- a span with a number outside the range has an end outside it
span_outside : (vars : List Var) (k : ℕ) (r : Span) (z : ℤ) → Among r z → T (not (in_range vars k z)) → span_in_range vars k r ≡ false
span_outside vars k r z h t =
    to_false (span_in_range vars k r)
    (λ s. not_both (in_range vars k z)
    (between vars k r.low z r.high h.0 h.1 (and_left (in_range vars k r.low) (in_range vars k r.high) s) (and_right (in_range vars k r.low) (in_range vars k r.high) s)) t)

-- the value of a variable lies in its range
range_among : (vars : List Var) (xs : List ℤ) (k : ℕ) → Ranged vars xs → Among (range_of vars k) (get_or xs k (pos 0))
range_among [] [] k r = (tt, tt)
range_among [] (x ∷ xs) k r = absurd r
range_among (v ∷ vars) [] k r = absurd r
range_among (v ∷ vars) (x ∷ xs) zero r = (and_left (le_z v.lo x) (le_z x v.hi) r.0, and_right (le_z v.lo x) (le_z x v.hi) r.0)
range_among (v ∷ vars) (x ∷ xs) (suc k) r = range_among vars xs k r.1

-- and in its span
value_among : (vars : List Var) (vs : List Value) (xs : List ℤ) (k : ℕ) → Ranged vars xs → Matches vs xs → Among (value_span vars k (get_or vs k (known (pos 0)))) (get_or xs k (pos 0))
value_among vars vs xs k r m = go (get_or vs k (known (pos 0))) (matches_get vs xs k m)
  where
    go : (v : Value) → Matches₁ v (get_or xs k (pos 0)) → Among (value_span vars k v) (get_or xs k (pos 0))
    go (known z) h = among_only z (get_or xs k (pos 0)) h
    go top h = range_among vars xs k r

operand_among : (vars : List Var) (a : Operand) (vs : List Value) (xs : List ℤ) → Ranged vars xs → Matches vs xs → Among (operand_span vars a vs) (value a xs)
operand_among vars (num z) vs xs r m = among_only z z refl
operand_among vars (var k) vs xs r m = value_among vars vs xs k r m

-- an overrun is a fault
pub assign_faults : (vars : List Var) (k : ℕ) (r : Span) (v : Value) (vs : List Value) (z : ℤ) → Among r z → T (not (in_range vars k z)) → assign_value vars k r v vs ≡ fault
assign_faults vars k r v vs z h t = ap (λ (b : Bool). pick b (to (set vs k v)) fault) (span_outside vars k r z h t)

-- numbers of two spans make, by f, a number of what g makes of the spans
abbrev pub Within : (Span → Span → Span) → (ℤ → ℤ → ℤ) → Type 0
Within g f = (a b : Span) (x y : ℤ) → Among a x → Among b y → Among (g a b) (f x y)

pub computed_faults : (vars : List Var) (k : ℕ) (g : Span → Span → Span) (f : ℤ → ℤ → ℤ) → Within g f → (a b : Operand) (vs : List Value) (x y : ℤ)
    → Among (operand_span vars a vs) x → Among (operand_span vars b vs) y → T (not (in_range vars k (f x y))) → computed vars k g f a b vs ≡ fault
computed_faults vars k g f w a b vs x y p q t =
    assign_faults vars k (g (operand_span vars a vs) (operand_span vars b vs)) (both f (operand_value a vs) (operand_value b vs)) vs (f x y)
    (w (operand_span vars a vs) (operand_span vars b vs) x y p q) t

pub effect_faults : (vars : List Var) (o : Op) (vs : List Value) (xs : List ℤ) → Ranged vars xs → Matches vs xs → T (result_outside vars o xs) → effect vars o vs ≡ fault
effect_faults vars (assign v a) vs xs r m t = assign_faults vars v (operand_span vars a vs) (operand_value a vs) vs (value a xs) (operand_among vars a vs xs r m) t
effect_faults vars (add v a b) vs xs r m t =
    computed_faults vars v sums ◌+ℤ◌ among_sums a b vs (value a xs) (value b xs) (operand_among vars a vs xs r m) (operand_among vars b vs xs r m) t
effect_faults vars (sub v a b) vs xs r m t =
    computed_faults vars v differences ◌-ℤ◌ among_differences a b vs (value a xs) (value b xs) (operand_among vars a vs xs r m) (operand_among vars b vs xs r m) t
effect_faults vars (input v p q) vs xs r m t = absurd t
effect_faults vars (assume v g a) vs xs r m t = absurd t
effect_faults vars skip vs xs r m t = absurd t

-- ---- the moves

-- a fault, or values that match
Gives : Step (List Value) → List ℤ → Type 0
Gives o ys = (o ≡ fault) ⊎ ((us : List Value) × (o ≡ to us) × Matches us ys)

to_gives : (us : List Value) (ys : List ℤ) → Matches us ys → Gives (to us) ys
unfolding Gives
to_gives us ys m = inr (us, refl, m)

test_gives : (b : Bool) (us : List Value) (ys : List ℤ) → T b → Matches us ys → Gives (pick b (to us) blocked) ys
test_gives true us ys t m = to_gives us ys m
test_gives false us ys t m = absurd t

known_matches : (a : Operand) (vs : List Value) (xs : List ℤ) → Matches vs xs → Matches₁ (operand_value a vs) (value a xs)
known_matches (num z) vs xs m = refl
known_matches (var k) vs xs m = matches_get vs xs k m

assign_gives : (vars : List Var) (k : ℕ) (r : Span) (v : Value) (vs : List Value) (xs : List ℤ) (z : ℤ) → Matches vs xs → Matches₁ v z → Gives (assign_value vars k r v vs) (set xs k z)
unfolding Gives
assign_gives vars k r v vs xs z m h = go (span_in_range vars k r)
  where
    go : (b : Bool) → Gives (pick b (to (set vs k v)) fault) (set xs k z)
    go true = inr (set vs k v, refl, matches_set vs xs k v z m h)
    go false = inl refl

computed_gives : (vars : List Var) (k : ℕ) (g : Span → Span → Span) (f : ℤ → ℤ → ℤ) (a b : Operand) (vs : List Value) (xs : List ℤ) → Matches vs xs → Gives (computed vars k g f a b vs) (set xs k (f (value a xs) (value b xs)))
computed_gives vars k g f a b vs xs m =
    assign_gives vars k (g (operand_span vars a vs) (operand_span vars b vs)) (both f (operand_value a vs) (operand_value b vs)) vs xs (f (value a xs) (value b xs)) m
    (both_matches f (operand_value a vs) (operand_value b vs) (value a xs) (value b xs) (known_matches a vs xs m) (known_matches b vs xs m))

-- what satisfies the comparison is between the ends of all that does
refine_gives : (vars : List Var) (g : Rel) (a : Operand) (z : ℤ) (vs : List Value) (xs : List ℤ) → Ranged vars xs → Matches vs xs → T (holds g (value a xs) z) → Gives (refine vars g a z vs) xs
refine_gives vars g (num a) z vs xs r m t = to_gives vs xs m
refine_gives vars g (var k) z vs xs r m t =
    let x = get_or xs k (pos 0) in
    let s = satisfying g z (range_of vars k) in
    let h : Among s x = satisfying_has g z (range_of vars k) x (range_among vars xs k r) t in
    test_gives (le_z s.low s.high) (set vs k (one_of s.low s.high)) xs (le_z_trans s.low x s.high h.0 h.1)
    (matches_learn vs xs k (one_of s.low s.high) m (one_of_matches s.low s.high x (eq_z s.low s.high) refl (both_true (le_z s.low x) (le_z x s.high) h.0 h.1)))

tested_gives : (vars : List Var) (g : Rel) (a b : Operand) (v w : Value) (vs : List Value) (xs : List ℤ) → Ranged vars xs → Matches vs xs → Matches₁ v (value a xs) → Matches₁ w (value b xs) → T (holds g (value a xs) (value b xs)) → Gives (tested vars g a b v w vs) xs
tested_gives vars g a b (known x) (known y) vs xs r m p q t = test_gives (holds g x y) vs xs (rw (p, q) t) m
tested_gives vars g a b (known x) top vs xs r m p q t = refine_gives vars (turned g) b x vs xs r m (subst T (sym (holds_turned g x (value b xs))) (rw p t))
tested_gives vars g a b top (known y) vs xs r m p q t = refine_gives vars g a y vs xs r m (rw q t)
tested_gives vars g a b top top vs xs r m p q t = to_gives vs xs m

pub effect_gives : (vars : List Var) (o : Op) (vs : List Value) (xs ys : List ℤ) → Ranged vars xs → Matches vs xs → Becomes o xs ys → (effect vars o vs ≡ fault) ⊎ ((us : List Value) × (effect vars o vs ≡ to us) × Matches us ys)
unfolding Gives
effect_gives vars (assign v a) vs xs ys r m b =
    rw b (assign_gives vars v (operand_span vars a vs) (operand_value a vs) vs xs (value a xs) m (known_matches a vs xs m))
effect_gives vars (add v a b) vs xs ys r m h = rw h (computed_gives vars v sums ◌+ℤ◌ a b vs xs m)
effect_gives vars (sub v a b) vs xs ys r m h = rw h (computed_gives vars v differences ◌-ℤ◌ a b vs xs m)
effect_gives vars (input v p u) vs xs ys r m h =
    rw h.2 (to_gives (set vs v (one_of p u)) (set xs v h.0) (matches_set vs xs v (one_of p u) h.0 m (one_of_matches p u h.0 (eq_z p u) refl h.1)))
effect_gives vars (assume v t a) vs xs ys r m h =
    rw h.1 (tested_gives vars t (var v) a (operand_value (var v) vs) (operand_value a vs) vs xs r m (known_matches (var v) vs xs m) (known_matches a vs xs m) h.0)
effect_gives vars skip vs xs ys r m h = rw h (to_gives vs xs m)

-- ---- what the moves keep

-- P of the values, where there are any
Whenever : (List Value → Type 0) → Step (List Value) → Type 0
Whenever P blocked = Unit
Whenever P fault = Unit
Whenever P (to us) = P us

-- a known value is all that its span has
abbrev pub Spans : Span → Value → Type 0
Spans r (known z) = r ≡ only z
Spans r top = Unit

pub spans_operand : (vars : List Var) (a : Operand) (vs : List Value) → Spans (operand_span vars a vs) (operand_value a vs)
spans_operand vars (num z) vs = refl
spans_operand vars (var k) vs = go (operand_value (var k) vs)
  where
    go : (v : Value) → Spans (value_span vars k v) v
    go (known z) = refl
    go top = tt

-- so it is of what f and g make, where g is f on spans of one number
pub spans_both : (g : Span → Span → Span) (f : ℤ → ℤ → ℤ) → ((x y : ℤ) → g (only x) (only y) ≡ only (f x y)) → (a b : Span) (v w : Value) → Spans a v → Spans b w → Spans (g a b) (both f v w)
spans_both g f e a b (known x) (known y) h k = (λ i. g (h i) (k i)) ∙ e x y
spans_both g f e a b (known x) top h k = tt
spans_both g f e a b top (known y) h k = tt
spans_both g f e a b top top h k = tt

-- P is kept by a new value at variable k that is Ok there, as each number of k's range and top are
module _ (c : Chart) (P : List Value → Type 0) (Ok : ℕ → Value → Type 0) (known_ok : (k : ℕ) (z : ℤ) → T (in_range c.vars k z) → Ok k (known z)) (top_ok : (k : ℕ) → Ok k top)
    (set_keeps : (k : ℕ) (v : Value) (vs : List Value) → Ok k v → P vs → P (set vs k v)) where
  test_keeps : (b : Bool) (us : List Value) → (T b → P us) → Whenever P (pick b (to us) blocked)
  unfolding Whenever
  test_keeps true us h = h tt
  test_keeps false us h = tt

  assign_keeps : (k : ℕ) (r : Span) (v : Value) (vs : List Value) → Spans r v → P vs → Whenever P (assign_value c.vars k r v vs)
  unfolding Whenever
  assign_keeps k r v vs q h = go (span_in_range c.vars k r) refl
    where
      fits : (w : Value) → Spans r w → T (span_in_range c.vars k r) → Ok k w
      fits (known z) e t = known_ok k z (subst (λ (x : Span). T (in_range c.vars k x.low)) e (and_left (in_range c.vars k r.low) (in_range c.vars k r.high) t))
      fits top e t = top_ok k

      go : (b : Bool) → span_in_range c.vars k r ≡ b → Whenever P (pick b (to (set vs k v)) fault)
      go true e = set_keeps k v vs (fits v q (from_true e)) h
      go false e = tt

  computed_keeps : (k : ℕ) (g : Span → Span → Span) (f : ℤ → ℤ → ℤ) → ((x y : ℤ) → g (only x) (only y) ≡ only (f x y)) → (a b : Operand) (vs : List Value) → P vs → Whenever P (computed c.vars k g f a b vs)
  computed_keeps k g f e a b vs h =
      assign_keeps k (g (operand_span c.vars a vs) (operand_span c.vars b vs)) (both f (operand_value a vs) (operand_value b vs)) vs
      (spans_both g f e (operand_span c.vars a vs) (operand_span c.vars b vs) (operand_value a vs) (operand_value b vs) (spans_operand c.vars a vs) (spans_operand c.vars b vs)) h

  refine_keeps : (g : Rel) (a : Operand) (z : ℤ) (vs : List Value) → P vs → Whenever P (refine c.vars g a z vs)
  unfolding Whenever
  refine_keeps g (num a) z vs h = h
  refine_keeps g (var k) z vs h =
      let s = satisfying g z (range_of c.vars k) in
      test_keeps (le_z s.low s.high) (set vs k (one_of s.low s.high))
      (λ t. set_keeps k (one_of s.low s.high) vs (one_ok (eq_z s.low s.high) s.low (range_in c.vars k s.low (satisfying_ends g z (range_of c.vars k) t).0.0)) h)
    where
      one_ok : (b : Bool) (x : ℤ) → T (in_range c.vars k x) → Ok k (pick b (known x) top)
      one_ok true x t = known_ok k x t
      one_ok false x t = top_ok k

  tested_keeps : (g : Rel) (a b : Operand) (v w : Value) (vs : List Value) → P vs → Whenever P (tested c.vars g a b v w vs)
  unfolding Whenever
  tested_keeps g a b (known x) (known y) vs h = test_keeps (holds g x y) vs (λ t. h)
  tested_keeps g a b (known x) top vs h = refine_keeps (turned g) b x vs h
  tested_keeps g a b top (known y) vs h = refine_keeps g a y vs h
  tested_keeps g a b top top vs h = h

  -- what `in` gives is Ok
  abbrev pub InputOk : Op → Type 0
  InputOk o = (v : ℕ) (p q : ℤ) → o ≡ input v p q → Ok v (one_of p q)

  effect_keeps : (o : Op) (vs : List Value) → InputOk o → P vs → Whenever P (effect c.vars o vs)
  unfolding Whenever
  effect_keeps (assign v a) vs i h = assign_keeps v (operand_span c.vars a vs) (operand_value a vs) vs (spans_operand c.vars a vs) h
  effect_keeps (add v a b) vs i h = computed_keeps v sums ◌+ℤ◌ (λ x y. refl) a b vs h
  effect_keeps (sub v a b) vs i h = computed_keeps v differences ◌-ℤ◌ (λ x y. refl) a b vs h
  effect_keeps (input v p q) vs i h = set_keeps v (one_of p q) vs (i v p q refl) h
  effect_keeps (assume v r a) vs i h = tested_keeps r (var v) a (operand_value (var v) vs) (operand_value a vs) vs h
  effect_keeps skip vs i h = h

  -- a move ends at the edge's target, with P
  pub post_keeps : (g : Edge) (e f : AbstractState) → InputOk g.op → P e.vals → post c g e ≡ to f → (g.to ≡ f.loc) × P f.vals
  unfolding post Whenever
  post_keeps g e f i h p = go (eqb g.from e.loc) p
    where
      ends : (o : Step (List Value)) → Whenever P o → arrive_at g.to o ≡ to f → (g.to ≡ f.loc) × P f.vals
      ends blocked k q = absurd (blocked_to refl q)
      ends fault k q = absurd (fault_to refl q)
      ends (to us) k q =
          let same : ◌≡◌ {A = AbstractState} (record { loc = g.to; vals = us }) f = cc in
          (ap (λ (x : AbstractState). x.loc) same, subst (λ (x : AbstractState). P x.vals) same k)

      go : (b : Bool) → pick b (arrive_at g.to (effect c.vars g.op e.vals)) blocked ≡ to f → (g.to ≡ f.loc) × P f.vals
      go true q = ends (effect c.vars g.op e.vals) (effect_keeps g.op e.vals i h) q
      go false q = absurd (blocked_to refl q)
