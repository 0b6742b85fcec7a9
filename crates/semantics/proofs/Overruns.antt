-- Overruns are exact: of runs, what is without a move and nothing else; of abstract moves, by the ends of spans, what
-- document 02 says of all results. Assumes nothing.
use Rattle.semantics.proofs.Prelude.{◌≡◌, refl, ap, ◌∙◌, subst, ◌⊎◌, inl, inr, Bool, true, false, ◌&&◌, not, List, [], ◌∷◌, ℕ, zero, suc, ◌<◌, T, eqb, eqb→eq, ltb, ltb→lt, length, set, ℤ, ◌+ℤ◌, ◌-ℤ◌, le_z}
use Rattle.semantics.specs.declared.Span.{Span}
use Rattle.semantics.specs.Lists.{pick, all}
use Rattle.semantics.specs.Chart.{Value, known, top, Var, Operand, num, var, Op, assign, add, sub, input, assume, skip, Edge, Chart, within, in_range, Ranged, value, Becomes, result_outside, holds, Rel}
use Rattle.semantics.specs.Algorithm.{Step, blocked, fault, to}
use Rattle.semantics.specs.Constants.{AbstractState, operand_value, range_of, value_span, operand_span, sums, differences, assign_value, one_of, turned, satisfying, refine, tested, effect, arrive_at, post}
use Rattle.semantics.specs.Encoding.{var_ok, operand_ok, op_ok, edge_ok, chart_ok}
use Rattle.semantics.specs.Exact.{CanOverrun, OverrunsExactly, MayBe, OperandMayBe, SomeOutside, FaultsExactly}
use Rattle.semantics.proofs.Bools.{from_true, and_left, and_right, both_true, not_both}
use Rattle.semantics.proofs.Integers.{le_z_refl}
use Rattle.semantics.proofs.SpanNumbers.{Among, among_only, among_sums, among_differences}
use Rattle.semantics.proofs.Covering.{blocked_fault, fault_to}
use Rattle.semantics.proofs.ConstantValues.{ranged_set, ranged_as_set, in_range_of, assign_faults, computed_faults}
use Rattle.semantics.proofs.ConstantsSound.{along}
use Rattle.semantics.proofs.StatesOk.{bounds}

-- ---- of runs

no_move_to : (vars : List Var) (xs ys : List ℤ) (k : ℕ) (z : ℤ) → Ranged vars ys → ys ≡ set xs k z → T (not (in_range vars k z)) → ⊥
no_move_to vars xs ys k z q e t = not_both (in_range vars k z) (ranged_set vars xs k z (subst (Ranged vars) e q)) t

no_move : (vars : List Var) (o : Op) (xs ys : List ℤ) → Ranged vars ys → Becomes o xs ys → T (result_outside vars o xs) → ⊥
no_move vars (assign v a) xs ys q e t = no_move_to vars xs ys v (value a xs) q e t
no_move vars (add v a b) xs ys q e t = no_move_to vars xs ys v (value a xs +ℤ value b xs) q e t
no_move vars (sub v a b) xs ys q e t = no_move_to vars xs ys v (value a xs -ℤ value b xs) q e t
no_move vars (input v p u) xs ys q e t = t
no_move vars (assume v g a) xs ys q e t = t
no_move vars skip xs ys q e t = t

can_overrun : (vars : List Var) (o : Op) (xs : List ℤ) → T (result_outside vars o xs) → CanOverrun o
can_overrun vars (assign v a) xs t = tt
can_overrun vars (add v a b) xs t = tt
can_overrun vars (sub v a b) xs t = tt
can_overrun vars (input v p u) xs t = t
can_overrun vars (assume v g a) xs t = t
can_overrun vars skip xs t = t

moves_to : (vars : List Var) (xs : List ℤ) (k : ℕ) (z : ℤ) → Ranged vars xs → (T (not (in_range vars k z)) → ⊥) → Ranged vars (set xs k z)
moves_to vars xs k z r h = ranged_as_set vars xs k z r (go (in_range vars k z) h)
  where
    go : (b : Bool) → (T (not b) → ⊥) → T b
    go true h = tt
    go false h = h tt

else_moves : (vars : List Var) (o : Op) (xs : List ℤ) → Ranged vars xs → CanOverrun o → (T (result_outside vars o xs) → ⊥) → (ys : List ℤ) × Ranged vars ys × Becomes o xs ys
else_moves vars (assign v a) xs r s h = let z = value a xs in (set xs v z, moves_to vars xs v z r h, refl)
else_moves vars (add v a b) xs r s h = let z = value a xs +ℤ value b xs in (set xs v z, moves_to vars xs v z r h, refl)
else_moves vars (sub v a b) xs r s h = let z = value a xs -ℤ value b xs in (set xs v z, moves_to vars xs v z r h, refl)
else_moves vars (input v p u) xs r s h = absurd s
else_moves vars (assume v g a) xs r s h = absurd s
else_moves vars skip xs r s h = absurd s

pub overruns_exactly : OverrunsExactly
overruns_exactly = record {
  only_these = λ c g s o. (can_overrun c.vars g.op s.vals o.outside, o.leaves);
  no_move = λ c g s t o m. no_move c.vars g.op s.vals t.vals m.ranged m.becomes o.outside;
  else_moves = λ c g s r a l h.
      let u = else_moves c.vars g.op s.vals r a (λ t. h (record { leaves = l; outside = t })) in
      (record { loc = g.to; vals = u.0 }, record { leaves = l; comes = refl; ranged = u.1; becomes = u.2 });
}

-- ---- of abstract moves: what an operand may be is what its span has

-- the ends of a variable's range are numbers of it
range_ends : (vars : List Var) (k : ℕ) → T (all var_ok vars) → T (in_range vars k (range_of vars k).low) × T (in_range vars k (range_of vars k).high)
range_ends [] k t = (tt, tt)
range_ends (v ∷ vs) zero t =
    let u : T (var_ok v) = and_left (var_ok v) (all var_ok vs) t in
    let h : T (le_z v.lo v.hi) = search (and_left, and_right) depth 8 in
    (both_true (le_z v.lo v.lo) (le_z v.lo v.hi) (le_z_refl v.lo) h, both_true (le_z v.lo v.hi) (le_z v.hi v.hi) h (le_z_refl v.hi))
range_ends (v ∷ vs) (suc k) t = range_ends vs k (and_right (var_ok v) (all var_ok vs) t)

among_range : (vars : List Var) (k : ℕ) (x : ℤ) → k < length vars → T (in_range vars k x) → Among (range_of vars k) x
among_range vars k x l t =
    let r = range_of vars k in
    let s : T (within r.low r.high x) = subst T (in_range_of vars k x l) t in
    (and_left (le_z r.low x) (le_z x r.high) s, and_right (le_z r.low x) (le_z x r.high) s)

module _ (vars : List Var) where
  among : (a : Operand) (vs : List Value) (x : ℤ) → T (operand_ok vars a) → OperandMayBe vars a vs x → Among (operand_span vars a vs) x
  among (num z) vs x o m = among_only z x m
  among (var k) vs x o m = go (operand_value (var k) vs) m
    where
      go : (v : Value) → MayBe vars k v x → Among (value_span vars k v) x
      go (known z) m = among_only z x m
      go top m = among_range vars k x (ltb→lt k (length vars) o) m

  -- both ends may be the operand's value
  ends : (a : Operand) (vs : List Value) → T (all var_ok vars) → OperandMayBe vars a vs (operand_span vars a vs).low × OperandMayBe vars a vs (operand_span vars a vs).high
  ends (num z) vs t = (refl, refl)
  ends (var k) vs t = go (operand_value (var k) vs)
    where
      go : (v : Value) → MayBe vars k v (value_span vars k v).low × MayBe vars k v (value_span vars k v).high
      go (known z) = (refl, refl)
      go top = range_ends vars k t

  -- ---- the effect

  outside_faults : (o : Op) (vs : List Value) → T (op_ok vars o) → SomeOutside vars o vs → effect vars o vs ≡ fault
  outside_faults (assign v a) vs ok s =
      assign_faults vars v (operand_span vars a vs) (operand_value a vs) vs s.0 (among a vs s.0 (search (and_left, and_right)) s.1) s.2
  outside_faults (add v a b) vs ok s =
      computed_faults vars v sums ◌+ℤ◌ among_sums a b vs s.0 s.1 (among a vs s.0 (search (and_left, and_right)) s.2) (among b vs s.1 (search (and_left, and_right)) s.3) s.4
  outside_faults (sub v a b) vs ok s =
      computed_faults vars v differences ◌-ℤ◌ among_differences a b vs s.0 s.1 (among a vs s.0 (search (and_left, and_right)) s.2) (among b vs s.1 (search (and_left, and_right)) s.3) s.4
  outside_faults (input v p q) vs ok s = absurd s
  outside_faults (assume v r a) vs ok s = absurd s
  outside_faults skip vs ok s = absurd s

  -- a fault of an assignment comes of one end
  one_end : (k : ℕ) (r : Span) (v : Value) (vs : List Value) → assign_value vars k r v vs ≡ fault → T (not (in_range vars k r.low)) ⊎ T (not (in_range vars k r.high))
  one_end k r v vs e = go (in_range vars k r.low) (in_range vars k r.high) e
    where
      go : (p q : Bool) → pick (p && q) (to (set vs k v)) fault ≡ fault → T (not p) ⊎ T (not q)
      go false q e = inl tt
      go true false e = inr tt
      go true true e = absurd (fault_to e refl)

  test_faultless : (b : Bool) (vs : List Value) → pick b (to vs) blocked ≡ fault → ⊥
  test_faultless true vs e = fault_to e refl
  test_faultless false vs e = blocked_fault refl e

  refine_faultless : (g : Rel) (a : Operand) (z : ℤ) (vs : List Value) → refine vars g a z vs ≡ fault → ⊥
  refine_faultless g (num a) z vs e = fault_to e refl
  refine_faultless g (var k) z vs e =
      let s = satisfying g z (range_of vars k) in
      test_faultless (le_z s.low s.high) (set vs k (one_of s.low s.high)) e

  tested_faultless : (r : Rel) (a b : Operand) (v w : Value) (vs : List Value) → tested vars r a b v w vs ≡ fault → ⊥
  tested_faultless r a b (known x) (known y) vs e = test_faultless (holds r x y) vs e
  tested_faultless r a b (known x) top vs e = refine_faultless (turned r) b x vs e
  tested_faultless r a b top (known y) vs e = refine_faultless r a y vs e
  tested_faultless r a b top top vs e = fault_to e refl

  some_outside : (o : Op) (vs : List Value) → T (all var_ok vars) → effect vars o vs ≡ fault → SomeOutside vars o vs
  some_outside (assign v a) vs t e =
      let m = ends a vs t in
      elim (one_end v (operand_span vars a vs) (operand_value a vs) vs e) [ inl h ↦ (_, m.0, h) | inr h ↦ (_, m.1, h) ]
  some_outside (add v a b) vs t e =
      let m = ends a vs t in
      let n = ends b vs t in
      elim (one_end v (sums (operand_span vars a vs) (operand_span vars b vs)) _ vs e) [ inl h ↦ (_, _, m.0, n.0, h) | inr h ↦ (_, _, m.1, n.1, h) ]
  some_outside (sub v a b) vs t e =
      let m = ends a vs t in
      let n = ends b vs t in
      elim (one_end v (differences (operand_span vars a vs) (operand_span vars b vs)) _ vs e) [ inl h ↦ (_, _, m.0, n.1, h) | inr h ↦ (_, _, m.1, n.0, h) ]
  some_outside (input v p q) vs t e = fault_to e refl
  some_outside (assume v r a) vs t e = tested_faultless r (var v) a (operand_value (var v) vs) (operand_value a vs) vs e
  some_outside skip vs t e = fault_to e refl

module _ (c : Chart) (g : Edge) (e : AbstractState) where
  faults : T (edge_ok c g) → g.from ≡ e.loc → SomeOutside c.vars g.op e.vals → post c g e ≡ fault
  faults ok l s =
      let fine : T (op_ok c.vars g.op) = and_right (ltb g.from (length c.locs) && ltb g.to (length c.locs)) (op_ok c.vars g.op) ok in
      along c g e e.loc l refl ∙ ap (arrive_at g.to) (outside_faults c.vars g.op e.vals fine s)

  no_other : T (chart_ok c) → post c g e ≡ fault → (g.from ≡ e.loc) × SomeOutside c.vars g.op e.vals
  unfolding post
  no_other ok p = go (eqb g.from e.loc) refl p
    where
      by_effect : (o : Step (List Value)) → arrive_at g.to o ≡ fault → o ≡ fault
      by_effect blocked q = absurd (blocked_fault refl q)
      by_effect fault q = refl
      by_effect (to us) q = absurd (fault_to q refl)

      go : (b : Bool) → eqb g.from e.loc ≡ b → pick b (arrive_at g.to (effect c.vars g.op e.vals)) blocked ≡ fault → (g.from ≡ e.loc) × SomeOutside c.vars g.op e.vals
      go true l q = (eqb→eq g.from e.loc (from_true l), some_outside c.vars g.op e.vals (bounds c ok).vars (by_effect (effect c.vars g.op e.vals) q))
      go false l q = absurd (blocked_fault refl q)

pub faults_exactly : FaultsExactly
faults_exactly = record { faults = faults; no_other = no_other }
