-- On a state of known values the abstract move is a run's own, but for what `in` reads. Assumes nothing.
use Rattle.semantics.proofs.Prelude.{◌≡◌, refl, ap, Bool, true, false, ◌&&◌, List, [], ◌∷◌, map, ℕ, zero, suc, eqb, ℤ, pos, ◌+ℤ◌, ◌-ℤ◌, get_or, set, get_or-map}
use Rattle.semantics.specs.Lists.{pick}
use Rattle.semantics.specs.Chart.{Value, known, Var, Operand, num, var, Op, assign, add, sub, input, assume, skip, Edge, Chart, State, Ranged, holds, in_range, value}
use Rattle.semantics.specs.Algorithm.{Step, blocked, fault, to}
use Rattle.semantics.specs.Constants.{AbstractState, operand_value, only, operand_span, assign_value, effect, arrive_at, post}
use Rattle.semantics.specs.Search.{Choice, choose, inputs, stored, apply, at_location, move}
use Rattle.semantics.proofs.Bools.{from_false}
use Rattle.semantics.proofs.StatesOk.{ValsOk}

-- the abstract state that covers this state alone
abbrev pub exactly : State → AbstractState
exactly s = record { loc = s.loc; vals = map known s.vals }

abbrev pub exact_step : Step State → Step AbstractState
exact_step blocked = blocked
exact_step fault = fault
exact_step (to t) = to (exactly t)

abbrev known_step : Step (List ℤ) → Step (List Value)
known_step blocked = blocked
known_step fault = fault
known_step (to xs) = to (map known xs)

-- the operation is an `in`
abbrev pub reads : Op → Bool
reads (assign v a) = false
reads (add v a b) = false
reads (sub v a b) = false
reads (input v p q) = true
reads (assume v r a) = false
reads skip = false

pub one_input : (o : Op) → reads o ≡ false → inputs o ≡ pos 0 ∷ []
one_input (assign v a) e = refl
one_input (add v a b) e = refl
one_input (sub v a b) e = refl
one_input (input v p q) e = absurd (from_false e tt)
one_input (assume v r a) e = refl
one_input skip e = refl

-- ---- values

known_set : (xs : List ℤ) (k : ℕ) (z : ℤ) → set (map known xs) k (known z) ≡ map known (set xs k z)
known_set [] k z = refl
known_set (x ∷ xs) zero z = refl
known_set (x ∷ xs) (suc k) z = ap (λ (l : List Value). known x ∷ l) (known_set xs k z)

module _ (vars : List Var) (xs : List ℤ) where
  value_is : (a : Operand) → operand_value a (map known xs) ≡ known (value a xs)
  value_is (num z) = refl
  value_is (var k) = get_or-map known xs k (pos 0)

  span_is : (a : Operand) → operand_span vars a (map known xs) ≡ only (value a xs)
  span_is (num z) = refl
  span_is (var k) = rw (get_or-map known xs k (pos 0))

  stored_is : (k : ℕ) (z : ℤ) → assign_value vars k (only z) (known z) (map known xs) ≡ known_step (stored vars k z xs)
  stored_is k z = go (in_range vars k z)
    where
      go : (b : Bool) → pick (b && b) (to (set (map known xs) k (known z))) fault ≡ known_step (pick b (to (set xs k z)) fault)
      go true = ap to (known_set xs k z)
      go false = refl

  test_is : (b : Bool) → pick b (to (map known xs)) blocked ≡ known_step (pick b (to xs) blocked)
  test_is true = refl
  test_is false = refl

  effect_is : (o : Op) (z : ℤ) → reads o ≡ false → effect vars o (map known xs) ≡ known_step (apply vars o z xs)
  effect_is (assign v a) z e = rw (span_is a, value_is a) (stored_is v (value a xs))
  effect_is (add v a b) z e = rw (span_is a, span_is b, value_is a, value_is b) (stored_is v (value a xs +ℤ value b xs))
  effect_is (sub v a b) z e = rw (span_is a, span_is b, value_is a, value_is b) (stored_is v (value a xs -ℤ value b xs))
  effect_is (input v p q) z e = absurd (from_false e tt)
  effect_is (assume v r a) z e = rw (value_is (var v), value_is a) (test_is (holds r (get_or xs v (pos 0)) (value a xs)))
  effect_is skip z e = refl

-- ---- moves

arrive_is : (l : ℕ) (o : Step (List ℤ)) → arrive_at l (known_step o) ≡ exact_step (at_location l o)
arrive_is l blocked = refl
arrive_is l fault = refl
arrive_is l (to xs) = refl

module _ (c : Chart) (n : ℕ) (g : Edge) (z : ℤ) (s : State) where
  abbrev a : Choice
  a = choose (record { no = n; edge = g }) z

  pub post_exact : reads g.op ≡ false → post c g (exactly s) ≡ exact_step (move c a s)
  unfolding post move
  post_exact e = rw (effect_is c.vars s.vals g.op z e, arrive_is g.to (apply c.vars g.op z s.vals)) (go (eqb g.from s.loc))
    where
      go : (b : Bool) → pick b (exact_step (at_location g.to (apply c.vars g.op z s.vals))) blocked ≡ exact_step (pick b (at_location g.to (apply c.vars g.op z s.vals)) blocked)
      go true = refl
      go false = refl

-- ---- ranges

pub ranged_known : (vars : List Var) (xs : List ℤ) → Ranged vars xs → ValsOk vars (map known xs)
ranged_known [] [] r = tt
ranged_known [] (x ∷ xs) r = absurd r
ranged_known (v ∷ vs) [] r = absurd r
ranged_known (v ∷ vs) (x ∷ xs) r = (r.0, ranged_known vs xs r.1)

pub known_ranged : (vars : List Var) (xs : List ℤ) → ValsOk vars (map known xs) → Ranged vars xs
known_ranged [] [] r = tt
known_ranged [] (x ∷ xs) r = absurd r
known_ranged (v ∷ vs) [] r = absurd r
known_ranged (v ∷ vs) (x ∷ xs) r = (r.0, known_ranged vs xs r.1)
