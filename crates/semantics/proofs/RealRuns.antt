-- The search over a chart: its moves and overruns are the chart's, so that what it answers is a real run, found exactly when
-- one exists, the shortest and the first. Assumes nothing.
use Rattle.semantics.proofs.Prelude.{◌≡◌, refl, sym, ap, ◌∙◌, subst, inl, inr, Bool, true, false, ◌||◌, not, List, [], ◌∷◌, map, Option, none, some, ℕ, zero, suc, ◌+◌, ◌*◌, ◌≤◌, zero-mul, suc-mul, arith, T, eqb, eqb→eq, eqb_refl, ltb, ltb→lt, lt→ltb, length, length-append, length-map, get_or, set, ℤ, pos, ◌+ℤ◌, ◌-ℤ◌}
use Rattle.semantics.specs.Lists.{pick, In, some_of, all, each}
use Rattle.semantics.specs.Chart.{Value, known, top, Var, Op, assign, add, sub, input, assume, skip, Edge, Chart, Numbered, State, Moves, Overruns, Error, within, holds, in_range, small, Ranged, value, Becomes, result_outside}
use Rattle.semantics.specs.Algorithm.{Step, blocked, fault, to}
use Rattle.semantics.specs.Coverage.{Leads, Execution, system}
use Rattle.semantics.specs.Search.{Trail, here, overrun, by, ErrorRun, moves, run_from, first_run, Choice, up, size, interval, inputs, choose, choices, stored, apply, state, at_location, move, init_values, starting_values, explicit}
use Rattle.semantics.specs.RunListing.{wide_input, init_count, start_count, too_wide}
use Rattle.semantics.specs.Layout.{most_inputs, most_starts}
use Rattle.semantics.specs.Encoding.{init_ok, var_ok, chart_ok}
use Rattle.semantics.specs.RealRuns.{states_of, overrun_of, Follows, Errs, Answers, Reads, choosing, Earlier, Lower, MayRead, last, EndsAt, ErrsWithin, RealRuns, TooMany, SearchSizes}
use Rattle.semantics.proofs.Bools.{from_true, to_true, failed, and_left, and_right, or_left, or_right}
use Rattle.semantics.proofs.AtAndIn.{none_some, some_at, in_some, at_in}
use Rattle.semantics.proofs.StatesOk.{bounds}
use Rattle.semantics.proofs.Covering.{fault_to, blocked_fault, blocked_to}
use Rattle.semantics.proofs.ConstantValues.{ranged_set, ranged_as_set}
use Rattle.semantics.proofs.Searching.{lists, lists_answered}
use Rattle.semantics.proofs.ChartChoices.{interval_in, in_interval, choices_in, in_choices, choices_ascending, Earlier_asymmetric, Lower_asymmetric, starts_initial, initial_starts, starts_ascending}

-- ---- a step

-- the successor, or x where there is none
abbrev next_or : {E : Type 0} → E → Step E → E
next_or x blocked = x
next_or x fault = x
next_or x (to y) = y

to_same : {E : Type 0} (x y : E) → to x ≡ to y → x ≡ y
to_same x y e = ap (next_or x) e

-- ---- an operation

-- what a test leaves
pick_to : {E : Type 0} (b : Bool) (x : E) (y : E) → pick b (to x) blocked ≡ to y → T b × (y ≡ x)
pick_to true x y h = (tt, sym (to_same x y h))
pick_to false x y h = absurd (blocked_to refl h)

stored_to : {E : Type 0} (b : Bool) (x : E) (y : E) → pick b (to x) fault ≡ to y → T b × (y ≡ x)
stored_to true x y h = (tt, sym (to_same x y h))
stored_to false x y h = absurd (fault_to refl h)

stored_fault : {E : Type 0} (b : Bool) (x : E) → pick b (to x) fault ≡ fault → T (not b)
stored_fault true x h = absurd (fault_to h refl)
stored_fault false x h = tt

pick_fault : {E : Type 0} (b : Bool) (x : E) → pick b (to x) blocked ≡ fault → ⊥
pick_fault true x h = fault_to h refl
pick_fault false x h = blocked_fault refl h

module _ (vars : List Var) where
  -- what an operation makes, and by which input value
  abbrev Made : Op → ℤ → List ℤ → List ℤ → Type 0
  Made o z xs ys = Ranged vars ys × Becomes o xs ys × Reads o z xs ys

  stored_made : (v : ℕ) (z : ℤ) (xs ys : List ℤ) → Ranged vars xs → stored vars v z xs ≡ to ys → Ranged vars ys × (ys ≡ set xs v z)
  stored_made v z xs ys r h =
      let p = stored_to (in_range vars v z) (set xs v z) ys h in
      (rw p.1 (ranged_as_set vars xs v z r p.0), p.1)

  apply_sound : (o : Op) (z : ℤ) (xs ys : List ℤ) → Ranged vars xs → In z (inputs o) → apply vars o z xs ≡ to ys → Made o z xs ys
  apply_sound (assign v a) z xs ys r i h = let p = stored_made v (value a xs) xs ys r h in (p.0, p.1, tt)
  apply_sound (add v a b) z xs ys r i h = let p = stored_made v (value a xs +ℤ value b xs) xs ys r h in (p.0, p.1, tt)
  apply_sound (sub v a b) z xs ys r i h = let p = stored_made v (value a xs -ℤ value b xs) xs ys r h in (p.0, p.1, tt)
  apply_sound (input v p q) z xs ys r i h =
      let t = pick_to (in_range vars v z) (set xs v z) ys h in
      (rw t.1 (ranged_as_set vars xs v z r t.0), (z, interval_in p q z i, t.1), t.1)
  apply_sound (assume v t a) z xs ys r i h =
      let p = pick_to (holds t (get_or xs v (pos 0)) (value a xs)) xs ys h in
      (rw p.1 r, (p.0, p.1), tt)
  apply_sound skip z xs ys r i h = let p : ys ≡ xs = sym (to_same xs ys h) in (rw p r, p, tt)

  stored_complete : (v : ℕ) (z : ℤ) (xs ys : List ℤ) → Ranged vars xs → Ranged vars ys → ys ≡ set xs v z → stored vars v z xs ≡ to ys
  stored_complete v z xs ys r q e = rw (to_true (in_range vars v z) (ranged_set vars xs v z (rw e at q)), e)

  apply_complete : (o : Op) (z : ℤ) (xs ys : List ℤ) → Ranged vars xs → Ranged vars ys → Becomes o xs ys → Reads o z xs ys → apply vars o z xs ≡ to ys
  apply_complete (assign v a) z xs ys r q b w = stored_complete v (value a xs) xs ys r q b
  apply_complete (add v a b) z xs ys r q h w = stored_complete v (value a xs +ℤ value b xs) xs ys r q h
  apply_complete (sub v a b) z xs ys r q h w = stored_complete v (value a xs -ℤ value b xs) xs ys r q h
  apply_complete (input v p u) z xs ys r q h w = rw (to_true (in_range vars v z) (ranged_set vars xs v z (rw w at q)), w)
  apply_complete (assume v t a) z xs ys r q h w = rw (to_true (holds t (get_or xs v (pos 0)) (value a xs)) h.0, h.1)
  apply_complete skip z xs ys r q h w = rw h

  apply_fault : (o : Op) (z : ℤ) (xs : List ℤ) → apply vars o z xs ≡ fault → T (result_outside vars o xs)
  apply_fault (assign v a) z xs h = stored_fault (in_range vars v (value a xs)) (set xs v (value a xs)) h
  apply_fault (add v a b) z xs h = stored_fault (in_range vars v (value a xs +ℤ value b xs)) (set xs v (value a xs +ℤ value b xs)) h
  apply_fault (sub v a b) z xs h = stored_fault (in_range vars v (value a xs -ℤ value b xs)) (set xs v (value a xs -ℤ value b xs)) h
  apply_fault (input v p q) z xs h = absurd (pick_fault (in_range vars v z) (set xs v z) h)
  apply_fault (assume v t a) z xs h = absurd (pick_fault (holds t (get_or xs v (pos 0)) (value a xs)) xs h)
  apply_fault skip z xs h = absurd (fault_to h refl)

  fault_apply : (o : Op) (z : ℤ) (xs : List ℤ) → T (result_outside vars o xs) → apply vars o z xs ≡ fault
  fault_apply (assign v a) z xs t = rw (failed (in_range vars v (value a xs)) t)
  fault_apply (add v a b) z xs t = rw (failed (in_range vars v (value a xs +ℤ value b xs)) t)
  fault_apply (sub v a b) z xs t = rw (failed (in_range vars v (value a xs -ℤ value b xs)) t)
  fault_apply (input v p q) z xs t = absurd t
  fault_apply (assume v r a) z xs t = absurd t
  fault_apply skip z xs t = absurd t

  -- only set, add and sub overrun, and these read no input
  overruns_read_nothing : (o : Op) (xs : List ℤ) → T (result_outside vars o xs) → In (pos 0) (inputs o)
  overruns_read_nothing (assign v a) xs t = inl refl
  overruns_read_nothing (add v a b) xs t = inl refl
  overruns_read_nothing (sub v a b) xs t = inl refl
  overruns_read_nothing (input v p q) xs t = absurd t
  overruns_read_nothing (assume v r a) xs t = absurd t
  overruns_read_nothing skip xs t = absurd t

-- the input value of a move
input_of : (o : Op) (xs ys : List ℤ) → Becomes o xs ys → (z : ℤ) × In z (inputs o) × Reads o z xs ys
input_of (assign v a) xs ys b = (pos 0, inl refl, tt)
input_of (add v a b) xs ys h = (pos 0, inl refl, tt)
input_of (sub v a b) xs ys h = (pos 0, inl refl, tt)
input_of (input v p q) xs ys h = (h.0, in_interval p q h.0 h.1, h.2)
input_of (assume v r a) xs ys h = (pos 0, inl refl, tt)
input_of skip xs ys h = (pos 0, inl refl, tt)

only_0 : (z : ℤ) → In z (pos 0 ∷ []) → z ≡ pos 0
only_0 z (inl p) = p
only_0 z (inr q) = absurd q

-- ---- a move

at_location_to : (l : ℕ) (o : Step (List ℤ)) (t : State) → at_location l o ≡ to t → (l ≡ t.loc) × (o ≡ to t.vals)
at_location_to l blocked t h = absurd (blocked_to refl h)
at_location_to l fault t h = absurd (fault_to refl h)
at_location_to l (to xs) t h = let e : state l xs ≡ t = to_same (state l xs) t h in (ap (λ (s : State). s.loc) e, ap (λ (s : State). to s.vals) e)

at_location_fault : (l : ℕ) (o : Step (List ℤ)) → at_location l o ≡ fault → o ≡ fault
at_location_fault l blocked h = absurd (blocked_fault refl h)
at_location_fault l fault h = refl
at_location_fault l (to xs) h = absurd (fault_to h refl)

module _ (c : Chart) where
  -- where the choice's edge goes, and what its operation makes of the values
  move_to : (a : Choice) (s t : State) → move c a s ≡ to t → (a.edge.edge.from ≡ s.loc) × (a.edge.edge.to ≡ t.loc) × (apply c.vars a.edge.edge.op a.input s.vals ≡ to t.vals)
  unfolding move
  move_to a s t h = go (eqb a.edge.edge.from s.loc) refl h
    where
      after : Step (List ℤ)
      after = apply c.vars a.edge.edge.op a.input s.vals

      go : (b : Bool) → eqb a.edge.edge.from s.loc ≡ b → pick b (at_location a.edge.edge.to after) blocked ≡ to t → (a.edge.edge.from ≡ s.loc) × (a.edge.edge.to ≡ t.loc) × (after ≡ to t.vals)
      go true e h = let r = at_location_to a.edge.edge.to after t h in (eqb→eq a.edge.edge.from s.loc (from_true e), r.0, r.1)
      go false e h = absurd (blocked_to refl h)

  move_fault : (a : Choice) (s : State) → move c a s ≡ fault → (a.edge.edge.from ≡ s.loc) × (apply c.vars a.edge.edge.op a.input s.vals ≡ fault)
  unfolding move
  move_fault a s h = go (eqb a.edge.edge.from s.loc) refl h
    where
      after : Step (List ℤ)
      after = apply c.vars a.edge.edge.op a.input s.vals

      go : (b : Bool) → eqb a.edge.edge.from s.loc ≡ b → pick b (at_location a.edge.edge.to after) blocked ≡ fault → (a.edge.edge.from ≡ s.loc) × (after ≡ fault)
      go true e h = (eqb→eq a.edge.edge.from s.loc (from_true e), at_location_fault a.edge.edge.to after h)
      go false e h = absurd (blocked_fault refl h)

  same_place : (l m : ℕ) → l ≡ m → eqb l m ≡ true
  same_place l m e = to_true (eqb l m) (subst (λ (n : ℕ). T (eqb l n)) e (eqb_refl l))

  move_is : (a : Choice) (s : State) (o : Step (List ℤ)) → a.edge.edge.from ≡ s.loc → apply c.vars a.edge.edge.op a.input s.vals ≡ o → move c a s ≡ at_location a.edge.edge.to o
  unfolding move
  move_is a s o e h = rw (same_place a.edge.edge.from s.loc e, h)

  -- ---- trails

  -- the moves of a choice, as the chart has them
  unfoldable pub Taken : Choice → State → State → Type 0
  Taken a s t = Moves c a.edge.edge s t × Reads a.edge.edge.op a.input s.vals t.vals

  pub taken : (a : Choice) (s t : State) → Ranged c.vars s.vals → In a (choices c) → move c a s ≡ to t → Taken a s t
  unfolding Taken
  taken a s t r i h =
      let p = move_to a s t h in
      let m = apply_sound c.vars a.edge.edge.op a.input s.vals t.vals r (choices_in c a i).1 p.2 in
      (record { leaves = p.0; comes = p.1; ranged = m.0; becomes = m.1 }, m.2)

  -- and its overruns
  pub faulted : (a : Choice) (s : State) → move c a s ≡ fault → Overruns c a.edge.edge s
  faulted a s h =
      let p = move_fault a s h in
      record { leaves = p.0; outside = apply_fault c.vars a.edge.edge.op a.input s.vals p.1 }

  moved : (a : Choice) (s t : State) → Ranged c.vars s.vals → Taken a s t → move c a s ≡ to t
  unfolding Taken
  moved a s t r m =
      let e = apply_complete c.vars a.edge.edge.op a.input s.vals t.vals r m.0.ranged m.0.becomes m.1 in
      move_is a s (to t.vals) m.0.leaves e ∙ ap (λ (l : ℕ). to (state l t.vals)) m.0.comes

  listed : (s : State) (r : Trail Choice State) → Ranged c.vars s.vals → Follows (choosing c) s r → Follows (lists (explicit c)) s r
  unfolding Taken
  listed s here g w = w
  listed s (overrun a) g w = (w.0, move_is a s fault w.1.leaves (fault_apply c.vars a.edge.edge.op a.input s.vals w.1.outside))
  listed s (by a t r) g w = (w.0, moved a s t g w.1, listed t r w.1.0.ranged w.2)

  followed : (s : State) (r : Trail Choice State) → Ranged c.vars s.vals → Follows (lists (explicit c)) s r → Follows (choosing c) s r
  unfolding Taken
  followed s here g w = w
  followed s (overrun a) g w = (w.0, faulted a s w.1)
  followed s (by a t r) g w = let m = taken a s t g w.0 w.1 in (w.0, m, followed t r m.0.ranged w.2)

  run_listed : (r : ErrorRun Choice State) → Errs (choosing c) r → Errs (lists (explicit c)) r
  run_listed r w = (initial_starts c r.start w.0, listed r.start r.trail w.0.ranged w.1)

  run_followed : (r : ErrorRun Choice State) → Errs (lists (explicit c)) r → Errs (choosing c) r
  run_followed r w = let i = starts_initial c r.start w.0 in (i, followed r.start r.trail i.ranged w.1)

  -- what the search answers
  pub answered : (k : ℕ) → Answers (choosing c) Lower Earlier k (first_run (explicit c) k)
  answered k =
      let x = lists_answered (explicit c) Lower Earlier (starts_ascending c) (choices_ascending c) Lower_asymmetric Earlier_asymmetric k in
      record {
        sound = λ q h. let w = x.sound q h in (run_followed q w.0, w.1);
        complete = λ r w l. x.complete r (run_listed r w) l;
        shortest = λ q r h w. x.shortest q r h (run_listed r w);
        first = λ q r h w n. x.first q r h (run_listed r w) n;
        none_before = λ q r h w n b. x.none_before q r h (run_listed r w) n b;
      }

  -- ---- executions

  leads : (s : State) (r : Trail Choice State) → Follows (choosing c) s r → Leads (system c) s (states_of r)
  leads s here w = tt
  leads s (overrun a) w = tt
  leads s (by a t r) w = (a.edge, (choices_in c a w.0).0, w.1.0, leads t r w.2)

  one_more : (s : State) (m n : ℕ) (o : Option Choice) → EndsAt c s m n o → EndsAt c s (suc m) (suc n) o
  one_more s m n none e = (e.0, ap suc e.1)
  one_more s m n (some a) e = (e.0, e.1, ap suc e.2)

  ends : (s : State) (r : Trail Choice State) → Follows (choosing c) s r → EndsAt c (last s (states_of r)) (length (states_of r)) (moves r) (overrun_of r)
  ends s here w = (w, refl)
  ends s (overrun a) w = ((choices_in c a w.0).0, w.1, refl)
  ends s (by a t r) w = one_more (last t (states_of r)) (length (states_of r)) (moves r) (overrun_of r) (ends t r w.2)

  -- an execution as a run, from what makes a trail of its last state
  trail_of : (s : State) (ss : List State) (n : ℕ) → Leads (system c) s ss → ((t : State) → last s ss ≡ t → (r : Trail Choice State) × Follows (choosing c) t r × (moves r ≡ n)) → (r : Trail Choice State) × Follows (choosing c) s r × (moves r ≡ length ss + n)
  trail_of s [] n w f = let p = f s refl in let e : moves p.0 ≡ n = p.2 in (p.0, p.1, omega arith)
  trail_of s (t ∷ ss) n w f =
      let g : Numbered = w.0 in
      let z = input_of g.edge.op s.vals t.vals w.2.becomes in
      let p = trail_of t ss n w.3 f in
      let e : moves p.0 ≡ length ss + n = p.2 in
      (by (choose g z.0) t p.0, (in_choices c g z.0 w.1 z.1, (w.2, z.2), p.1), omega arith)

  -- an execution that errs within j moves is a run of no more
  as_run : (j : ℕ) (s : State) (ss : List State) → Execution (system c) (s ∷ ss) → ErrsWithin c j s ss → (r : ErrorRun Choice State) × Errs (choosing c) r × (moves r.trail ≤ j)
  as_run j s ss w (inl h) =
      let p = trail_of s ss 0 w.1 (λ t e. (here, subst (λ (u : State). Error c u) e h.1, refl)) in
      let e : moves p.0 ≡ length ss + 0 = p.2 in
      (run_from s p.0, (w.0, p.1), omega (arith, h.0))
  as_run j s ss w (inr h) =
      let g = h.1.0 in
      let z = overruns_read_nothing c.vars g.edge.op (last s ss).vals h.1.2.outside in
      let p = trail_of s ss 1 w.1 (λ t e. (overrun (choose g (pos 0)), (in_choices c g (pos 0) h.1.1 z, subst (λ (u : State). Overruns c g.edge u) e h.1.2), refl)) in
      let e : moves p.0 ≡ length ss + 1 = p.2 in
      (run_from s p.0, (w.0, p.1), omega (arith, h.0))

  -- ---- the claim

  errs_found : (k : ℕ) (s : State) (ss : List State) → Execution (system c) (s ∷ ss) → ErrsWithin c k s ss → (q : ErrorRun Choice State) × (first_run (explicit c) k ≡ some q)
  errs_found k s ss w h = let r = as_run k s ss w h in (answered k).complete r.0 r.1 r.2

  none_shorter : (k : ℕ) (q : ErrorRun Choice State) → first_run (explicit c) k ≡ some q → (j : ℕ) (s : State) (ss : List State) → Execution (system c) (s ∷ ss) → ErrsWithin c j s ss → moves q.trail ≤ j
  none_shorter k q e j s ss w h = let r = as_run j s ss w h in omega (arith, r.2, (answered k).shortest q r.0 e r.1)

  may_read : (o : Op) (z : ℤ) → In z (inputs o) → MayRead o z
  may_read (assign v a) z i = only_0 z i
  may_read (add v a b) z i = only_0 z i
  may_read (sub v a b) z i = only_0 z i
  may_read (input v p q) z i = interval_in p q z i
  may_read (assume v r a) z i = only_0 z i
  may_read skip z i = only_0 z i

  read_may : (o : Op) (z : ℤ) → MayRead o z → In z (inputs o)
  read_may (assign v a) z i = inl i
  read_may (add v a b) z i = inl i
  read_may (sub v a b) z i = inl i
  read_may (input v p q) z i = in_interval p q z i
  read_may (assume v r a) z i = inl i
  read_may skip z i = inl i

  pub real_runs : (k : ℕ) → RealRuns c k
  real_runs k = record {
    found_runs = λ q h.
        let w = (answered k).sound q h in
        let e = w.0 in
        ((e.0, leads q.start q.trail e.1), ends q.start q.trail e.1, w.1);
    errs_found = errs_found k;
    none_shorter = none_shorter k;
    none_errs = λ n s ss w h. none_some n (errs_found k s ss w h).1;
    answers = answered k;
    chosen = λ a i. let h = choices_in c a i in (h.0, may_read a.edge.edge.op a.input h.1);
    all_chosen = λ a i m. in_choices c a.edge a.input i (read_may a.edge.edge.op a.input m);
  }

-- ---- what 31 counts

up_length : (n : ℕ) (z : ℤ) → length (up n z) ≡ n
up_length zero z = refl
up_length (suc n) z = ap suc (up_length n (z +ℤ pos 1))

pub interval_length : (p q : ℤ) → length (interval p q) ≡ size (q -ℤ p)
unfolding interval
interval_length p q = up_length (size (q -ℤ p)) p

wide_is : (o : Op) → wide_input o ≡ ltb most_inputs (length (inputs o))
wide_is (assign v a) = refl
wide_is (add v a b) = refl
wide_is (sub v a b) = refl
wide_is (input v p q) = ap (ltb most_inputs) (sym (interval_length p q))
wide_is (assume v r a) = refl
wide_is skip = refl

each_length : {A B : Type 0} (f : A → List B) (n : ℕ) (xs : List A) → ((x : A) → length (f x) ≡ n) → length (each f xs) ≡ length xs * n
each_length f n [] h = sym (zero-mul n)
each_length f n (x ∷ xs) h =
    let e : n + length xs * n ≡ suc (length xs) * n = omega (arith, suc-mul (length xs) n) in
    length-append (f x) (each f xs) ∙ (λ i. h x i + each_length f n xs h i) ∙ e

init_counted : (v : Var) → T (var_ok v) → init_count v.lo v.hi v.init ≡ length (init_values v.lo v.hi v.init)
init_counted v t = go v.init (search (and_left, and_right))
  where
    go : (x : Value) → T (init_ok v.lo v.hi x) → init_count v.lo v.hi x ≡ length (init_values v.lo v.hi x)
    go (known z) t = rw (to_true (within v.lo v.hi z) (and_right (small z) (within v.lo v.hi z) t))
    go top t = sym (interval_length v.lo v.hi)

starts_counted : (vars : List Var) → T (all var_ok vars) → start_count vars ≡ length (starting_values vars)
starts_counted [] t = refl
starts_counted (v ∷ vs) t =
    let one = init_counted v (and_left (var_ok v) (all var_ok vs) t) in
    let rest = starts_counted vs (and_right (var_ok v) (all var_ok vs) t) in
    (λ i. one i * rest i)
    ∙ sym (each_length (λ (x : ℤ). map (◌∷◌ x) (starting_values vs)) (length (starting_values vs)) (init_values v.lo v.hi v.init) (λ x. length-map (starting_values vs) (◌∷◌ x)))

module _ (c : Chart) (t : T (chart_ok c)) where
  all_counted : start_count c.vars ≡ length (explicit c).starts
  all_counted = starts_counted c.vars (bounds c t).vars ∙ sym (length-map (starting_values c.vars) (state 0))

  abbrev is_wide : Edge → Bool
  is_wide g = wide_input g.op

  wide_many : T (too_wide c) → TooMany c
  unfolding too_wide
  wide_many h = go (some_of is_wide c.edges) refl h
    where
      go : (b : Bool) → some_of is_wide c.edges ≡ b → T (b || ltb most_starts (start_count c.vars)) → TooMany c
      go true e h =
          let r = some_at is_wide c.edges (from_true e) in
          inl (r.1, at_in c.edges r.0 r.1 r.2, ltb→lt most_inputs (length (inputs r.1.op)) (subst T (wide_is r.1.op) r.3))
      go false e h = inr (ltb→lt most_starts (length (explicit c).starts) (subst (λ (n : ℕ). T (ltb most_starts n)) all_counted h))

  many_wide : TooMany c → T (too_wide c)
  unfolding too_wide
  many_wide (inl h) =
      or_left (some_of is_wide c.edges) (ltb most_starts (start_count c.vars))
      (in_some is_wide c.edges h.0 h.1 (subst T (sym (wide_is h.0.op)) (lt→ltb most_inputs (length (inputs h.0.op)) h.2)))
  many_wide (inr h) =
      or_right (some_of is_wide c.edges) (ltb most_starts (start_count c.vars))
      (subst (λ (n : ℕ). T (ltb most_starts n)) (sym all_counted) (lt→ltb most_starts (length (explicit c).starts) h))

pub search_sizes : (c : Chart) → SearchSizes c
search_sizes c = record { wide_many = wide_many c; many_wide = many_wide c }
