-- A move of rows: the transfer on a row of known values, and what `in` reads, is the move of the chart. Assumes nothing.
use lib.Seq.{set-set}
use Rattle.semantics.proofs.Prelude.{◌≡◌, refl, sym, ap, ◌∙◌, subst, Bool, true, false, ◌&&◌, List, [], ◌∷◌, map, some, ℕ, zero, suc, ◌+◌, ◌-◌, ◌≤◌, ◌<◌, add-one, arith, T, eqb, ltb, le_z, nat_abs, ℤ, pos, length, drop, set, get_or-drop}
use Rattle.semantics.specs.Layout.{operation_place, target_place, first_value_place, second_value_place, in_code, index_limit, most_edges}
use Rattle.semantics.specs.Lists.{At, In, get, pick}
use Rattle.semantics.specs.Chart.{Value, known, Op, input, Operand, Edge, Chart, Numbered, number_from, numbered, State, within, in_range}
use Rattle.semantics.specs.Algorithm.{Step, blocked, fault, to}
use Rattle.semantics.specs.Constants.{AbstractState, one_of, arrive_at, effect, post}
use Rattle.semantics.specs.Encoding.{word, word_at, count, op_of, op_ok, decode, well_formed}
use Rattle.semantics.specs.Search.{choose, inputs, apply, state, at_location, move}
use Rattle.semantics.proofs.Bools.{to_true, and_left, and_right}
use Rattle.semantics.proofs.AtAndIn.{none_some}
use Rattle.semantics.proofs.ConstantValues.{ranged_as_set, between}
use Rattle.semantics.proofs.Encoded.{well_formed_split, formed_bounds}
use Rattle.semantics.proofs.Decoded.{edges_count}
use Rattle.semantics.proofs.Simulate.{AllPairs, StepR}
use Rattle.semantics.proofs.ChartChoices.{interval_in}
use Rattle.chart.specs.declared.EdgeRow.{EdgeRow}
use Rattle.chart.proofs.Places.{edge_got, edges_near}
use Rattle.state.specs.Rows.{location_in, values_of, row_at, with_value}
use Rattle.transfer.specs.Transfer.{step_of, edges_from, post_at, post_words}
use Rattle.transfer.specs.declared.Move.{Move}
use Rattle.transfer.specs.declared.Move.TheVariants.{Blocked, Fault, Successor}
use Rattle.transfer.proofs.Agree.{Says, SameEdge, edges_say, agree}
use Rattle.descent.specs.Rows.{state_of, Concrete, edge_of, IsEdge, Movable, Advanced}
use Rattle.descent.proofs.Exactly.{exactly, exact_step, reads, post_exact, ranged_known, known_ranged}

-- ---- an edge of the chart

pairs_at : {A B : Type 0} (R : A → B → Type 0) (xs : List A) (ys : List B) (n : ℕ) (y : B) → AllPairs R xs ys → At ys n y → (x : A) × At xs n x × R x y
pairs_at R [] [] n y a h = absurd h
pairs_at R [] (v ∷ ys) n y a h = absurd a
pairs_at R (x ∷ xs) [] n y a h = absurd a
pairs_at R (x ∷ xs) (v ∷ ys) zero y a h = (x, refl, subst (R x) h a.0)
pairs_at R (x ∷ xs) (v ∷ ys) (suc n) y a h = pairs_at R xs ys n y a.1 h

from_place : (g n i x : ℕ) → At (edges_from g n) i x → x ≡ g + i
from_place g zero i x h = absurd h
from_place g (suc n) zero x h = omega (arith, h)
from_place g (suc n) (suc i) x h = omega (arith, from_place (suc g) n i x h)

number_at : (n : ℕ) (gs : List Edge) (i : ℕ) (g : Edge) → get gs i ≡ some g → At (number_from n gs) i (record { no = n + i; edge = g })
number_at n [] i g h = absurd (none_some refl h)
number_at n (e ∷ gs) zero g h = let z : n ≡ n + 0 = omega arith in let s : e ≡ g = cc in λ i. record { no = z i; edge = s i }
number_at n (e ∷ gs) (suc i) g h = let z : suc n + i ≡ n + suc i = omega arith in subst (λ (k : ℕ). At (number_from (suc n) gs) i (record { no = k; edge = g })) z (number_at (suc n) gs i g h)

module _ (ws : List ℤ) (formed : T (well_formed ws)) (e : EdgeRow) (is : IsEdge ws e) where
  pub edge_small : e.at < index_limit
  edge_small = omega (arith, is.some, is.within, is.at, edges_near ws formed)

  pub edge_few : e.id.0 ≤ most_edges
  edge_few = omega (arith, is.within, edges_count ws, (formed_bounds ws formed).few_edges)

  edge_there : get (decode ws).edges (e.id.0 - 1) ≡ some (edge_of ws e).edge
  edge_there = edge_got ws (e.id.0 - 1) e.at (omega (arith, is.some, is.within)) is.at

  pub edge_numbered : At (numbered (decode ws)) (e.id.0 - 1) (edge_of ws e)
  edge_numbered =
      let n : 1 + (e.id.0 - 1) ≡ e.id.0 = omega (arith, is.some) in
      subst (λ (k : ℕ). At (numbered (decode ws)) (e.id.0 - 1) (record { no = k; edge = (edge_of ws e).edge })) n (number_at 1 (decode ws).edges (e.id.0 - 1) (edge_of ws e).edge edge_there)

  pub same_edge : SameEdge (decode ws) (e.id.0 - 1) (edge_of ws e)
  same_edge =
      let c = decode ws in
      let r = pairs_at (SameEdge c) (edges_from 0 (length c.edges)) (numbered c) (e.id.0 - 1) (edge_of ws e) (edges_say c (well_formed_split ws formed).1) edge_numbered in
      let x : r.0 ≡ e.id.0 - 1 = omega (arith, from_place 0 (length c.edges) (e.id.0 - 1) r.0 r.1) in
      subst (λ (k : ℕ). SameEdge c k (edge_of ws e)) x r.2

  pub edge_op_ok : T (op_ok (decode ws).vars (edge_of ws e).edge.op)
  edge_op_ok =
      let g = (edge_of ws e).edge in
      and_right (ltb g.from (length (decode ws).locs) && ltb g.to (length (decode ws).locs)) (op_ok (decode ws).vars g.op) same_edge.ok

-- ---- its location and its operation, by its words

op_in : (n v : ℕ) (a b : Operand) (x y : ℤ) → n ≡ in_code → op_of n v a b x y ≡ input v x y
op_in n v a b x y h = rw h

op_not_in : (n v : ℕ) (a b : Operand) (x y : ℤ) → (n ≡ in_code → ⊥) → reads (op_of n v a b x y) ≡ false
op_not_in zero v a b x y h = refl
op_not_in (suc zero) v a b x y h = refl
op_not_in (suc (suc zero)) v a b x y h = refl
op_not_in (suc (suc (suc zero))) v a b x y h = refl
op_not_in (suc (suc (suc (suc zero)))) v a b x y h = absurd (h refl)
op_not_in (suc (suc (suc (suc (suc zero))))) v a b x y h = refl
op_not_in (suc (suc (suc (suc (suc (suc zero)))))) v a b x y h = refl
op_not_in (suc (suc (suc (suc (suc (suc (suc zero))))))) v a b x y h = refl
op_not_in (suc (suc (suc (suc (suc (suc (suc (suc zero)))))))) v a b x y h = refl
op_not_in (suc (suc (suc (suc (suc (suc (suc (suc (suc zero))))))))) v a b x y h = refl
op_not_in (suc (suc (suc (suc (suc (suc (suc (suc (suc (suc n)))))))))) v a b x y h = refl

module _ (ws : List ℤ) (e : EdgeRow) where
  -- the location that it leaves
  pub leaves : (edge_of ws e).edge.from ≡ count ws e.at
  leaves = ap nat_abs (get_or-drop e.at ws 0 (pos 0)) ∙ ap (count ws) (omega arith)

  code_is : count (drop e.at ws) operation_place ≡ count ws (e.at + operation_place)
  code_is = ap nat_abs (get_or-drop e.at ws operation_place (pos 0))

  pub in_op : count ws (e.at + operation_place) ≡ in_code → (edge_of ws e).edge.op ≡ input (count ws (e.at + target_place)) (word_at ws (e.at + first_value_place)) (word_at ws (e.at + second_value_place))
  in_op h =
      op_in _ _ _ _ _ _ (code_is ∙ h)
      ∙ rw (get_or-drop e.at ws target_place (pos 0), get_or-drop e.at ws first_value_place (pos 0), get_or-drop e.at ws second_value_place (pos 0))

  pub other_op : (count ws (e.at + operation_place) ≡ in_code → ⊥) → reads (edge_of ws e).edge.op ≡ false
  other_op h = op_not_in _ _ _ _ _ _ (λ k. h (sym code_is ∙ k))

-- ---- a row of known values

words_known : (xs : List ℤ) → map word (map known xs) ≡ xs
words_known [] = refl
words_known (x ∷ xs) = ap (λ (l : List ℤ). x ∷ l) (words_known xs)

module _ (c : Chart) where
  pub concrete_says : (e : List ℤ) → Concrete c e → Says c e (exactly (state_of e))
  concrete_says e k = record {
    words = k.words ∙ ap (λ (l : List ℤ). pos (location_in e) ∷ l) (sym (words_known (values_of e)));
    ok = record { loc = k.location; vals = ranged_known c.vars (values_of e) k.ranged };
  }

  -- a row that says a state of known values is that state's
  says_state : (e : List ℤ) (t : State) → Says c e (exactly t) → (t ≡ state_of e) × Concrete c e
  says_state e t r =
      let w : e ≡ row_at t.loc t.vals = r.words ∙ ap (λ (l : List ℤ). pos t.loc ∷ l) (words_known t.vals) in (
        ap state_of (sym w),
        rw w (record { words = refl; location = r.ok.loc; ranged = known_ranged c.vars t.vals r.ok.vals }),
      )

  advanced : (r : Move) (o : Step State) (out : List ℤ) → StepR (Says c) (step_of r out) (exact_step o) → Advanced c o out r
  advanced Blocked blocked out h = refl
  advanced Blocked fault out h = absurd h
  advanced Blocked (to t) out h = absurd h
  advanced Fault blocked out h = absurd h
  advanced Fault fault out h = refl
  advanced Fault (to t) out h = absurd h
  advanced Successor blocked out h = absurd h
  advanced Successor fault out h = absurd h
  advanced Successor (to t) out h = let s = says_state out t h in (ap to s.0, s.1)

-- ---- the moves of the code

map_set : (xs : List Value) (k : ℕ) (x : Value) → map word (set xs k x) ≡ set (map word xs) k (word x)
map_set [] k x = refl
map_set (y ∷ ys) zero x = refl
map_set (y ∷ ys) (suc k) x = ap (λ (l : List ℤ). word y ∷ l) (map_set ys k x)

-- a value written over the one that an `in` left
over_input : (n : ℤ) (xs : List ℤ) (k : ℕ) (x : Value) (z : ℤ) → with_value (n ∷ map word (set (map known xs) k x)) k z ≡ n ∷ set xs k z
over_input n xs k x z =
    rw (add-one k) (ap (λ (l : List ℤ). n ∷ l) (ap (λ (l : List ℤ). set l k z) (map_set (map known xs) k x ∙ ap (λ (l : List ℤ). set l k (word x)) (words_known xs)) ∙ set-set xs k (word x) z))

module _ (ws : List ℤ) (formed : T (well_formed ws)) (e : EdgeRow) (z : ℤ) (row out : List ℤ) (h : Movable ws e z row out) where
  abbrev c : Chart
  c = decode ws

  abbrev g : Numbered
  g = edge_of ws e

  abbrev s : State
  s = state_of row

  pub row_some : 0 < length row
  row_some = rw h.concrete.words (omega arith)

  -- the transfer on the row is the abstract move of its state
  transferred : (r : Move) (out' : List ℤ) → step_of r out' ≡ post_at ws e.at row → StepR (Says c) (step_of r out') (post c g.edge (exactly s))
  unfolding post_words
  transferred r out' p =
      let q = (agree ws formed).post (e.id.0 - 1) g row (exactly s) (same_edge ws formed e h.edge) (concrete_says c row h.concrete) in
      subst (λ (o : Step (List ℤ)). StepR (Says c) o (post c g.edge (exactly s))) (ap (λ (i : ℕ). post_at ws i row) (sym h.edge.at) ∙ sym p) q

  pub advanced_by : (r : Move) (out' : List ℤ) → (count ws (e.at + operation_place) ≡ in_code → ⊥) → step_of r out' ≡ post_at ws e.at row → Advanced c (move c (choose g z) s) out' r
  advanced_by r out' n p =
      advanced c r (move c (choose g z) s) out'
      (subst (λ (o : Step AbstractState). StepR (Says c) (step_of r out') o) (post_exact c g.no g.edge z s (other_op ws e n)) (transferred r out' p))

  pub advanced_input : (r : Move) (out' : List ℤ) (k : ℕ) → count ws (e.at + operation_place) ≡ in_code → k ≡ count ws (e.at + target_place) → step_of r out' ≡ post_at ws e.at row → Advanced c (move c (choose g z) s) (with_value out' k z) r
  unfolding post move
  advanced_input r out' k n t p =
      let o = in_op ws e n in
      let v = count ws (e.at + target_place) in
      let lo = word_at ws (e.at + first_value_place) in
      let hi = word_at ws (e.at + second_value_place) in
      let fine : T (op_ok c.vars (input v lo hi)) = subst (λ (x : Op). T (op_ok c.vars x)) o (edge_op_ok ws formed e h.edge) in
      let w : T (within lo hi z) = interval_in lo hi z (subst (λ (x : Op). In z (inputs x)) o h.input) in
      let inside : T (in_range c.vars v z) = between c.vars v lo z hi (and_left (le_z lo z) (le_z z hi) w) (and_right (le_z lo z) (le_z z hi) w) (search (and_left, and_right) depth 8) (search (and_left, and_right) depth 8) in
      let q : StepR (Says c) (step_of r out') (pick (eqb g.edge.from s.loc) (arrive_at g.edge.to (effect c.vars (input v lo hi) (map known s.vals))) blocked) = rw o at (transferred r out' p) in
      let m : pick (eqb g.edge.from s.loc) (at_location g.edge.to (apply c.vars g.edge.op z s.vals)) blocked ≡ pick (eqb g.edge.from s.loc) (to (state g.edge.to (set s.vals v z))) blocked = rw (o, to_true (in_range c.vars v z) inside) in
      subst (λ (x : Step State). Advanced c x (with_value out' k z) r) (sym m) (rw t (go (eqb g.edge.from s.loc) r v (one_of lo hi) inside q))
    where
      go : (b : Bool) (r : Move) (v : ℕ) (x : Value) → T (in_range c.vars v z) → StepR (Says c) (step_of r out') (pick b (to (record { loc = g.edge.to; vals = set (map known s.vals) v x })) blocked) → Advanced c (pick b (to (state g.edge.to (set s.vals v z))) blocked) (with_value out' v z) r
      go true Blocked v x i q = absurd q
      go true Fault v x i q = absurd q
      go true Successor v x i q =
          let l : with_value out' v z ≡ row_at g.edge.to (set s.vals v z) = ap (λ (l : List ℤ). with_value l v z) q.words ∙ over_input (pos g.edge.to) s.vals v x z in
          rw l (refl, record { words = refl; location = q.ok.loc; ranged = ranged_as_set c.vars s.vals v z h.concrete.ranged i })
      go false Blocked v x i q = refl
      go false Fault v x i q = absurd q
      go false Successor v x i q = absurd q
