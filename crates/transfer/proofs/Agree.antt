-- The rows of words, with the transfer by the encoded chart, agree with the abstract states of the chart.
-- Assumes nothing.
use Rattle.semantics.proofs.Prelude.{◌≡◌, refl, sym, ap, subst, ◌∙◌, Bool, true, false, ◌&&◌, List, [], ◌∷◌, ◌++◌, map, ℕ, suc, ◌+◌, ◌<◌, zero-add, arith, T, eqb, eqb_refl, ltb→lt, ℤ, pos, nat_abs, length, drop}
use Rattle.semantics.specs.Layout.{top_word, from_place, to_place}
use Rattle.semantics.specs.Lists.{At, pick, all, all_pairs}
use Rattle.semantics.specs.Chart.{Value, known, top, Edge, Numbered, number_from, numbered, Chart, eq_z, error_location}
use Rattle.semantics.specs.Algorithm.{Step, blocked, fault, to}
use Rattle.semantics.specs.Constants.{AbstractState, equal_value, leq_value, join_value, join_values, same_location, equal, leq, join, join_all, leq_join_all, effect, arrive_at, post, constants, initial}
use Rattle.semantics.specs.Tidy.{Every}
use Rattle.semantics.specs.Encoding.{word, encode, count, decode, op_ok, edge_ok, chart_ok, well_formed}
use Rattle.semantics.specs.Memory.{row}
use Rattle.semantics.proofs.Bools.{and_left, and_right}
use Rattle.semantics.proofs.Tidy.{Keeps}
use Rattle.semantics.proofs.StatesOk.{StateOk, join_ok, bounds, states_kept, initial_ok}
use Rattle.semantics.proofs.Encoded.{well_formed_split}
use Rattle.semantics.proofs.Simulate.{AllPairs, StepR, Agree}
use Rattle.semantics.proofs.Integers.{eq_z_sym}
use Rattle.state.specs.Rows.{word_limit, id_word, word_leq, word_join, words_join, same_words, same_place, row_leq, row_join, join_of, leq_join_of, row_domain}
use Rattle.state.proofs.Layouts.{id_fits}
use Rattle.transfer.specs.Transfer.{edge_at, edges_from, post_at, post_words, error_row, initial_row}
use Rattle.transfer.proofs.Places.{edge_word, error_is, initial_is}
use Rattle.transfer.proofs.Effects.{Writable, AllPlain, values_plain, row_step, effect_is}

-- ---- one value

equal_is : (x y : Value) → Writable x → Writable y → eq_z (word x) (word y) ≡ equal_value x y
equal_is (known a) (known b) p q = refl
equal_is (known a) top p q = p
equal_is top (known b) p q = eq_z_sym top_word b ∙ q
equal_is top top p q = refl

leq_is : (x y : Value) → Writable x → Writable y → word_leq (word x) (word y) ≡ leq_value x y
leq_is (known a) (known b) p q = rw q
leq_is (known a) top p q = refl
leq_is top (known b) p q = rw (q, eq_z_sym top_word b, q)
leq_is top top p q = refl

join_is : (x y : Value) → Writable x → Writable y → word_join (word x) (word y) ≡ word (join_value x y)
join_is x y p q = ap (λ (t : Bool). pick t (word y) top_word) (equal_is x y p q) ∙ go (equal_value x y)
  where
    go : (t : Bool) → pick t (word y) top_word ≡ word (pick t y top)
    go true = refl
    go false = refl

-- ---- lists of values

pairs_are : (p : ℤ → ℤ → Bool) (q : Value → Value → Bool) → ((x y : Value) → Writable x → Writable y → p (word x) (word y) ≡ q x y)
    → (xs ys : List Value) → AllPlain xs → AllPlain ys → all_pairs p (map word xs) (map word ys) ≡ all_pairs q xs ys
pairs_are p q same [] [] h k = refl
pairs_are p q same [] (y ∷ ys) h k = refl
pairs_are p q same (x ∷ xs) [] h k = refl
pairs_are p q same (x ∷ xs) (y ∷ ys) h k =
    let a = same x y h.0 k.0 in
    let b = pairs_are p q same xs ys h.1 k.1 in
    λ i. a i && b i

joins_are : (xs ys : List Value) → AllPlain xs → AllPlain ys → words_join (map word xs) (map word ys) ≡ map word (join_values xs ys)
joins_are [] ys h k = refl
joins_are (x ∷ xs) [] h k = refl
joins_are (x ∷ xs) (y ∷ ys) h k =
    let a = join_is x y h.0 k.0 in
    let b = joins_are xs ys h.1 k.1 in
    λ i. a i ∷ b i

-- ---- rows that say abstract states of the chart

-- the row e says the abstract state f: it is its row, and f is one of the chart
pub record Says (c : Chart) (e : List ℤ) (f : AbstractState) : Type 0 where
  pub words : e ≡ row f
  pub ok : StateOk c f

-- an edge counted from 0 and with its number
pub record SameEdge (c : Chart) (g : ℕ) (h : Numbered) : Type 0 where
  pub number : suc g ≡ h.no
  pub here : At c.edges g h.edge
  pub ok : T (edge_ok c h.edge)
  pub keeps : Keeps (constants c) (StateOk c) (length c.edges) h

module _ (c : Chart) (ok : T (chart_ok c)) where
  plain_of : (f : AbstractState) → StateOk c f → AllPlain f.vals
  plain_of f h = values_plain c.vars f.vals (bounds c ok).vars h.vals

  place_R : (e x : List ℤ) (f y : AbstractState) → Says c e f → Says c x y → same_place e x ≡ same_location f y
  place_R e x f y r q = rw (r.words, q.words)

  equal_R : (e x : List ℤ) (f y : AbstractState) → Says c e f → Says c x y → same_words e x ≡ equal f y
  equal_R e x f y r q =
      rw (r.words, q.words, pairs_are eq_z equal_value equal_is f.vals y.vals (plain_of f r.ok) (plain_of y q.ok))

  leq_R : (e x : List ℤ) (f y : AbstractState) → Says c e f → Says c x y → row_leq e x ≡ leq f y
  unfolding leq
  leq_R e x f y r q =
      rw (r.words, q.words, pairs_are word_leq leq_value leq_is f.vals y.vals (plain_of f r.ok) (plain_of y q.ok))

  merge_R : (e x : List ℤ) (f y : AbstractState) → Says c e f → Says c x y → Says c (row_join e x) (join f y)
  unfolding join
  merge_R e x f y r q =
      let moved : AbstractState = record { loc = y.loc; vals = f.vals } in
      record {
        words = rw (r.words, q.words) (ap (λ (l : List ℤ). pos y.loc ∷ l) (joins_are f.vals y.vals (plain_of f r.ok) (plain_of y q.ok)));
        ok = join_ok c moved y (record { loc = q.ok.loc; vals = r.ok.vals }) q.ok (eqb_refl y.loc);
      }

  join_of_R : (x : List ℤ) (y : AbstractState) (xs : List (List ℤ)) (ys : List AbstractState) → Says c x y → AllPairs (Says c) xs ys → Says c (join_of x xs) (join_all y ys)
  join_of_R x y [] [] r a = r
  join_of_R x y [] (v ∷ ys) r a = absurd a
  join_of_R x y (u ∷ xs) [] r a = absurd a
  join_of_R x y (u ∷ xs) (v ∷ ys) r a = join_of_R (row_join x u) (join y v) xs ys (merge_R x u y v r a.0) a.1

  leq_join_R : (e : List ℤ) (f : AbstractState) (xs : List (List ℤ)) (ys : List AbstractState) → Says c e f → AllPairs (Says c) xs ys → leq_join_of e xs ≡ leq_join_all f ys
  leq_join_R e f [] [] r a = refl
  leq_join_R e f [] (y ∷ ys) r a = absurd a
  leq_join_R e f (x ∷ xs) [] r a = absurd a
  leq_join_R e f (x ∷ xs) (y ∷ ys) r a = leq_R e (join_of x xs) f (join_all y ys) r (join_of_R x y xs ys a.0 a.1)

  -- the edges counted from 0 are the chart's, with their numbers
  pub edges_say : AllPairs (SameEdge c) (edges_from 0 (length c.edges)) (numbered c)
  edges_say = go 0 c.edges (λ j x a. rw (zero-add j) a) (bounds c ok).edges (states_kept c (bounds c ok))
    where
      go : (n : ℕ) (gs : List Edge) → ((j : ℕ) (x : Edge) → At gs j x → At c.edges (n + j) x) → T (all (edge_ok c) gs)
          → Every (Keeps (constants c) (StateOk c) (length c.edges)) (number_from (suc n) gs) → AllPairs (SameEdge c) (edges_from n (length gs)) (number_from (suc n) gs)
      go n [] at t k = tt
      go n (g ∷ gs) at t k =
          let z : n + 0 ≡ n = omega arith in (
            record { number = refl; here = rw z at (at 0 g refl); ok = and_left (edge_ok c g) (all (edge_ok c) gs) t; keeps = k.0 },
            go (suc n) gs (λ j x a. let s : n + suc j ≡ suc n + j = omega arith in rw s at (at (suc j) x a)) (and_right (edge_ok c g) (all (edge_ok c) gs) t) k.1,
          )

-- ---- the transfer

abbrev row_of : Step AbstractState → Step (List ℤ)
row_of blocked = blocked
row_of fault = fault
row_of (to f) = to (row f)

arrive_is : (n : ℕ) (o : Step (List Value)) → row_step (pos n) o ≡ row_of (arrive_at n o)
arrive_is n blocked = refl
arrive_is n fault = refl
arrive_is n (to xs) = refl

step_R : (c : Chart) (s : Step AbstractState) → ((f : AbstractState) → s ≡ to f → StateOk c f) → StepR (Says c) (row_of s) s
step_R c blocked k = tt
step_R c fault k = tt
step_R c (to f) k = record { words = refl; ok = k f refl }

module _ (c : Chart) (ok : T (chart_ok c)) (rest : List ℤ) where
  abbrev ws : List ℤ
  ws = encode c ++ rest

  post_is : (n : ℕ) (g : Edge) (f : AbstractState) → At c.edges n g → T (edge_ok c g) → StateOk c f → post_words ws n (row f) ≡ row_of (post c g f)
  unfolding post_words post_at post
  post_is n g f a t h =
      let i = edge_at ws n in
      let z : i ≡ i + from_place = omega arith in
      let read = edge_word c ok rest n g a in
      let from : count ws i ≡ g.from = ap (count ws) z ∙ ap nat_abs (read from_place (omega arith)) in
      let few : g.to < word_limit = omega (arith, (bounds c ok).few_locs, ltb→lt g.to (length c.locs) (search (and_left, and_right))) in
      let there : id_word (count ws (i + to_place)) ≡ pos g.to = ap id_word (ap nat_abs (read to_place (omega arith))) ∙ id_fits g.to few in
      let u : T (op_ok c.vars g.op) = search (and_left, and_right) in
      rw (from, there, effect_is c ok rest (pos g.to) f.vals (plain_of c ok f h) i (pos g.from) (pos g.to) g.op u read) (go (eqb g.from f.loc))
    where
      go : (t : Bool) → pick t (row_step (pos g.to) (effect c.vars g.op f.vals)) blocked ≡ row_of (pick t (arrive_at g.to (effect c.vars g.op f.vals)) blocked)
      go true = arrive_is g.to (effect c.vars g.op f.vals)
      go false = refl

  post_R : (n : ℕ) (g : Numbered) (e : List ℤ) (f : AbstractState) → SameEdge c n g → Says c e f → StepR (Says c) (post_words ws n e) (post c g.edge f)
  post_R n g e f k r =
      rw (r.words, post_is n g.edge f k.here k.ok r.ok) (step_R c (post c g.edge f) (λ x p. k.keeps.post f x r.ok p))

  error_R : (e : List ℤ) (f : AbstractState) → Says c e f → error_row ws e ≡ error_location c.locs f.loc
  error_R e f r = rw r.words (error_is c ok rest (row f) r.ok.loc)

  agree_encoded : Agree (row_domain (post_words ws) (error_row ws)) (constants c) (Says c) (SameEdge c)
  agree_encoded = record {
    number = λ g h q. q.number;
    post = λ g h e f q r. post_R g h e f q r;
    error = λ e f r. error_R e f r;
    same_place = place_R c ok;
    equal = equal_R c ok;
    leq = leq_R c ok;
    merge = merge_R c ok;
    leq_join = leq_join_R c ok;
  }

  initial_encoded : Says c (initial_row ws) (initial c)
  initial_encoded = record { words = initial_is c ok rest; ok = initial_ok c (bounds c ok) }

-- ---- well-formed words, and the chart that they decode to

module _ (ws : List ℤ) (t : T (well_formed ws)) where
  pub agree : Agree (row_domain (post_words ws) (error_row ws)) (constants (decode ws)) (Says (decode ws)) (SameEdge (decode ws))
  agree =
      let s = well_formed_split ws t in
      let c = decode ws in
      subst (λ (l : List ℤ). Agree (row_domain (post_words l) (error_row l)) (constants c) (Says c) (SameEdge c)) (sym s.0) (agree_encoded c s.1 (drop (length (encode c)) ws))

  pub initial_says : Says (decode ws) (initial_row ws) (initial (decode ws))
  initial_says =
      let s = well_formed_split ws t in
      let c = decode ws in
      subst (λ (l : List ℤ). Says c (initial_row l) (initial c)) (sym s.0) (initial_encoded c s.1 (drop (length (encode c)) ws))
