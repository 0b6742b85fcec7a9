-- Starting values one after the other, and which charts are too wide to search. Assumes nothing.
use native.Mathlib.Nat.{mul_assoc, mul-one, le-mul_of_pos_right, mul-pos}
use Rattle.semantics.proofs.Prelude.{◌≡◌, refl, sym, ap, ◌∙◌, subst, inl, inr, Bool, true, false, List, [], ◌∷◌, ◌++◌, map, ℕ, zero, suc, ◌+◌, ◌*◌, ◌≤◌, ◌<◌, add-one, arith, T, ltb, lt-ltb, ℤ, pos, ◌+ℤ◌, le_z, length, drop, take, drop_of_length-le, take-suc, take_all, drop-cons, take-suc-set, append-nil, append_snoc, length-take-le, get_or_at, set_at, w32, SFits, sfits_lit}
use Rattle.semantics.specs.Layout.{most_number, edge_size, most_starts}
use Rattle.semantics.specs.Lists.{At, In, all, each, some_of}
use Rattle.semantics.specs.Chart.{Value, known, top, Var, Edge, Chart, Ranged, within, small}
use Rattle.semantics.specs.Search.{init_values, starting_values}
use Rattle.semantics.specs.RunListing.{wide_input, init_count, start_count}
use Rattle.semantics.specs.Encoding.{word_at, var_ok, init_ok, edge_in, decode, variable_count, edge_count}
use Rattle.semantics.proofs.Bools.{from_true, to_true, and_left, and_right, both_true}
use Rattle.semantics.proofs.Integers.{le_z_trans, lt_suc, le_sum}
use Rattle.semantics.proofs.AtAndIn.{at_get}
use Rattle.semantics.proofs.StatesOk.{Bounds}
use Rattle.semantics.proofs.ChartChoices.{in_append, in_map, map_in, in_each, each_in, interval_in, in_interval, interval_step, interval_stop, gap, starting_in}
use Rattle.words.proofs.Words.{between_fits}
use Rattle.semantics.proofs.Decoded.{vars_count, edges_count}
use Rattle.chart.specs.Encoded.{edges_at}
use Rattle.chart.proofs.Places.{variable_got, edge_got}
use Rattle.state.specs.Rows.{location_in, values_of, row_at, value_at, with_value}
use Rattle.descent.specs.Rows.{Concrete}
use Rattle.descent.specs.Starts.{values_after, starts_after, Starts, First, Next, variable_in, first_value, rises, first_values}

-- ---- a turn of a loop over variables or edges

at_drop : {A : Type 0} (l : List A) (k : ℕ) (x : A) → At l k x → drop k l ≡ x ∷ drop (k + 1) l
at_drop l k x a = rw add-one (go l k a)
  where
    go : {A : Type 0} {x : A} (l : List A) (k : ℕ) → At l k x → drop k l ≡ x ∷ drop (suc k) l
    go [] k a = absurd a
    go (y ∷ ys) zero a = ap (λ z. z ∷ ys) a
    go (y ∷ ys) (suc k) a = go ys k a

module _ (ws : List ℤ) where
  pub next_variable : (k : ℕ) → k < variable_count ws → drop k (decode ws).vars ≡ variable_in ws k ∷ drop (k + 1) (decode ws).vars
  next_variable k h = at_drop (decode ws).vars k (variable_in ws k) (at_get (decode ws).vars k (variable_in ws k) (variable_got ws k h))

  pub no_variable : (k : ℕ) → variable_count ws ≤ k → drop k (decode ws).vars ≡ []
  no_variable k h = drop_of_length-le (decode ws).vars {i = k} (omega (arith, vars_count ws))

  pub next_edge : (g at : ℕ) → g < edge_count ws → at ≡ edges_at ws + edge_size * g → drop g (decode ws).edges ≡ edge_in (drop at ws) ∷ drop (g + 1) (decode ws).edges
  next_edge g at h p = at_drop (decode ws).edges g (edge_in (drop at ws)) (at_get (decode ws).edges g (edge_in (drop at ws)) (edge_got ws g at h p))

  pub no_edge : (g : ℕ) → edge_count ws ≤ g → drop g (decode ws).edges ≡ []
  no_edge g h = drop_of_length-le (decode ws).edges {i = g} (omega (arith, edges_count ws))

-- one of the edges is wide
abbrev pub some_wide : List Edge → Bool
some_wide gs = some_of (λ g. wide_input g.op) gs

all_drop : {A : Type 0} (p : A → Bool) (k : ℕ) (l : List A) → T (all p l) → T (all p (drop k l))
all_drop p zero l t = t
all_drop p (suc k) [] t = t
all_drop p (suc k) (x ∷ l) t = all_drop p k l (and_right (p x) (all p l) t)

-- the variable there is in form
pub variable_ok : (vs : List Var) (k : ℕ) (v : Var) → T (all var_ok vs) → drop k vs ≡ v ∷ drop (k + 1) vs → T (var_ok v)
variable_ok vs k v t e = and_left (var_ok v) (all var_ok (drop (k + 1) vs)) (rw e at (all_drop var_ok k vs t))

-- the edge there is wide, or one after it
pub wide_turn : (gs : List Edge) (k : ℕ) (g : Edge) (b : Bool) → drop k gs ≡ g ∷ drop (k + 1) gs → wide_input g.op ≡ b
    → some_wide (drop k gs) ≡ elim b [ true ↦ true | false ↦ some_wide (drop (k + 1) gs) ]
wide_turn gs k g b got e = ap some_wide got ∙ ap (λ (b : Bool). elim b [ true ↦ true | false ↦ some_wide (drop (k + 1) gs) ]) e

-- ---- the first starting values

-- those of a variable in form: a first one, and those after it
first_init : (v : Var) → T (var_ok v) → init_values v.lo v.hi v.init ≡ first_value v.lo v.init ∷ values_after v.hi v.init (first_value v.lo v.init)
first_init v t = go v.init (search (and_left, and_right)) (search (and_left, and_right))
  where
    go : (i : Value) → T (le_z v.lo v.hi) → T (init_ok v.lo v.hi i) → init_values v.lo v.hi i ≡ first_value v.lo i ∷ values_after v.hi i (first_value v.lo i)
    go (known z) l t = rw (to_true (within v.lo v.hi z) (and_right (small z) (within v.lo v.hi z) t))
    go top l t = interval_step v.lo v.hi l

pub first_starts : (vs : List Var) → T (all var_ok vs) → starting_values vs ≡ first_values vs ∷ starts_after vs (first_values vs)
first_starts [] t = refl
first_starts (v ∷ vs) t =
    let x = first_value v.lo v.init in
    let more = each (λ y. map (◌∷◌ y) (starting_values vs)) (values_after v.hi v.init x) in
    ap (each (λ y. map (◌∷◌ y) (starting_values vs))) (first_init v (and_left (var_ok v) (all var_ok vs) t))
    ∙ ap (λ (s : List (List ℤ)). map (◌∷◌ x) s ++ more) (first_starts vs (and_right (var_ok v) (all var_ok vs) t))

-- ---- the next

-- what a variable may start with after x
next_values : (hi x : ℤ) (i : Value) → rises hi i x ≡ true → values_after hi i x ≡ (x +ℤ pos 1) ∷ values_after hi i (x +ℤ pos 1)
next_values hi x (known z) e = absurd (from_true e)
next_values hi x top e = interval_step (x +ℤ pos 1) hi (from_true (sym (lt_suc x hi) ∙ e))

no_values : (hi x : ℤ) (i : Value) → rises hi i x ≡ false → values_after hi i x ≡ []
no_values hi x (known z) e = refl
no_values hi x top e = interval_stop (x +ℤ pos 1) hi (sym (lt_suc x hi) ∙ e)

-- a value that goes up by one is a word
pub rises_fits : (v : Var) (x : ℤ) → T (var_ok v) → SFits w32 x → rises v.hi v.init x ≡ true → SFits w32 (x +ℤ pos 1)
rises_fits v x t f e = go v.init e
  where
    go : (i : Value) → rises v.hi i x ≡ true → SFits w32 (x +ℤ pos 1)
    go (known z) e = absurd (from_true e)
    go top e =
        let l = le_z_trans (x +ℤ pos 1) v.hi most_number (from_true (sym (lt_suc x v.hi) ∙ e)) (search (and_left, and_right)) in
        between_fits {hi = most_number} (x +ℤ pos 1) f (sfits_lit tt) (to_true (le_z x (x +ℤ pos 1)) (le_sum x 1)) (to_true (le_z (x +ℤ pos 1) most_number) l)

-- the variables after v have none left
module _ (v : Var) (vs : List Var) (x : ℤ) (xs : List ℤ) (none : starts_after vs xs ≡ []) where
  carried : rises v.hi v.init x ≡ false → starts_after (v ∷ vs) (x ∷ xs) ≡ []
  carried e = λ i. map (◌∷◌ x) (none i) ++ each (λ y. map (◌∷◌ y) (starting_values vs)) (no_values v.hi x v.init e i)

  risen : T (all var_ok vs) → rises v.hi v.init x ≡ true
      → starts_after (v ∷ vs) (x ∷ xs) ≡ ((x +ℤ pos 1) ∷ first_values vs) ∷ starts_after (v ∷ vs) ((x +ℤ pos 1) ∷ first_values vs)
  risen t e =
      let more = each (λ y. map (◌∷◌ y) (starting_values vs)) (values_after v.hi v.init (x +ℤ pos 1)) in
      (λ i. map (◌∷◌ x) (none i) ++ each (λ y. map (◌∷◌ y) (starting_values vs)) (next_values v.hi x v.init e i))
      ∙ ap (λ (s : List (List ℤ)). map (◌∷◌ (x +ℤ pos 1)) s ++ more) (first_starts vs t)

-- the first k variables stay
kept : (k : ℕ) (vs : List Var) (xs s : List ℤ) → k ≤ length vs → k ≤ length xs → starts_after (drop k vs) (drop k xs) ≡ s ∷ starts_after (drop k vs) s
    → starts_after vs xs ≡ (take k xs ++ s) ∷ starts_after vs (take k xs ++ s)
kept zero vs xs s h g e = e
kept (suc k) [] xs s h g e = absurd (omega arith)
kept (suc k) (v ∷ vs) [] s h g e = absurd (omega arith)
kept (suc k) (v ∷ vs) (x ∷ xs) s h g e =
    let more = each (λ y. map (◌∷◌ y) (starting_values vs)) (values_after v.hi v.init x) in
    ap (λ (l : List (List ℤ)). map (◌∷◌ x) l ++ more) (kept k vs xs s (omega arith) (omega arith) e)

-- what comes after starting values are starting values
after_in : (vs : List Var) (xs ys : List ℤ) → In xs (starting_values vs) → In ys (starts_after vs xs) → In ys (starting_values vs)
after_in [] xs ys h i = absurd i
after_in (v ∷ vs) xs ys h i =
    let r = each_in row xs (init_values v.lo v.hi v.init) h in
    let s = map_in (◌∷◌ r.0) xs (starting_values vs) r.2 in
    go r.0 s.0 r.1 s.1 (subst (λ (l : List ℤ). In ys (starts_after (v ∷ vs) l)) s.2 i) (after_in vs s.0)
  where
    row : ℤ → List (List ℤ)
    row x = map (◌∷◌ x) (starting_values vs)

    later : (i : Value) (x z : ℤ) → In x (init_values v.lo v.hi i) → In z (values_after v.hi i x) → In z (init_values v.lo v.hi i)
    later (known y) x z h i = absurd i
    later top x z h i =
        let a = and_left (le_z v.lo x) (le_z x v.hi) (interval_in v.lo v.hi x h) in
        let b = interval_in (x +ℤ pos 1) v.hi z i in
        let p = le_z_trans v.lo x (x +ℤ pos 1) a (le_sum x 1) in
        let q = le_z_trans v.lo (x +ℤ pos 1) z p (and_left (le_z (x +ℤ pos 1) z) (le_z z v.hi) b) in
        in_interval v.lo v.hi z (both_true (le_z v.lo z) (le_z z v.hi) q (and_right (le_z (x +ℤ pos 1) z) (le_z z v.hi) b))

    go : (x : ℤ) (xs : List ℤ) → In x (init_values v.lo v.hi v.init) → In xs (starting_values vs) → In ys (starts_after (v ∷ vs) (x ∷ xs))
        → ((zs : List ℤ) → In xs (starting_values vs) → In zs (starts_after vs xs) → In zs (starting_values vs)) → In ys (starting_values (v ∷ vs))
    go x xs p q i ih = elim (in_append ys (map (◌∷◌ x) (starts_after vs xs)) (each row (values_after v.hi v.init x)) i) [
      | inl j ↦ (let s = map_in (◌∷◌ x) ys (starts_after vs xs) j in
          subst (λ (l : List ℤ). In l (starting_values (v ∷ vs))) (sym s.2) (in_each row x (x ∷ s.0) (init_values v.lo v.hi v.init) p (in_map (◌∷◌ x) s.0 (starting_values vs) (ih s.0 q s.1))))
      | inr j ↦ (let r = each_in row ys (values_after v.hi v.init x) j in
          in_each row r.0 ys (init_values v.lo v.hi v.init) (later v.init x r.0 p r.1) r.2)
    ]

-- ---- rows

ranged_length : (vs : List Var) (xs : List ℤ) → Ranged vs xs → length xs ≡ length vs
ranged_length [] [] r = refl
ranged_length [] (x ∷ xs) r = absurd r
ranged_length (v ∷ vs) [] r = absurd r
ranged_length (v ∷ vs) (x ∷ xs) r = ap suc (ranged_length vs xs r.1)

module _ (c : Chart) (e : List ℤ) (s : Starts c e) where
  ranged : Ranged c.vars (values_of e)
  ranged = (starting_in c.vars (values_of e) s.start).0

  pub start_values_length : length (values_of e) ≡ length c.vars
  start_values_length = ranged_length c.vars (values_of e) ranged

  -- the one after it
  pub next_row : (e' ys : List ℤ) → e' ≡ row_at 0 ys → starts_after c.vars (values_of e) ≡ ys ∷ starts_after c.vars ys → Next c e e' true
  next_row e' ys p q =
      let i = after_in c.vars (values_of e) ys s.start (subst (In ys) (sym q) (inl refl)) in
      rw p (record { words = refl; start = i }, q)

-- a starting state is one of the chart's
pub starts_concrete : (c : Chart) → Bounds c → (e : List ℤ) → Starts c e → Concrete c e
starts_concrete c b e s =
    let at : location_in e ≡ 0 = ap location_in s.words in
    record {
      words = s.words ∙ ap (λ (l : ℕ). row_at l (values_of e)) (sym at);
      location = rw at b.some_loc;
      ranged = ranged c e s;
    }

-- the first
pub first_row : (c : Chart) (e : List ℤ) → Bounds c → e ≡ row_at 0 (first_values c.vars) → First c e
first_row c e b p =
    let q = first_starts c.vars b.vars in
    rw p (record { starts = record { words = refl; start = subst (In (first_values c.vars)) (sym q) (inl refl) }; all = q })

-- ---- turns of the loops that write a row

-- the values of the first k variables are written
abbrev pub Written : List Var → List ℤ → ℕ → Type 0
Written vs row k = row_at 0 (first_values vs) ≡ take (k + 1) row ++ first_values (drop k vs)

pub written_one : (vs : List Var) (row : List ℤ) (k : ℕ) (v : Var) → drop k vs ≡ v ∷ drop (k + 1) vs → k + 1 < length row → Written vs row k → Written vs (with_value row k (first_value v.lo v.init)) (k + 1)
written_one vs row k v e h w = w ∙ rw (e, add-one (k + 1), take-suc-set row (k + 1) (first_value v.lo v.init) h, append_snoc)

-- counting up: the variables from k on have no values left after theirs, and are put back to the first
pub record PutBack (vs : List Var) (xs row : List ℤ) (k : ℕ) : Type 0 where
  pub words : row ≡ row_at 0 (take k xs ++ first_values (drop k vs))
  pub none : starts_after (drop k vs) (drop k xs) ≡ []

pub nothing_put : (vs : List Var) (xs row : List ℤ) (k : ℕ) → row ≡ row_at 0 xs → length xs ≤ k → drop k vs ≡ [] → PutBack vs xs row k
nothing_put vs xs row k e h d = record { words = e ∙ ap (row_at 0) (sym (rw (take_all k xs h, d) (append-nil xs))); none = rw d }

-- a row by its values before and after variable k's
module _ (p l : List ℤ) (x : ℤ) (k : ℕ) (e : length p ≡ k) where
  value_in : value_at (row_at 0 (p ++ x ∷ l)) k ≡ x
  value_in = rw add-one (get_or_at p x l (pos 0) k e)

  value_put : (z : ℤ) → with_value (row_at 0 (p ++ x ∷ l)) k z ≡ row_at 0 (p ++ z ∷ l)
  value_put z = rw add-one (ap (row_at 0) (set_at p x l z k e))

-- at variable k, before which all are in their places
module _ (vs : List Var) (xs row : List ℤ) (k : ℕ) (v : Var) (got : drop k vs ≡ v ∷ drop (k + 1) vs) (h : k < length xs) (b : PutBack vs xs row (k + 1)) where
  abbrev rest : List ℤ
  rest = first_values (drop (k + 1) vs)

  here : row ≡ row_at 0 (take k xs ++ word_at xs k ∷ rest)
  here = b.words ∙ rw (add-one, take-suc xs k (pos 0) h, append_snoc)

  front : length (take k xs) ≡ k
  front = length-take-le k xs (omega arith)

  pub value_is : value_at row k ≡ word_at xs k
  value_is = rw here (value_in (take k xs) rest (word_at xs k) k front)

  pub put : (z : ℤ) → with_value row k z ≡ row_at 0 (take k xs ++ z ∷ rest)
  put z = rw here (value_put (take k xs) rest (word_at xs k) k front z)

  left : drop k xs ≡ word_at xs k ∷ drop (k + 1) xs
  left = rw add-one (drop-cons xs k (pos 0) h)

  pub put_back : rises v.hi v.init (word_at xs k) ≡ false → PutBack vs xs (with_value row k (first_value v.lo v.init)) k
  put_back e = record {
    words = rw got (put (first_value v.lo v.init));
    none = rw (got, left) (carried v (drop (k + 1) vs) (word_at xs k) (drop (k + 1) xs) b.none e);
  }

  pub counted : T (all var_ok vs) → k < length vs → rises v.hi v.init (word_at xs k) ≡ true
      → let ys = take k xs ++ (word_at xs k +ℤ pos 1) ∷ rest in starts_after vs xs ≡ ys ∷ starts_after vs ys
  counted t l e =
      kept k vs xs ((word_at xs k +ℤ pos 1) ∷ rest) (omega arith) (omega arith)
      (rw (got, left) (risen v (drop (k + 1) vs) (word_at xs k) (drop (k + 1) xs) b.none (all_drop var_ok (k + 1) vs t) e))

-- ---- how many starting states there are

some_starts : (vs : List Var) → T (all var_ok vs) → 0 < start_count vs
some_starts [] t = omega arith
some_starts (v ∷ vs) t = mul-pos (go v.init (search (and_left, and_right))) (some_starts vs (and_right (var_ok v) (all var_ok vs) t))
  where
    go : (i : Value) → T (le_z v.lo v.hi) → 0 < init_count v.lo v.hi i
    go (known z) l = omega arith
    go top l = let g = gap v.lo v.hi l in rw g.1 (omega arith)

-- n times those of the variables from k on
module _ (vs : List Var) (n k : ℕ) (all_are : start_count vs ≡ n * start_count (drop k vs)) where
  pub count_turn : (v : Var) → drop k vs ≡ v ∷ drop (k + 1) vs → start_count vs ≡ n * init_count v.lo v.hi v.init * start_count (drop (k + 1) vs)
  count_turn v e = all_are ∙ rw e (sym (mul_assoc n (init_count v.lo v.hi v.init) (start_count (drop (k + 1) vs))))

  pub count_end : drop k vs ≡ [] → start_count vs ≡ n
  count_end e = all_are ∙ rw e (mul-one n)

  -- too many already
  pub too_many : T (all var_ok vs) → most_starts < n → ltb most_starts (start_count vs) ≡ true
  too_many t h =
      let l = le-mul_of_pos_right n (some_starts (drop k vs) (all_drop var_ok k vs t)) in
      lt-ltb most_starts (start_count vs) (omega (arith, all_are, l))
