-- The lines made for a chart in bounds are judged back to that chart. Assumes nothing.
use Rattle.semantics.proofs.Prelude.{◌≡◌, refl, sym, ap, subst, Bool, true, false, ◌&&◌, ◌||◌, not, List, [], ◌∷◌, ◌++◌, map, append_assoc, append-nil, ℕ, zero, suc, ◌+◌, ◌≤◌, ◌<◌, arith, T, leb, ltb, eqb, lt-ltb, length, get_or, length-append, ℤ, pos, negsuc, le_z, ne_eqb}
use Rattle.semantics.specs.Lists.{all, is_empty}
use Rattle.semantics.specs.Layout.{most_edges, most_locations, most_variables}
use Rattle.semantics.specs.Text.{decimal, decimal_z, between, name_byte, name_ok, same_bytes}
use Rattle.semantics.specs.Chart.{Value, known, top, Var, Loc, Operand, num, var, Rel, eq, ne, lt, le, gt, ge, Op, assign, add, sub, input, assume, skip, Edge, Chart, within, in_range, small}
use Rattle.semantics.specs.Reading.{ok, check, if_ok, location_field, target_field, operand_field, init_field, kind_field, rel_text, rel_field, OpWord, do_set, do_add, do_sub, do_in, do_if, do_skip, op_word_field, field_count, SoFar, nth, none_empty, var_line, loc_line, op_fields_read, edge_line, judge, at_end, judged, number_field, kind_text}
use Rattle.semantics.specs.Encoding.{init_ok, var_ok, distinct_names, operand_ok, op_ok, edge_ok}
use Rattle.semantics.specs.Rendering.{operand_text, var_fields, loc_fields, op_fields, edge_fields, vars_fields}
use Rattle.semantics.specs.Listing.{val_text}
use Rattle.semantics.proofs.Bools.{and_left, and_right, to_true, both_true}
use Rattle.semantics.proofs.Numbers.{in_between, leads, natural_back, number_back}

-- ---- one field

-- how a number begins: with a minus or a digit
pub record Head (l : List ℕ) : Type 0 where
  pub byte : ℕ
  pub rest : List ℕ
  pub same : l ≡ byte ∷ rest
  pub low : 43 ≤ byte

head_n : (n : ℕ) → Head (decimal n)
head_n n = let r = leads n n [] (omega arith) in record { byte = r.byte; rest = r.rest; same = r.same; low = omega (arith, r.low) }

head_z : (z : ℤ) → Head (decimal_z z)
head_z (pos n) = head_n n
head_z (negsuc n) = record { byte = 45; rest = decimal (suc n); same = refl; low = omega arith }

filled : (l : List ℕ) → Head l → is_empty l ≡ false
filled l h = ap is_empty h.same

not_star : (l : List ℕ) → Head l → same_bytes l (42 ∷ []) ≡ false
not_star l h = rw (h.same, ne_eqb h.byte 42 (λ e. omega (arith, h.low)))

not_dollar : (l : List ℕ) → Head l → eqb (get_or l 0 0) 36 ≡ false
not_dollar l h = rw h.same (ne_eqb h.byte 36 (λ e. omega (arith, h.low)))

number_at : (z : ℤ) → T (small z) → number_field (decimal_z z) ≡ ok z
unfolding number_field check if_ok
number_at z t = rw (number_back z, to_true (small z) t)

location_at : (n k : ℕ) → T (ltb k n) → location_field n (decimal k) ≡ ok k
unfolding location_field check if_ok
location_at n k t = rw (number_back (pos k), to_true (ltb k n) t)

target_at : (n k : ℕ) → T (ltb k n) → target_field n (36 ∷ decimal k) ≡ ok k
unfolding target_field check if_ok
target_at n k t = rw (natural_back k, to_true (ltb k n) t)

operand_back : (c : Chart) (a : Operand) → T (operand_ok c.vars a) → operand_field (length c.vars) (operand_text a) ≡ ok a
unfolding operand_field check if_ok
operand_back c (num z) t = rw (not_dollar (decimal_z z) (head_z z), number_at z t)
operand_back c (var k) t = rw (target_at (length c.vars) k t)

init_back : (lo hi : ℤ) (x : Value) → T (init_ok lo hi x) → init_field lo hi (val_text x) ≡ ok x
unfolding init_field check if_ok
init_back lo hi (known z) t = rw (not_star (decimal_z z) (head_z z), number_at z (and_left (small z) (within lo hi z) t), to_true (within lo hi z) (and_right (small z) (within lo hi z) t))
init_back lo hi top t = refl

-- the word of a kind, and of a relation, is read back and not empty
kind_said : (b : Bool) → (kind_field (kind_text b) ≡ ok b) × (is_empty (kind_text b) ≡ false)
unfolding kind_field
kind_said true = (refl, refl)
kind_said false = (refl, refl)

rel_said : (r : Rel) → (rel_field (rel_text r) ≡ ok r) × (is_empty (rel_text r) ≡ false)
unfolding rel_field
rel_said eq = (refl, refl)
rel_said ne = (refl, refl)
rel_said lt = (refl, refl)
rel_said le = (refl, refl)
rel_said gt = (refl, refl)
rel_said ge = (refl, refl)

-- ---- an operation

word_of : Op → OpWord
word_of (assign v a) = do_set
word_of (add v a b) = do_add
word_of (sub v a b) = do_sub
word_of (input v p q) = do_in
word_of (assume v r a) = do_if
word_of skip = do_skip

operand_filled : (a : Operand) → is_empty (operand_text a) ≡ false
operand_filled (num z) = filled (decimal_z z) (head_z z)
operand_filled (var k) = refl

-- add and sub: a target and two operands
two_back : (c : Chart) (make : ℕ → Operand → Operand → Op) (v : ℕ) (a b : Operand) → T (ltb v (length c.vars) && operand_ok c.vars a && operand_ok c.vars b)
    → if_ok (target_field (length c.vars) (36 ∷ decimal v)) (λ v. if_ok (operand_field (length c.vars) (operand_text a)) (λ a. if_ok (operand_field (length c.vars) (operand_text b)) (λ b. ok (make v a b)))) ≡ ok (make v a b)
unfolding if_ok
two_back c make v a b t =
    let l : T (ltb v (length c.vars)) = search (and_left, and_right) in
    let p : T (operand_ok c.vars a) = search (and_left, and_right) in
    let q : T (operand_ok c.vars b) = search (and_left, and_right) in
    rw (target_at (length c.vars) v l, operand_back c a p, operand_back c b q)

module _ (x y z : List ℕ) where
  -- an E line: it has four fields, from the operation on none is empty, the operation's word is read, and the fields are
  -- as many as it asks
  op_said : (o : Op) → let fs = x ∷ y ∷ z ∷ op_fields o in (leb 4 (length fs) ≡ true) × (none_empty (op_fields o) ≡ true) × (op_word_field (nth fs 3) ≡ ok (word_of o)) × (eqb (length fs) (field_count (word_of o)) ≡ true)
  unfolding op_word_field word_of
  op_said (assign v a) = (refl, rw (operand_filled a), refl, refl)
  op_said (add v a b) = (refl, rw (operand_filled a, operand_filled b), refl, refl)
  op_said (sub v a b) = (refl, rw (operand_filled a, operand_filled b), refl, refl)
  op_said (input v p q) = (refl, rw (filled (decimal_z p) (head_z p), filled (decimal_z q) (head_z q)), refl, refl)
  op_said (assume v r a) = (refl, rw ((rel_said r).1, operand_filled a), refl, refl)
  op_said skip = (refl, refl, refl, refl)

  op_back : (c : Chart) (o : Op) → T (op_ok c.vars o) → op_fields_read c (word_of o) (x ∷ y ∷ z ∷ op_fields o) ≡ ok o
  unfolding op_fields_read word_of check if_ok
  op_back c (assign v a) t = let l : T (ltb v (length c.vars)) = search (and_left, and_right) in rw (target_at (length c.vars) v l, operand_back c a (search (and_left, and_right)))
  op_back c (add v a b) t = two_back c add v a b t
  op_back c (sub v a b) t = two_back c sub v a b t
  op_back c (input v p q) t =
      let l : T (ltb v (length c.vars)) = search (and_left, and_right) depth 8 in
      let sp : T (small p) = search (and_left, and_right) depth 8 in
      let sq : T (small q) = search (and_left, and_right) depth 8 in
      let rp : in_range c.vars v p ≡ true = to_true (in_range c.vars v p) (search (and_left, and_right) depth 8) in
      let rq : in_range c.vars v q ≡ true = to_true (in_range c.vars v q) (search (and_left, and_right) depth 8) in
      let pq : le_z p q ≡ true = to_true (le_z p q) (search (and_left, and_right) depth 8) in
      rw (target_at (length c.vars) v l, number_at p sp, rp, number_at q sq, rq, pq)
  op_back c (assume v r a) t = let l : T (ltb v (length c.vars)) = search (and_left, and_right) in rw (target_at (length c.vars) v l, (rel_said r).0, operand_back c a (search (and_left, and_right)))
  op_back c skip t = refl

-- ---- lines, one after another

abbrev pub Steps : SoFar → List (List (List ℕ)) → SoFar → Type 0
Steps s [] t = s ≡ t
Steps s (l ∷ ls) t = (u : SoFar) × (judge s l ≡ ok u) × Steps u ls t

pub steps_append : (ls ms : List (List (List ℕ))) (s t u : SoFar) → Steps s ls t → Steps t ms u → Steps s (ls ++ ms) u
steps_append [] ms s t u p q = subst (λ (x : SoFar). Steps x ms u) (sym p) q
steps_append (l ∷ ls) ms s t u p q = (p.0, p.1, steps_append ls ms p.0 t u p.2 q)

pub steps_judged : (ls : List (List (List ℕ))) (n : ℕ) (s t : SoFar) → Steps s ls t → judged n s ls ≡ at_end t.chart
unfolding judged
steps_judged [] n s t p = ap (λ (x : SoFar). at_end x.chart) p
steps_judged (l ∷ ls) n s t p = rw p.1 (steps_judged ls (suc n) p.0 t p.2)

-- variables
unfoldable pub made : ℕ → List (List ℕ)
made zero = []
made (suc i) = ((97 + i) ∷ []) ∷ made i

made_new : (i j : ℕ) → j ≤ i → T (all (λ m. not (same_bytes m ((97 + i) ∷ []))) (made j))
unfolding made
made_new i zero l = tt
made_new i (suc j) l = both_true (not (same_bytes ((97 + j) ∷ []) ((97 + i) ∷ []))) (all (λ m. not (same_bytes m ((97 + i) ∷ []))) (made j)) (rw (ne_eqb (97 + j) (97 + i) (λ e. omega arith)) tt) (made_new i j (omega arith))

made_name : (i : ℕ) → i < most_variables → name_byte (97 + i) ≡ true
unfolding name_byte
made_name i l = rw (in_between 97 122 (97 + i) (omega arith) (omega arith)) (go (between 65 90 (97 + i)) (between 48 57 (97 + i)) (eqb (97 + i) 45))
  where
    go : (a b d : Bool) → a || true || b || d ≡ true
    go true b d = refl
    go false b d = refl

abbrev pub vars_so_far : ℕ → List Var → SoFar
vars_so_far i vs = record { names = made i; chart = record { vars = vs; locs = []; edges = [] } }

var_back : (i : ℕ) (pre : List Var) (v : Var) → i < most_variables → length pre < most_variables → T (var_ok v) → T (all (λ m. not (same_bytes m ((97 + i) ∷ []))) (made i)) → judge (vars_so_far i pre) (var_fields i v) ≡ ok (vars_so_far (suc i) (pre ++ (v ∷ [])))
unfolding judge var_line made check if_ok
var_back i pre v il l t New =
    let sl : T (small v.lo) = search (and_left, and_right) in
    let sh : T (small v.hi) = search (and_left, and_right) in
    let lh : le_z v.lo v.hi ≡ true = to_true (le_z v.lo v.hi) (search (and_left, and_right)) in
    let io : T (init_ok v.lo v.hi v.init) = search (and_left, and_right) in
    rw (
      lt-ltb (length pre) most_variables l,
      filled (decimal_z v.lo) (head_z v.lo),
      filled (decimal_z v.hi) (head_z v.hi),
      init_filled v.init,
      made_name i il,
      number_at v.lo sl,
      number_at v.hi sh,
      lh,
      init_back v.lo v.hi v.init io,
      to_true (all (λ m. not (same_bytes m ((97 + i) ∷ []))) (made i)) New,
    )
  where
    init_filled : (x : Value) → is_empty (val_text x) ≡ false
    init_filled (known z) = filled (decimal_z z) (head_z z)
    init_filled top = refl

pub vars_back : (i : ℕ) (pre vs : List Var) → i ≡ length pre → length pre + length vs ≤ most_variables → T (all var_ok vs)
    → (ns : List (List ℕ)) × Steps (vars_so_far i pre) (vars_fields i vs) (record { names = ns; chart = record { vars = pre ++ vs; locs = []; edges = [] } })
vars_back i pre [] e l t = (made i, ap (λ (x : List Var). vars_so_far i x) (sym (append-nil pre)))
vars_back i pre (v ∷ vs) e l t =
    let m : length (pre ++ (v ∷ [])) ≡ length pre + 1 = length-append pre (v ∷ []) in
    let r = vars_back (suc i) (pre ++ (v ∷ [])) vs (omega arith) (omega arith) (and_right (var_ok v) (all var_ok vs) t) in (
      r.0,
      (
        vars_so_far (suc i) (pre ++ (v ∷ [])),
        var_back i pre v (omega arith) (omega arith) (and_left (var_ok v) (all var_ok vs) t) (made_new i i (omega arith)),
        subst (λ (x : List Var). Steps (vars_so_far (suc i) (pre ++ (v ∷ []))) (vars_fields (suc i) vs) (record { names = r.0; chart = record { vars = x; locs = []; edges = [] } })) (append_assoc pre (v ∷ []) vs) r.1,
      ),
    )

-- locations
all_mid : {A : Type 0} (p : A → Bool) (xs : List A) (y : A) (ys : List A) → T (all p (xs ++ (y ∷ ys))) → T (p y)
all_mid p [] y ys t = and_left (p y) (all p ys) t
all_mid p (x ∷ xs) y ys t = all_mid p xs y ys (and_right (p x) (all p (xs ++ (y ∷ ys))) t)

distinct_mid : (pre : List Loc) (l : Loc) (ls : List Loc) → T (distinct_names (pre ++ (l ∷ ls))) → T (all (λ m. not (same_bytes m.name l.name)) pre)
distinct_mid [] l ls t = tt
distinct_mid (m ∷ pre) l ls t =
    let a = and_left (all (λ x. not (same_bytes m.name x.name)) (pre ++ (l ∷ ls))) (distinct_names (pre ++ (l ∷ ls))) t in
    let b = and_right (all (λ x. not (same_bytes m.name x.name)) (pre ++ (l ∷ ls))) (distinct_names (pre ++ (l ∷ ls))) t in
    both_true (not (same_bytes m.name l.name)) (all (λ x. not (same_bytes x.name l.name)) pre) (all_mid (λ x. not (same_bytes m.name x.name)) pre l ls a) (distinct_mid pre l ls b)

name_filled : (n : List ℕ) → T (name_ok n) → is_empty n ≡ false
name_filled [] t = absurd t
name_filled (b ∷ bs) t = refl

abbrev pub locs_so_far : List (List ℕ) → List Var → List Loc → SoFar
locs_so_far ns vs ls = record { names = ns; chart = record { vars = vs; locs = ls; edges = [] } }

module _ (ns : List (List ℕ)) (vs : List Var) where
  loc_back : (pre : List Loc) (l : Loc) → length pre < most_locations → T (name_ok l.name) → T (all (λ m. not (same_bytes m.name l.name)) pre) → judge (locs_so_far ns vs pre) (loc_fields l) ≡ ok (locs_so_far ns vs (pre ++ (l ∷ [])))
  unfolding judge loc_line check if_ok
  loc_back pre l h t New =
      rw (
        lt-ltb (length pre) most_locations h,
        name_filled l.name t,
        (kind_said l.error).1,
        to_true (name_ok l.name) t,
        (kind_said l.error).0,
        to_true (all (λ m. not (same_bytes m.name l.name)) pre) New,
      )

  pub locs_back : (pre ls : List Loc) → length pre + length ls ≤ most_locations → T (all (λ l. name_ok l.name) ls) → T (distinct_names (pre ++ ls)) → Steps (locs_so_far ns vs pre) (map loc_fields ls) (locs_so_far ns vs (pre ++ ls))
  locs_back pre [] h t d = ap (locs_so_far ns vs) (sym (append-nil pre))
  locs_back pre (l ∷ ls) h t d =
      let m : length (pre ++ (l ∷ [])) ≡ length pre + 1 = length-append pre (l ∷ []) in
      let a = append_assoc pre (l ∷ []) ls in (
        locs_so_far ns vs (pre ++ (l ∷ [])),
        loc_back pre l (omega arith) (and_left (name_ok l.name) (all (λ l. name_ok l.name) ls) t) (distinct_mid pre l ls d),
        subst (λ (x : List Loc). Steps (locs_so_far ns vs (pre ++ (l ∷ []))) (map loc_fields ls) (locs_so_far ns vs x)) a
            (locs_back (pre ++ (l ∷ [])) ls (omega arith) (and_right (name_ok l.name) (all (λ l. name_ok l.name) ls) t) (subst (λ (x : List Loc). T (distinct_names x)) (sym a) d)),
      )

-- edges
module _ (ns : List (List ℕ)) (c : Chart) where
  abbrev pub edges_so_far : List Edge → SoFar
  edges_so_far gs = record { names = ns; chart = record { vars = c.vars; locs = c.locs; edges = gs } }

  edge_back : (pre : List Edge) (g : Edge) → length pre < most_edges → T (edge_ok c g) → judge (edges_so_far pre) (edge_fields g) ≡ ok (edges_so_far (pre ++ (g ∷ [])))
  unfolding judge edge_line check if_ok
  edge_back pre g h t =
      let f : T (ltb g.from (length c.locs)) = search (and_left, and_right) in
      let u : T (ltb g.to (length c.locs)) = search (and_left, and_right) in
      let o = op_said (69 ∷ []) (decimal g.from) (decimal g.to) g.op in
      rw (
        lt-ltb (length pre) most_edges h,
        o.0,
        filled (decimal g.from) (head_n g.from),
        filled (decimal g.to) (head_n g.to),
        o.1,
        o.2,
        o.3,
        location_at (length c.locs) g.from f,
        location_at (length c.locs) g.to u,
        op_back (69 ∷ []) (decimal g.from) (decimal g.to) (record { vars = c.vars; locs = c.locs; edges = pre }) g.op (and_right (ltb g.from (length c.locs) && ltb g.to (length c.locs)) (op_ok c.vars g.op) t),
      )

  pub edges_back : (pre gs : List Edge) → length pre + length gs ≤ most_edges → T (all (edge_ok c) gs) → Steps (edges_so_far pre) (map edge_fields gs) (edges_so_far (pre ++ gs))
  edges_back pre [] h t = ap edges_so_far (sym (append-nil pre))
  edges_back pre (g ∷ gs) h t =
      let m : length (pre ++ (g ∷ [])) ≡ length pre + 1 = length-append pre (g ∷ []) in (
        edges_so_far (pre ++ (g ∷ [])),
        edge_back pre g (omega arith) (and_left (edge_ok c g) (all (edge_ok c) gs) t),
        subst (λ (x : List Edge). Steps (edges_so_far (pre ++ (g ∷ []))) (map edge_fields gs) (edges_so_far x)) (append_assoc pre (g ∷ []) gs)
            (edges_back (pre ++ (g ∷ [])) gs (omega arith) (and_right (edge_ok c g) (all (edge_ok c) gs) t)),
      )
