-- Whatever reading accepts is in bounds. Assumes nothing.
use Rattle.semantics.proofs.Prelude.{◌≡◌, refl, ap, subst, Bool, true, false, ◌&&◌, not, List, [], ◌∷◌, ◌++◌, map, Option, none, some, ℕ, suc, ◌≤◌, arith, T, leb, ltb, eqb, le→leb, ltb→lt, length, get_or, length-append, ℤ, pos, negsuc, le_z}
use Rattle.semantics.specs.Lists.{all, pick, is_empty}
use Rattle.semantics.specs.Layout.{most_bytes, most_edges, most_locations, most_variables}
use Rattle.semantics.specs.Text.{between, name_ok, same_bytes, natural_of, nonnegative, number_of, lines, fields}
use Rattle.semantics.specs.Chart.{Value, known, top, Var, Loc, Operand, num, var, Op, assign, add, sub, input, assume, skip, Edge, Chart, within, in_range, small}
use Rattle.semantics.specs.Reading.{Reading, refused, accepted, Res, fail, ok, check, if_ok, small_or, below_or, location_field, target_field, operand_field, init_field, OpWord, do_set, do_add, do_sub, do_in, do_if, do_skip, SoFar, nth, with_var, with_loc, with_edge, var_line, loc_line, op_fields_read, edge_line, judge, onward, judged, nothing_read, bad_byte_line, open_line, refused_at, read, number_field}
use Rattle.semantics.specs.Encoding.{init_ok, var_ok, distinct_names, operand_ok, op_ok, edge_ok, chart_ok}
use Rattle.semantics.proofs.AtAndIn.{clash}
use Rattle.semantics.proofs.Bools.{and_left, and_right, both_true}

-- ---- a check that did not refuse

pub fail_ok : {A : Type 0} {n : ℕ} {a : A} → fail n ≡ ok a → ⊥
fail_ok e = clash cc

pub check_ok : {A : Type 0} (b : Bool) (n : ℕ) (r : Res A) {a : A} → check b n r ≡ ok a → T b × (r ≡ ok a)
unfolding check
check_ok b n r {a} e = go b e
  where
    go : (b : Bool) → check b n r ≡ ok a → T b × (r ≡ ok a)
    go true e = (tt, e)
    go false e = absurd (fail_ok e)

pub ok_parts : {A B : Type 0} (r : Res A) (f : A → Res B) {b : B} → if_ok r f ≡ ok b → (a : A) × (r ≡ ok a) × (f a ≡ ok b)
unfolding if_ok
ok_parts {A} r f {b} e = go r e
  where
    go : (r : Res A) → if_ok r f ≡ ok b → (a : A) × (r ≡ ok a) × (f a ≡ ok b)
    go (fail n) e = absurd (fail_ok e)
    go (ok a) e = (a, refl, e)

-- ---- one field

pub number_small : (f : List ℕ) (z : ℤ) → number_field f ≡ ok z → T (small z)
unfolding number_field
number_small f z e = go (number_of f) e
  where
    go : (o : Option ℤ) → small_or o ≡ ok z → T (small z)
    go none e = absurd (fail_ok e)
    go (some w) e = let r = check_ok _ _ _ e in let p : w ≡ z = cc r.1 in subst (λ (x : ℤ). T (small x)) p r.0

below_is : (n : ℕ) (o : Option ℤ) (k : ℕ) → below_or n o ≡ ok k → T (ltb k n)
below_is n none k e = absurd (fail_ok e)
below_is n (some (pos j)) k e = let r = check_ok _ _ _ e in let p : j ≡ k = cc r.1 in subst (λ (x : ℕ). T (ltb x n)) p r.0
below_is n (some (negsuc j)) k e = absurd (fail_ok e)

pub location_is : (n : ℕ) (f : List ℕ) (k : ℕ) → location_field n f ≡ ok k → T (ltb k n)
unfolding location_field
location_is n f k e = below_is n (number_of f) k e

pub target_below : (n : ℕ) (f : List ℕ) (k : ℕ) → target_field n f ≡ ok k → T (ltb k n)
unfolding target_field
target_below n [] k e = absurd (fail_ok e)
target_below n (b ∷ bs) k e = below_is n (nonnegative (natural_of bs)) k (check_ok _ _ _ e).1

operand_is : (vars : List Var) (f : List ℕ) (a : Operand) → operand_field (length vars) f ≡ ok a → T (operand_ok vars a)
unfolding operand_field
operand_is vars f a e = go (eqb (get_or f 0 0) 36) e
  where
    go : (b : Bool) → pick b (if_ok (target_field (length vars) f) (λ k. ok (var k))) (if_ok (number_field f) (λ z. ok (num z))) ≡ ok a → T (operand_ok vars a)
    go true e = let r = ok_parts _ _ e in let p : var r.0 ≡ a = cc r.2 in subst (λ (x : Operand). T (operand_ok vars x)) p (target_below (length vars) f r.0 r.1)
    go false e = let r = ok_parts _ _ e in let p : num r.0 ≡ a = cc r.2 in subst (λ (x : Operand). T (operand_ok vars x)) p (number_small f r.0 r.1)

init_is : (lo hi : ℤ) (f : List ℕ) (x : Value) → init_field lo hi f ≡ ok x → T (init_ok lo hi x)
unfolding init_field
init_is lo hi f x e = go (same_bytes f (42 ∷ [])) e
  where
    go : (b : Bool) → pick b (ok top) (if_ok (number_field f) (λ z. check (within lo hi z) 7 (ok (known z)))) ≡ ok x → T (init_ok lo hi x)
    go true e = let p : top ≡ x = cc in subst (λ (y : Value). T (init_ok lo hi y)) p tt
    go false e =
        let r = ok_parts _ _ e in
        let u = check_ok _ _ _ r.2 in
        let p : known r.0 ≡ x = cc u.1 in
        subst (λ (y : Value). T (init_ok lo hi y)) p (both_true (small r.0) (within lo hi r.0) (number_small f r.0 r.1) u.0)

-- ---- an operation

and3 : (a b c : Bool) → T a → T b → T c → T (a && b && c)
and3 a b c p q r = both_true (a && b) c (both_true a b p q) r

-- add and sub: a target and two operands
two_operands : (c : Chart) (make : ℕ → Operand → Operand → Op) (fs : List (List ℕ)) (o : Op)
    → ((v : ℕ) (a b : Operand) → op_ok c.vars (make v a b) ≡ (ltb v (length c.vars) && operand_ok c.vars a && operand_ok c.vars b))
    → if_ok (target_field (length c.vars) (nth fs 4)) (λ v. if_ok (operand_field (length c.vars) (nth fs 5)) (λ a. if_ok (operand_field (length c.vars) (nth fs 6)) (λ b. ok (make v a b)))) ≡ ok o
    → T (op_ok c.vars o)
two_operands c make fs o same e =
    let r = ok_parts _ _ e in
    let u = ok_parts _ _ r.2 in
    let v = ok_parts _ _ u.2 in
    let p : make r.0 u.0 v.0 ≡ o = cc v.2 in
    subst (λ (x : Op). T (op_ok c.vars x)) p
    (rw (same r.0 u.0 v.0)
    (and3 (ltb r.0 (length c.vars)) (operand_ok c.vars u.0) (operand_ok c.vars v.0) (target_below (length c.vars) (nth fs 4) r.0 r.1) (operand_is c.vars (nth fs 5) u.0 u.1) (operand_is c.vars (nth fs 6) v.0 v.1)))

-- `in` from p on: a lemma over v and p, since what is inferred over them grows with what they stand for
input_is : (vars : List Var) (fs : List (List ℕ)) (o : Op) (v : ℕ) (p : ℤ) → T (ltb v (length vars)) → T (small p)
    → check (in_range vars v p) 7 (if_ok (number_field (nth fs 6)) λ q. check (in_range vars v q && le_z p q) 7 (ok (input v p q))) ≡ ok o
    → T (op_ok vars o)
input_is vars fs o v p below low e =
    let k = check_ok _ _ _ e in
    let u = ok_parts _ _ k.1 in
    let m = check_ok _ _ _ u.2 in
    let q = u.0 in
    let same : input v p q ≡ o = cc m.1 in
    subst (λ (x : Op). T (op_ok vars x)) same
    (and3 (ltb v (length vars) && small p && in_range vars v p && small q) (in_range vars v q) (le_z p q)
    (and3 (ltb v (length vars) && small p) (in_range vars v p) (small q) (both_true (ltb v (length vars)) (small p) below low) k.0 (number_small (nth fs 6) q u.1))
    (and_left (in_range vars v q) (le_z p q) m.0) (and_right (in_range vars v q) (le_z p q) m.0))

op_is : (c : Chart) (w : OpWord) (fs : List (List ℕ)) (o : Op) → op_fields_read c w fs ≡ ok o → T (op_ok c.vars o)
unfolding op_fields_read
op_is c do_set fs o e =
    let r = ok_parts _ _ e in
    let u = ok_parts _ _ r.2 in
    let p : assign r.0 u.0 ≡ o = cc u.2 in
    subst (λ (x : Op). T (op_ok c.vars x)) p (both_true (ltb r.0 (length c.vars)) (operand_ok c.vars u.0) (target_below (length c.vars) (nth fs 4) r.0 r.1) (operand_is c.vars (nth fs 5) u.0 u.1))
op_is c do_add fs o e = two_operands c add fs o (λ v a b. refl) e
op_is c do_sub fs o e = two_operands c sub fs o (λ v a b. refl) e
op_is c do_in fs o e =
    let r = ok_parts _ _ e in
    let u = ok_parts _ _ r.2 in
    input_is c.vars fs o r.0 u.0 (target_below (length c.vars) (nth fs 4) r.0 r.1) (number_small (nth fs 5) u.0 u.1) u.2
op_is c do_if fs o e =
    let r = ok_parts _ _ e in
    let u = ok_parts _ _ r.2 in
    let v = ok_parts _ _ u.2 in
    let p : assume r.0 u.0 v.0 ≡ o = cc v.2 in
    subst (λ (x : Op). T (op_ok c.vars x)) p (both_true (ltb r.0 (length c.vars)) (operand_ok c.vars v.0) (target_below (length c.vars) (nth fs 4) r.0 r.1) (operand_is c.vars (nth fs 6) v.0 v.1))
op_is c do_skip fs o e = let p : skip ≡ o = cc in subst (λ (x : Op). T (op_ok c.vars x)) p tt

-- ---- one line

pub all_snoc : {A : Type 0} (p : A → Bool) (xs : List A) (y : A) → T (all p xs) → T (p y) → T (all p (xs ++ (y ∷ [])))
all_snoc p [] y t u = both_true (p y) true u tt
all_snoc p (x ∷ xs) y t u = both_true (p x) (all p (xs ++ (y ∷ []))) (and_left (p x) (all p xs) t) (all_snoc p xs y (and_right (p x) (all p xs) t) u)

distinct_snoc : (ls : List Loc) (l : Loc) → T (distinct_names ls) → T (all (λ m. not (same_bytes m.name l.name)) ls) → T (distinct_names (ls ++ (l ∷ [])))
distinct_snoc [] l t u = tt
distinct_snoc (m ∷ ms) l t u =
    let p : Loc → Bool = λ x. not (same_bytes m.name x.name) in
    both_true (all p (ms ++ (l ∷ []))) (distinct_names (ms ++ (l ∷ [])))
    (all_snoc p ms l (and_left (all p ms) (distinct_names ms) t) (and_left (not (same_bytes m.name l.name)) (all (λ x. not (same_bytes x.name l.name)) ms) u))
    (distinct_snoc ms l (and_right (all p ms) (distinct_names ms) t) (and_right (not (same_bytes m.name l.name)) (all (λ x. not (same_bytes x.name l.name)) ms) u))

no_edges : (c : Chart) (gs : List Edge) → T (is_empty gs) → T (all (edge_ok c) gs)
no_edges c [] t = tt
no_edges c (g ∷ gs) t = absurd t

-- in bounds, but that there may be no location yet
record Sound (c : Chart) : Type 0 where
  few_vars : length c.vars ≤ most_variables
  few_locs : length c.locs ≤ most_locations
  few_edges : length c.edges ≤ most_edges
  vars : T (all var_ok c.vars)
  names : T (all (λ l. name_ok l.name) c.locs)
  distinct : T (distinct_names c.locs)
  edges : T (all (edge_ok c) c.edges)

var_sound : (s t : SoFar) (fs : List (List ℕ)) → var_line s fs ≡ ok t → Sound s.chart → Sound t.chart
unfolding var_line
var_sound s t fs e h =
    let k₁ = check_ok _ _ _ e in
    let k₂ = check_ok _ _ _ k₁.1 in
    let k₃ = check_ok _ _ _ k₂.1 in
    let k₄ = check_ok _ _ _ k₃.1 in
    let lo = ok_parts _ _ k₄.1 in
    let hi = ok_parts _ _ lo.2 in
    let k₅ = check_ok _ _ _ hi.2 in
    let x = ok_parts _ _ k₅.1 in
    let k₆ = check_ok _ _ _ x.2 in
    let v : Var = record { lo = lo.0; hi = hi.0; init = x.0 } in
    let p : with_var s (nth fs 1) v ≡ t = cc k₆.1 in
    let good : T (var_ok v) = both_true (small lo.0 && small hi.0 && le_z lo.0 hi.0) (init_ok lo.0 hi.0 x.0) (and3 (small lo.0) (small hi.0) (le_z lo.0 hi.0) (number_small (nth fs 2) lo.0 lo.1) (number_small (nth fs 3) hi.0 hi.1) k₅.0) (init_is lo.0 hi.0 (nth fs 4) x.0 x.1) in
    subst (λ (y : SoFar). Sound y.chart) p (record {
      few_vars = omega (arith, length-append s.chart.vars (v ∷ []), ltb→lt (length s.chart.vars) most_variables k₂.0);
      few_locs = h.few_locs;
      few_edges = h.few_edges;
      vars = all_snoc var_ok s.chart.vars v h.vars good;
      names = h.names;
      distinct = h.distinct;
      edges = no_edges (with_var s (nth fs 1) v).chart s.chart.edges (and_right (is_empty s.chart.locs) (is_empty s.chart.edges) k₁.0);
    })

loc_sound : (s t : SoFar) (fs : List (List ℕ)) → loc_line s fs ≡ ok t → Sound s.chart → Sound t.chart
unfolding loc_line
loc_sound s t fs e h =
    let k₁ = check_ok _ _ _ e in
    let k₂ = check_ok _ _ _ k₁.1 in
    let k₃ = check_ok _ _ _ k₂.1 in
    let k₄ = check_ok _ _ _ k₃.1 in
    let k = ok_parts _ _ k₄.1 in
    let k₅ = check_ok _ _ _ k.2 in
    let l : Loc = record { name = nth fs 1; error = k.0 } in
    let p : with_loc s l ≡ t = cc k₅.1 in
    subst (λ (y : SoFar). Sound y.chart) p (record {
      few_vars = h.few_vars;
      few_locs = omega (arith, length-append s.chart.locs (l ∷ []), ltb→lt (length s.chart.locs) most_locations k₂.0);
      few_edges = h.few_edges;
      vars = h.vars;
      names = all_snoc (λ l. name_ok l.name) s.chart.locs l h.names k₄.0;
      distinct = distinct_snoc s.chart.locs l h.distinct k₅.0;
      edges = no_edges (with_loc s l).chart s.chart.edges k₁.0;
    })

edge_sound : (s t : SoFar) (fs : List (List ℕ)) → edge_line s fs ≡ ok t → Sound s.chart → Sound t.chart
unfolding edge_line
edge_sound s t fs e h =
    let k₁ = check_ok _ _ _ e in
    let k₂ = check_ok _ _ _ k₁.1 in
    let w = ok_parts _ _ k₂.1 in
    let k₃ = check_ok _ _ _ w.2 in
    let f = ok_parts _ _ k₃.1 in
    let u = ok_parts _ _ f.2 in
    let o = ok_parts _ _ u.2 in
    let g : Edge = record { from = f.0; to = u.0; op = o.0 } in
    let p : with_edge s g ≡ t = cc o.2 in
    let good : T (edge_ok s.chart g) = and3 (ltb f.0 (length s.chart.locs)) (ltb u.0 (length s.chart.locs)) (op_ok s.chart.vars o.0) (location_is (length s.chart.locs) (nth fs 1) f.0 f.1) (location_is (length s.chart.locs) (nth fs 2) u.0 u.1) (op_is s.chart w.0 fs o.0 o.1) in
    subst (λ (y : SoFar). Sound y.chart) p (record {
      few_vars = h.few_vars;
      few_locs = h.few_locs;
      few_edges = omega (arith, length-append s.chart.edges (g ∷ []), ltb→lt (length s.chart.edges) most_edges k₁.0);
      vars = h.vars;
      names = h.names;
      distinct = h.distinct;
      edges = all_snoc (edge_ok s.chart) s.chart.edges g h.edges good;
    })

judge_sound : (s t : SoFar) (fs : List (List ℕ)) → judge s fs ≡ ok t → Sound s.chart → Sound t.chart
unfolding judge
judge_sound s t fs e h = go (same_bytes (nth fs 0) (86 ∷ [])) (same_bytes (nth fs 0) (76 ∷ [])) (same_bytes (nth fs 0) (69 ∷ [])) e
  where
    go : (a b c : Bool) → pick a (var_line s fs) (pick b (loc_line s fs) (pick c (edge_line s fs) (fail 4))) ≡ ok t → Sound t.chart
    go true b c e = var_sound s t fs e h
    go false true c e = loc_sound s t fs e h
    go false false true e = edge_sound s t fs e h
    go false false false e = absurd (fail_ok e)

-- ---- the file

pub refused_not : {n l : ℕ} {c : Chart} → refused n l ≡ accepted c → ⊥
refused_not e = clash cc

judged_ok : (ls : List (List (List ℕ))) (n : ℕ) (s : SoFar) (c : Chart) → Sound s.chart → judged n s ls ≡ accepted c → Sound c × (1 ≤ length c.locs)
unfolding judged
judged_ok [] n s c h e = go s.chart.locs refl e
  where
    go : (ls : List Loc) → s.chart.locs ≡ ls → pick (is_empty ls) (refused 8 0) (accepted s.chart) ≡ accepted c → Sound c × (1 ≤ length c.locs)
    go [] q e = absurd (refused_not e)
    go (l ∷ ls) q e = let p : s.chart ≡ c = cc in (subst Sound p h, subst (λ (x : Chart). 1 ≤ length x.locs) p (omega (arith, ap length q)))
judged_ok (l ∷ ls) n s c h e = go (judge s l) refl e (judged_ok ls (suc n))
  where
    go : (r : Res SoFar) → judge s l ≡ r → onward n r (λ t. judged (suc n) t ls) ≡ accepted c
        → ((t : SoFar) (c : Chart) → Sound t.chart → judged (suc n) t ls ≡ accepted c → Sound c × (1 ≤ length c.locs)) → Sound c × (1 ≤ length c.locs)
    go (fail k) q e ih = absurd (refused_not e)
    go (ok t) q e ih = ih t c (judge_sound s t l q h) e

if_accepted : (b : Bool) (k : ℕ) (r : Reading) (c : Chart) → pick b (refused k 0) r ≡ accepted c → r ≡ accepted c
if_accepted true k r c e = absurd (refused_not e)
if_accepted false k r c e = e

at_accepted : (o : Option ℕ) (k : ℕ) (r : Reading) (c : Chart) → refused_at o k r ≡ accepted c → r ≡ accepted c
at_accepted none k r c e = e
at_accepted (some n) k r c e = absurd (refused_not e)

pub in_bounds : (text : List ℕ) (c : Chart) → read text ≡ accepted c → T (chart_ok c)
unfolding read chart_ok
in_bounds text c e =
    let r = judged 1 nothing_read (map fields (lines text)) in
    let e₁ = if_accepted (ltb most_bytes (length text)) 1 (refused_at (bad_byte_line 1 text) 2 (refused_at (open_line 0 10 text) 3 r)) c e in
    let e₂ = at_accepted (bad_byte_line 1 text) 2 (refused_at (open_line 0 10 text) 3 r) c e₁ in
    let e₃ = at_accepted (open_line 0 10 text) 3 r c e₂ in
    let q = judged_ok (map fields (lines text)) 1 nothing_read c (record { few_vars = omega arith; few_locs = omega arith; few_edges = omega arith; vars = tt; names = tt; distinct = tt; edges = tt }) e₃ in
    let h = q.0 in
    let n = length c.locs in
    and3 (leb (length c.vars) most_variables && between 1 most_locations n && leb (length c.edges) most_edges && all var_ok c.vars && all (λ l. name_ok l.name) c.locs) (distinct_names c.locs) (all (edge_ok c) c.edges)
    (and3 (leb (length c.vars) most_variables && between 1 most_locations n && leb (length c.edges) most_edges) (all var_ok c.vars) (all (λ l. name_ok l.name) c.locs)
    (and3 (leb (length c.vars) most_variables) (between 1 most_locations n) (leb (length c.edges) most_edges) (le→leb (length c.vars) most_variables h.few_vars) (both_true (leb 1 n) (leb n most_locations) (le→leb 1 n q.1) (le→leb n most_locations h.few_locs)) (le→leb (length c.edges) most_edges h.few_edges))
    h.vars h.names)
    h.distinct h.edges
