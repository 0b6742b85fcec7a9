-- One row: the test of its words is that it is what its decoding encodes to, and that this is what reading can produce.
-- Assumes nothing.
use Rattle.semantics.proofs.Prelude.{◌≡◌, refl, sym, ap, ◌∙◌, Bool, true, false, ◌&&◌, and-true, ◌||◌, List, [], ◌∷◌, ◌++◌, map, ℕ, zero, suc, ◌-◌, ◌≤◌, ◌<◌, sub-zero, suc-sub-suc, add-one, arith, le-leb, ne_eqb, lt-leb, T, leb, ltb, ltb→lt, ℤ, pos, negsuc, nat_abs, length, take, drop, replicate, length-map, non_neg, le_z}
use Rattle.semantics.specs.Layout.{variable_size, name_size, location_size, edge_size, ge_code, ordinary_kind, error_kind, number_tag, variable_tag}
use Rattle.semantics.specs.Lists.{pick, all}
use Rattle.semantics.specs.Text.{name_byte, name_ok}
use Rattle.semantics.specs.Chart.{Var, Chart, eq_z, small, in_range, Operand, Op, assign, add, sub, input, assume, skip, num, var}
use Rattle.semantics.specs.Encoding.{kind_word, var_words, loc_words, tag, operand_word, op_words, edge_words, var_in, name_in, loc_in, operand, op_of, edge_in, operand_ok, op_ok, edge_ok, begins_with}
use Rattle.semantics.specs.Memory.{below, zeros}
use Rattle.semantics.proofs.Bools.{and_left, and_right, and_regroup, both_true}
use Rattle.semantics.proofs.MemoryInForm.{word_back}
use Rattle.semantics.proofs.Integers.{eq_z_sym}
use Rattle.words.proofs.Words.{eq_z_self}
use Rattle.chart.specs.Encoded.{name_word, location_fine, operand_fine, ranged, two_fine, one_fine, input_fine, operands_fine, operation_fine, edge_fine, is_at_most}
use Rattle.chart.proofs.Rows.{iff, interchange}

-- a word is the number that it says where it is not below 0
pub said : (z : ℤ) → eq_z (pos (nat_abs z)) z ≡ non_neg z
said (pos n) = eq_z_self (pos n)
said (negsuc n) = refl

-- ---- a variable

pub var_row : (r : List ℤ) → variable_size ≤ length r → begins_with (var_words (var_in r)) r ≡ true
var_row [] h = absurd (omega arith)
var_row (a ∷ []) h = absurd (omega arith)
var_row (a ∷ b ∷ []) h = absurd (omega arith)
var_row (a ∷ b ∷ c ∷ r) h = rw (word_back c, eq_z_self a, eq_z_self b, eq_z_self c)

-- ---- a location

kind_row : (k : ℤ) → eq_z (kind_word (eq_z k error_kind)) k ≡ eq_z k ordinary_kind || eq_z k error_kind
kind_row k = go (eq_z k ordinary_kind) (eq_z k error_kind) refl refl where
  go : (u v : Bool) → eq_z k ordinary_kind ≡ u → eq_z k error_kind ≡ v → eq_z (kind_word v) k ≡ u || v
  go true true p q = eq_z_sym error_kind k ∙ q
  go false true p q = eq_z_sym error_kind k ∙ q
  go true false p q = eq_z_sym ordinary_kind k ∙ p
  go false false p q = eq_z_sym ordinary_kind k ∙ p

byte_row : (z : ℤ) → name_word z ≡ eq_z (pos (nat_abs z)) z && name_byte (nat_abs z)
unfolding name_word name_byte
byte_row (pos n) = rw (eq_z_self (pos n))
byte_row (negsuc n) = refl

begins_zeros : (m : ℕ) (ws : List ℤ) → m ≤ length ws → begins_with (replicate m (pos 0)) ws ≡ zeros (take m ws)
begins_zeros zero ws h = refl
begins_zeros (suc m) [] h = absurd (omega arith)
begins_zeros (suc m) (w ∷ ws) h = ap (λ (b : Bool). eq_z (pos 0) w && b) (begins_zeros m ws (omega arith))

pub name_few : (n : ℕ) (ws : List ℤ) → length (name_in n ws) ≤ n
name_few zero ws = omega arith
name_few (suc n) [] = omega arith
name_few (suc n) (x ∷ xs) = go (eq_z x (pos 0)) (name_few n xs) where
  go : (b : Bool) → length (name_in n xs) ≤ n → length (pick b [] (nat_abs x ∷ (name_in n xs))) ≤ suc n
  go true h = omega arith
  go false h = omega arith

-- the bytes bs, read from n words
abbrev bytes_exact : ℕ → List ℕ → List ℤ → Bool
bytes_exact n bs ws = begins_with (map pos bs ++ replicate (n - length bs) (pos 0)) ws && all name_byte bs

abbrev bytes_fine : ℕ → ℕ → List ℤ → Bool
bytes_fine n m ws = all name_word (take m ws) && zeros (take (n - m) (drop m ws))

name_row : (n : ℕ) (ws : List ℤ) → n ≤ length ws → bytes_exact n (name_in n ws) ws ≡ bytes_fine n (length (name_in n ws)) ws
name_row zero ws h = refl
name_row (suc n) [] h = absurd (omega arith)
name_row (suc n) (x ∷ xs) h = go (name_row n xs (omega arith)) (eq_z x (pos 0)) where
  go : bytes_exact n (name_in n xs) xs ≡ bytes_fine n (length (name_in n xs)) xs → (b : Bool) → bytes_exact (suc n) (pick b [] (nat_abs x ∷ (name_in n xs))) (x ∷ xs) ≡ bytes_fine (suc n) (length (pick b [] (nat_abs x ∷ (name_in n xs)))) (x ∷ xs)
  go ih true = rw (sub-zero (suc n)) (and-true _ ∙ begins_zeros (suc n) (x ∷ xs) h)
  go ih false =
      let m = length (name_in n xs) in
      let bs = name_in n xs in
      rw (suc-sub-suc n m, byte_row x)
      (interchange (eq_z (pos (nat_abs x)) x) (begins_with (map pos bs ++ replicate (n - m) (pos 0)) xs) (name_byte (nat_abs x)) (all name_byte bs)
      ∙ ap (λ (b : Bool). (eq_z (pos (nat_abs x)) x && name_byte (nat_abs x)) && b) ih
      ∙ and_regroup (eq_z (pos (nat_abs x)) x && name_byte (nat_abs x)) (all name_word (take m xs)) (zeros (take (n - m) (drop m xs))))

pub location_row : (r : List ℤ) → location_size ≤ length r → begins_with (loc_words (loc_in r)) r && name_ok (loc_in r).name ≡ location_fine r
unfolding location_fine
location_row [] h = absurd (omega arith)
location_row (k ∷ xs) h =
    let bs = name_in name_size xs in
    let n = length bs in
    let few : leb n name_size ≡ true = le-leb n name_size (name_few name_size xs) in
    let l : name_size ≤ length xs = omega arith in
    rw (kind_row k, few, and-true (leb 1 n), length-map bs pos, add-one n)
    (interchange (eq_z k ordinary_kind || eq_z k error_kind) (begins_with (map pos bs ++ replicate (name_size - n) (pos 0)) xs) (leb 1 n) (all name_byte bs)
    ∙ ap (λ (b : Bool). ((eq_z k ordinary_kind || eq_z k error_kind) && leb 1 n) && b) (name_row name_size xs l)
    ∙ and_regroup ((eq_z k ordinary_kind || eq_z k error_kind) && leb 1 n) (all name_word (take n xs)) (zeros (take (name_size - n) (drop n xs))))

-- ---- an edge: what is tested of each word and of what it says, in the order of the code's tests

sure : T true
sure = tt

shuffle_one : (t a x b y l o : Bool) → (t && (a && (x && (b && (y && true))))) && (l && o) ≡ (t && l) && (((a && x) && o) && b && y)
shuffle_one t a x b y l o = iff _ _ (λ h. search (and_left, and_right, both_true) depth 9) (λ h. search (and_left, and_right, both_true, sure) depth 9)

shuffle_two : (t a x b y l o p : Bool) → (t && (a && (x && (b && (y && true))))) && (l && o && p) ≡ (t && l) && (((a && x) && o) && ((b && y) && p))
shuffle_two t a x b y l o p = iff _ _ (λ h. search (and_left, and_right, both_true) depth 9) (λ h. search (and_left, and_right, both_true, sure) depth 9)

shuffle_input : (t a b l s u v w z : Bool) → (t && (a && (true && (b && (true && true))))) && (l && s && u && v && w && z) ≡ (t && l) && (a && b && s && u && v && w && z)
shuffle_input t a b l s u v w z = iff _ _ (λ h. search (and_left, and_right, both_true) depth 12) (λ h. search (and_left, and_right, both_true, sure) depth 12)

shuffle_edge : (f t b l m o : Bool) → (f && (t && b)) && (l && m && o) ≡ ((f && l) && (t && m)) && (b && o)
shuffle_edge f t b l m o = iff _ _ (λ h. search (and_left, and_right, both_true) depth 9) (λ h. search (and_left, and_right, both_true) depth 9)

-- what is tested after l may lean on it
guarded : (e l p q : Bool) → (T l → p ≡ q) → (e && l) && p ≡ (e && l) && q
guarded true true p q h = h tt
guarded true false p q h = refl
guarded false l p q h = refl

-- P of the first n numbers
abbrev pub First : (ℕ → Type 0) → ℕ → Type 0
First P zero = Unit {0}
First P (suc n) = P zero × First (λ k. P (suc k)) n

-- k more than n, in the form that a look-up computes by
abbrev pub beyond : ℕ → ℕ → ℕ
beyond zero k = k
beyond (suc n) k = suc (beyond n k)

-- P of every number, the first n of them looked up
pub looked_up : (P : ℕ → Type 0) (n : ℕ) → First P n → ((k : ℕ) → P (beyond n k)) → (m : ℕ) → P m
looked_up P zero h more m = more m
looked_up P (suc n) h more zero = h.0
looked_up P (suc n) h more (suc m) = looked_up (λ k. P (suc k)) n h.1 more m

not_first : (o : Op) (m : ℕ) (ws : List ℤ) → begins_with (op_words o) (negsuc m ∷ ws) ≡ false
not_first (assign v a) m ws = refl
not_first (add v a b) m ws = refl
not_first (sub v a b) m ws = refl
not_first (input v p q) m ws = refl
not_first (assume v r a) m ws = refl
not_first skip m ws = refl

-- vars are the variables, and vw their words; t is the target, and a, x, b, y are the operands' words
module _ (vars : List Var) (vw : List ℤ) (in_words_lem : (k : ℕ) (z : ℤ) → k < length vars → in_range vars k z ≡ ranged vw k z) where
  operand_row : (a x : ℤ) → eq_z (tag (operand a x)) a && eq_z (operand_word (operand a x)) x && operand_ok vars (operand a x) ≡ operand_fine (length vars) a x
  unfolding operand_fine
  operand_row a x = go (eq_z a number_tag) refl where
    go : (u : Bool) → eq_z a number_tag ≡ u → eq_z (tag (pick u (num x) (var (nat_abs x)))) a && eq_z (operand_word (pick u (num x) (var (nat_abs x)))) x && operand_ok vars (pick u (num x) (var (nat_abs x))) ≡ pick u (small x) (eq_z a variable_tag && below (length vars) x)
    go true e = rw (eq_z_sym number_tag a, e, eq_z_self x)
    go false e = rw (eq_z_sym variable_tag a, said x) (sym (and_regroup (eq_z a variable_tag) (non_neg x) (ltb (nat_abs x) (length vars))))

  module _ (t a x b y : ℤ) (ws : List ℤ) where
    abbrev A : Operand
    A = operand a x

    abbrev B : Operand
    B = operand b y

    one_row : (eq_z (pos (nat_abs t)) t && (eq_z (tag A) a && (eq_z (operand_word A) x && (eq_z (pos 0) b && (eq_z (pos 0) y && true))))) && (ltb (nat_abs t) (length vars) && operand_ok vars A)
        ≡ below (length vars) t && (operand_fine (length vars) a x && eq_z b (pos 0) && eq_z y (pos 0))
    one_row =
        shuffle_one (eq_z (pos (nat_abs t)) t) (eq_z (tag A) a) (eq_z (operand_word A) x) (eq_z (pos 0) b) (eq_z (pos 0) y) (ltb (nat_abs t) (length vars)) (operand_ok vars A)
        ∙ rw (said t, operand_row a x, eq_z_sym (pos 0) b, eq_z_sym (pos 0) y)

    two_row : (eq_z (pos (nat_abs t)) t && (eq_z (tag A) a && (eq_z (operand_word A) x && (eq_z (tag B) b && (eq_z (operand_word B) y && true))))) && (ltb (nat_abs t) (length vars) && operand_ok vars A && operand_ok vars B)
        ≡ below (length vars) t && (operand_fine (length vars) a x && operand_fine (length vars) b y)
    two_row =
        shuffle_two (eq_z (pos (nat_abs t)) t) (eq_z (tag A) a) (eq_z (operand_word A) x) (eq_z (tag B) b) (eq_z (operand_word B) y) (ltb (nat_abs t) (length vars)) (operand_ok vars A) (operand_ok vars B)
        ∙ rw (said t, operand_row a x, operand_row b y)

    input_row : (eq_z (pos (nat_abs t)) t && (eq_z number_tag a && (eq_z x x && (eq_z number_tag b && (eq_z y y && true))))) && op_ok vars (input (nat_abs t) x y)
        ≡ below (length vars) t && (eq_z a number_tag && eq_z b number_tag && small x && ranged vw (nat_abs t) x && small y && ranged vw (nat_abs t) y && le_z x y)
    input_row =
        rw (eq_z_self x, eq_z_self y, eq_z_sym number_tag a, eq_z_sym number_tag b, said t)
        (shuffle_input (non_neg t) (eq_z a number_tag) (eq_z b number_tag) (ltb (nat_abs t) (length vars)) (small x) (in_range vars (nat_abs t) x) (small y) (in_range vars (nat_abs t) y) (le_z x y)
        ∙ guarded (non_neg t) (ltb (nat_abs t) (length vars)) _ _ (λ h. rw (in_words_lem (nat_abs t) x (ltb→lt (nat_abs t) (length vars) h), in_words_lem (nat_abs t) y (ltb→lt (nat_abs t) (length vars) h))))

    abbrev op : ℕ → Op
    op n = op_of n (nat_abs t) A B x y

    abbrev Judged : ℤ → ℤ → ℤ → Type 0
    Judged f g o = begins_with (op_words (op (nat_abs o))) (o ∷ t ∷ a ∷ x ∷ b ∷ y ∷ ws) && op_ok vars (op (nat_abs o))
        ≡ is_at_most ge_code o && operation_fine vw (length vars) (f ∷ g ∷ o ∷ t ∷ a ∷ x ∷ b ∷ y ∷ ws)

    -- by the code: `skip`, `set`, `add`, `sub`, `in`, and the six of `if`
    operation_row : (f g o : ℤ) → Judged f g o
    unfolding operation_fine operands_fine one_fine two_fine input_fine
    operation_row f g (pos n) =
        looked_up (λ (k : ℕ). Judged f g (pos k)) (suc ge_code)
        (and-true _, (one_row, (two_row, (two_row, (input_row, (one_row, (one_row, (one_row, (one_row, (one_row, (one_row, tt)))))))))))
        (λ k. rw (ne_eqb ge_code (beyond (suc ge_code) k) (λ e. omega arith), lt-leb (beyond (suc ge_code) k) ge_code (omega arith)))
        n
    operation_row f g (negsuc n) = rw (not_first (op (suc n)) n (t ∷ a ∷ x ∷ b ∷ y ∷ ws))

module _ (c : Chart) (vw : List ℤ) (in_words_lem : (k : ℕ) (z : ℤ) → k < length c.vars → in_range c.vars k z ≡ ranged vw k z) where
  pub edge_row : (r : List ℤ) → edge_size ≤ length r → begins_with (edge_words (edge_in r)) r && edge_ok c (edge_in r) ≡ edge_fine vw (length c.vars) (length c.locs) r
  unfolding edge_fine
  edge_row [] h = absurd (omega arith)
  edge_row (f ∷ []) h = absurd (omega arith)
  edge_row (f ∷ g ∷ []) h = absurd (omega arith)
  edge_row (f ∷ g ∷ o ∷ []) h = absurd (omega arith)
  edge_row (f ∷ g ∷ o ∷ t ∷ []) h = absurd (omega arith)
  edge_row (f ∷ g ∷ o ∷ t ∷ a ∷ []) h = absurd (omega arith)
  edge_row (f ∷ g ∷ o ∷ t ∷ a ∷ x ∷ []) h = absurd (omega arith)
  edge_row (f ∷ g ∷ o ∷ t ∷ a ∷ x ∷ b ∷ []) h = absurd (omega arith)
  edge_row (f ∷ g ∷ o ∷ t ∷ a ∷ x ∷ b ∷ y ∷ ws) h =
      let l = length c.locs in
      let q = op_of (nat_abs o) (nat_abs t) (operand a x) (operand b y) x y in
      let w = o ∷ t ∷ a ∷ x ∷ b ∷ y ∷ ws in
      rw (said f, said g)
      (shuffle_edge (non_neg f) (non_neg g) (begins_with (op_words q) w) (ltb (nat_abs f) l) (ltb (nat_abs g) l) (op_ok c.vars q)
      ∙ ap (λ (u : Bool). (below l f && below l g) && u) (operation_row c.vars vw in_words_lem t a x b y ws f g o)
      ∙ and_regroup (below l f && below l g) (is_at_most ge_code o) (operation_fine vw (length c.vars) (f ∷ g ∷ w)))
