-- The input values of an edge, by its words: the numbers of a range, and each by its place. Assumes nothing.
use lib.IntN.{+ℤ_assoc, +ℤ_idr}
use Rattle.semantics.proofs.Prelude.{◌≡◌, refl, sym, ap, ◌∙◌, subst, inl, inr, List, [], ◌∷◌, ℕ, zero, suc, ltb, ◌+◌, ◌<◌, arith, T, le_z, ℤ, pos, ◌+ℤ◌, ◌-ℤ◌, length, get_or, w32, SFits, sfits_lit}
use Rattle.semantics.specs.Layout.{least_number, most_number, most_inputs, operation_place, target_place, first_value_place, second_value_place, in_code}
use Rattle.semantics.specs.Lists.{In}
use Rattle.semantics.specs.Chart.{Op, assign, add, sub, input, assume, skip, within, small}
use Rattle.semantics.specs.Encoding.{word_at, count, op_ok, decode, well_formed}
use Rattle.semantics.specs.Search.{up, size, interval, inputs}
use Rattle.semantics.specs.RunListing.{wide_input}
use Rattle.semantics.proofs.Bools.{to_true, and_left, and_right}
use Rattle.semantics.proofs.ChartChoices.{interval_in}
use Rattle.semantics.proofs.RealRuns.{interval_length}
use Rattle.words.proofs.Words.{between_fits}
use Rattle.chart.specs.declared.EdgeRow.{EdgeRow}
use Rattle.chart.specs.declared.Kind.TheVariants as kind
use Rattle.chart.specs.Kinds.{kind_of}
use Rattle.chart.proofs.KindOf.{code_of_in, in_of_code}
use Rattle.descent.specs.Rows.{edge_of, IsEdge}
use Rattle.descent.proofs.Exactly.{one_input}
use Rattle.descent.proofs.Moves.{edge_op_ok, in_op, other_op}

small_fits : (z : ℤ) → T (small z) → SFits w32 z
small_fits z t =
    between_fits {lo = least_number} {hi = most_number} z (sfits_lit tt) (sfits_lit tt)
    (to_true (le_z least_number z) (and_left (le_z least_number z) (le_z z most_number) t))
    (to_true (le_z z most_number) (and_right (le_z least_number z) (le_z z most_number) t))

pub in_get_or : (xs : List ℤ) (i : ℕ) → i < length xs → In (get_or xs i (pos 0)) xs
in_get_or [] i h = absurd (omega arith)
in_get_or (x ∷ xs) zero h = inl refl
in_get_or (x ∷ xs) (suc i) h = inr (in_get_or xs i (omega arith))

up_get : (n i : ℕ) (z : ℤ) → i < n → get_or (up n z) i (pos 0) ≡ z +ℤ pos i
up_get zero i z h = absurd (omega arith)
up_get (suc n) zero z h = sym (+ℤ_idr z)
up_get (suc n) (suc i) z h =
    up_get n i (z +ℤ pos 1) (omega arith) ∙ +ℤ_assoc z (pos 1) (pos i) ∙ ap (λ (k : ℕ). z +ℤ pos k) (omega arith)

pub interval_get : (p q : ℤ) (i : ℕ) → i < length (interval p q) → get_or (interval p q) i (pos 0) ≡ p +ℤ pos i
unfolding interval
interval_get p q i h = up_get (size (q -ℤ p)) i p (subst (λ (n : ℕ). i < n) (interval_length p q) h)

-- ---- those of an edge, by its words

module _ (ws : List ℤ) (e : EdgeRow) where
  abbrev op : Op
  op = (edge_of ws e).edge.op

  abbrev low : ℤ
  low = word_at ws (e.at + first_value_place)

  abbrev high : ℤ
  high = word_at ws (e.at + second_value_place)

  -- an edge that reads nothing has the value 0 alone
  pub one_value : (kind_of (count ws (e.at + operation_place)) ≡ kind.In → ⊥) → inputs op ≡ interval (pos 0) (pos 0)
  unfolding interval
  one_value h = one_input op (other_op ws e (λ n. h (code_of_in _ n)))

  -- an `in`, the numbers from p to q
  pub values_of_in : kind_of (count ws (e.at + operation_place)) ≡ kind.In → inputs op ≡ interval low high
  values_of_in h = ap inputs (in_op ws e (in_of_code _ h))

  module _ (i : ℕ) (h : count ws (e.at + operation_place) ≡ in_code) (l : i < length (inputs op)) where
    pub value_of_in : get_or (inputs op) i (pos 0) ≡ low +ℤ pos i
    value_of_in = ap (λ (xs : List ℤ). get_or xs i (pos 0)) (values_of_in (code_of_in _ h)) ∙ interval_get low high i (subst (λ (xs : List ℤ). i < length xs) (values_of_in (code_of_in _ h)) l)

    -- it lies between p and q
    value_inside : T (within low high (low +ℤ pos i))
    value_inside = interval_in low high (low +ℤ pos i) (subst (λ (x : ℤ). In x (interval low high)) (interval_get low high i (subst (λ (xs : List ℤ). i < length xs) (values_of_in (code_of_in _ h)) l)) (in_get_or (interval low high) i (subst (λ (xs : List ℤ). i < length xs) (values_of_in (code_of_in _ h)) l)))

    -- which are numbers of a file, and so words
    pub value_fits : T (well_formed ws) → IsEdge ws e → SFits w32 (low +ℤ pos i)
    value_fits f is =
        let fine : T (op_ok (decode ws).vars (input (count ws (e.at + target_place)) low high)) = subst (λ (x : Op). T (op_ok (decode ws).vars x)) (in_op ws e h) (edge_op_ok ws f e is) in
        let p : T (small low) = search (and_left, and_right) depth 8 in
        let q : T (small high) = search (and_left, and_right) depth 8 in
        between_fits (low +ℤ pos i) (small_fits low p) (small_fits high q)
        (to_true (le_z low (low +ℤ pos i)) (and_left (le_z low (low +ℤ pos i)) (le_z (low +ℤ pos i) high) value_inside))
        (to_true (le_z (low +ℤ pos i) high) (and_right (le_z low (low +ℤ pos i)) (le_z (low +ℤ pos i) high) value_inside))

-- ---- whether they are too many

wide_is : (o : Op) → wide_input o ≡ ltb most_inputs (length (inputs o))
wide_is (assign v a) = refl
wide_is (add v a b) = refl
wide_is (sub v a b) = refl
wide_is (input v p q) = ap (ltb most_inputs) (sym (interval_length p q))
wide_is (assume v r a) = refl
wide_is skip = refl

pub wide_by_range : (o : Op) (p q : ℤ) → inputs o ≡ interval p q → wide_input o ≡ ltb most_inputs (size (q -ℤ p))
wide_by_range o p q e = wide_is o ∙ ap (λ (l : List ℤ). ltb most_inputs (length l)) e ∙ ap (ltb most_inputs) (interval_length p q)
