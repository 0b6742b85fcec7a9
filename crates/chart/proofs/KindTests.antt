-- What is tested of an operation's words is tested by its kind. Assumes nothing.
use Rattle.semantics.proofs.Prelude.{◌≡◌, refl, sym, ap, ◌∙◌, Bool, true, false, ◌&&◌, List, ℕ, ◌-◌, eqb, eqb-true, ℤ, nat_abs, take, drop, w32, SFits, of_z, to_z, to_z-of_z}
use Rattle.semantics.specs.Lists.{pick}
use Rattle.semantics.specs.Layout.{edge_size, operation_place, target_place, skip_code, set_code, add_code, sub_code, in_code}
use Rattle.semantics.specs.Encoding.{word_at, count}
use Rattle.semantics.specs.Memory.{below, zeros}
use Rattle.chart.specs.declared.Kind.{Kind}
use Rattle.chart.specs.declared.Kind.TheVariants.{Skip, Set, Compute, In, If}
use Rattle.chart.specs.Kinds.{kind_of}
use Rattle.chart.specs.Encoded.{two_fine, one_fine, input_fine, operands_fine, operation_fine}
use Rattle.chart.proofs.KindOf.{by_kinds}

by_code : (n : ℕ) (z t one two both : Bool) → pick (eqb n skip_code) z (pick (eqb n set_code) (t && one) (pick (eqb n add_code) (t && two) (pick (eqb n sub_code) (t && two) (pick (eqb n in_code) (t && both) (t && one)))))
    ≡ pick (eqb n skip_code) z (t && pick (eqb n add_code) two (pick (eqb n sub_code) two (pick (eqb n in_code) both one)))
by_code n z t one two both = go (eqb n skip_code) (eqb n set_code) (eqb n add_code) (eqb n sub_code) (eqb n in_code) refl refl refl refl where
  go : (s k a b i : Bool) → eqb n set_code ≡ k → eqb n add_code ≡ a → eqb n sub_code ≡ b → eqb n in_code ≡ i
      → pick s z (pick k (t && one) (pick a (t && two) (pick b (t && two) (pick i (t && both) (t && one))))) ≡ pick s z (t && pick a two (pick b two (pick i both one)))
  go true k a b i e f g h = refl
  go false true a b i e f g h =
      let n : n ≡ set_code = eqb-true n set_code e in
      let p : a ≡ false = sym f ∙ ap (λ (m : ℕ). eqb m add_code) n in
      let q : b ≡ false = sym g ∙ ap (λ (m : ℕ). eqb m sub_code) n in
      let r : i ≡ false = sym h ∙ ap (λ (m : ℕ). eqb m in_code) n in
      rw (p, q, r)
  go false false true b i e f g h = refl
  go false false false true i e f g h = refl
  go false false false false true e f g h = refl
  go false false false false false e f g h = refl

module _ (vars : List ℤ) (v : ℕ) (ws : List ℤ) where
  -- a word as the code reads it
  abbrev pub read : ℕ → ℤ
  read i = to_z w32 (of_z w32 (word_at ws i))

  abbrev pub fine_by : Kind → Bool
  fine_by Skip = zeros (take (edge_size - target_place) (drop target_place ws))
  fine_by Set = below v (read target_place) && one_fine v ws
  fine_by (Compute s) = below v (read target_place) && two_fine v ws
  fine_by In = below v (read target_place) && input_fine vars ws
  fine_by (If r) = below v (read target_place) && one_fine v ws

  -- k is what the operation's code says
  pub tested_by : SFits w32 (word_at ws operation_place) → SFits w32 (word_at ws target_place) → (k : Kind) → kind_of (nat_abs (read operation_place)) ≡ k → fine_by k ≡ operation_fine vars v ws
  unfolding operation_fine operands_fine
  tested_by f g k e =
      let n = count ws operation_place in
      let q : kind_of n ≡ k = rw (to_z-of_z w32 (word_at ws operation_place) f) at e in
      ap fine_by (sym q) ∙ by_kinds fine_by n ∙ rw (to_z-of_z w32 (word_at ws target_place) g) (by_code n _ _ (one_fine v ws) (two_fine v ws) (input_fine vars ws))
