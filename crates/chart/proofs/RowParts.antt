-- What is read of a row is read in its own words, whatever comes after them. Assumes nothing.
use Rattle.semantics.proofs.Prelude.{◌≡◌, refl, ap, List, [], ◌∷◌, ℕ, zero, suc, ◌-◌, ◌≤◌, arith, add-one, ℤ, pos, nat_abs, length, take, drop, take-take}
use Rattle.semantics.specs.Layout.{variable_size, name_size, location_size, edge_size}
use Rattle.semantics.specs.Lists.{pick}
use Rattle.semantics.specs.Chart.{eq_z}
use Rattle.semantics.specs.Encoding.{name_in, var_in, loc_in}
use Rattle.words.proofs.Rows.{drop_take}
use Rattle.chart.specs.Encoded.{location_fine, two_fine, one_fine, input_fine, operands_fine, operation_fine, edge_fine}
use Rattle.chart.proofs.RowTests.{name_few}

pub var_part : (r : List ℤ) → variable_size ≤ length r → var_in (take variable_size r) ≡ var_in r
var_part [] h = absurd (omega arith)
var_part (a ∷ []) h = absurd (omega arith)
var_part (a ∷ b ∷ []) h = absurd (omega arith)
var_part (a ∷ b ∷ c ∷ r) h = refl

name_part : (n : ℕ) (ws : List ℤ) → name_in n (take n ws) ≡ name_in n ws
name_part zero ws = refl
name_part (suc n) [] = refl
name_part (suc n) (x ∷ xs) = ap (λ (bs : List ℕ). pick (eq_z x (pos 0)) [] (nat_abs x ∷ bs)) (name_part n xs)

pub loc_part : (r : List ℤ) → location_size ≤ length r → loc_in (take location_size r) ≡ loc_in r
loc_part [] h = absurd (omega arith)
loc_part (k ∷ xs) h = rw (name_part name_size xs)

pub location_part : (r : List ℤ) → location_size ≤ length r → location_fine (take location_size r) ≡ location_fine r
unfolding location_fine
location_part [] h = absurd (omega arith)
location_part (k ∷ xs) h =
    let n = length (name_in name_size xs) in
    let few : n ≤ name_size = name_few name_size xs in
    rw (name_part name_size xs, add-one n, take-take n name_size xs few, drop_take n name_size xs, take-take (name_size - n) (name_size - n) (drop n xs) (omega arith))

module _ (vars : List ℤ) (v l : ℕ) where
  pub edge_part : (r : List ℤ) → edge_size ≤ length r → edge_fine vars v l (take edge_size r) ≡ edge_fine vars v l r
  unfolding edge_fine operation_fine operands_fine two_fine one_fine input_fine
  edge_part [] h = absurd (omega arith)
  edge_part (f ∷ []) h = absurd (omega arith)
  edge_part (f ∷ g ∷ []) h = absurd (omega arith)
  edge_part (f ∷ g ∷ o ∷ []) h = absurd (omega arith)
  edge_part (f ∷ g ∷ o ∷ t ∷ []) h = absurd (omega arith)
  edge_part (f ∷ g ∷ o ∷ t ∷ a ∷ []) h = absurd (omega arith)
  edge_part (f ∷ g ∷ o ∷ t ∷ a ∷ x ∷ []) h = absurd (omega arith)
  edge_part (f ∷ g ∷ o ∷ t ∷ a ∷ x ∷ b ∷ []) h = absurd (omega arith)
  edge_part (f ∷ g ∷ o ∷ t ∷ a ∷ x ∷ b ∷ y ∷ ws) h = refl
