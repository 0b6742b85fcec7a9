-- The numbers of names: names of different numbers differ, a number is small, and the numbers stand beside the rows that
-- they are of. Assumes nothing.
use Rattle.std.specs.List.{zip}
use Rattle.semantics.specs.Lists.{all}
use Rattle.semantics.specs.Chart.{Loc, eq_z}
use Rattle.semantics.proofs.Integers.{eq_z_refl}
use Rattle.semantics.proofs.Prelude.{◌≡◌, refl, sym, ap, ◌∙◌, subst, Bool, true, false, not, ◌&&◌, List, [], ◌∷◌, map, ℕ, zero, suc, ◌+◌, ◌-◌, ◌*◌, ◌<◌, ◌≤◌, add-one, arith, T, eqb, eqb→eq, ℤ, pos, length, take, drop, length-drop, drop-drop, get_or, set, take-suc-set}
use Rattle.semantics.specs.Layout.{name_size, location_size, byte_limit}
use Rattle.semantics.specs.Text.{same_bytes}
use Rattle.semantics.specs.Encoding.{loc_in, several, distinct_names}
use Rattle.semantics.proofs.Bools.{and_left, and_right, and_regroup, from_false, to_false}
use Rattle.chart.specs.Encoded.{number_from, number_of, name_number, other_row}
use Rattle.chart.proofs.Names.{other_name}
use Rattle.chart.proofs.RowLoops.{rows_read, rows_at, rows_from, rows_more}
use Rattle.chart.proofs.RowParts.{loc_part}

-- ---- two numbers

same_names : (a b : List ℕ) → T (same_bytes a b) → a ≡ b
same_names [] [] t = refl
same_names [] (y ∷ b) t = absurd t
same_names (x ∷ a) [] t = absurd t
same_names (x ∷ a) (y ∷ b) t = λ j. eqb→eq x y (and_left (eqb x y) (same_bytes a b) t) j ∷ same_names a b (and_right (eqb x y) (same_bytes a b) t) j

pub numbers_apart : (us vs : List ℤ) → (name_number us ≡ name_number vs → ⊥) → same_bytes (loc_in us).name (loc_in vs).name ≡ false
numbers_apart us vs h = to_false _ (λ t. h (ap (λ (n : List ℕ). pos (number_from 0 n)) (same_names (loc_in us).name (loc_in vs).name t)))

-- ---- how large a number is

-- the most that n becomes by k bytes
unfoldable pub grown : ℕ → ℕ → ℕ
grown zero n = n
grown (suc k) n = grown k (2 * n + 255)

grown_least : (k n : ℕ) → n ≤ grown k n
unfolding grown
grown_least zero n = omega arith
grown_least (suc k) n = omega (arith, grown_least k (2 * n + 255))

grown_more : (k m n : ℕ) → m ≤ n → grown k m ≤ grown k n
unfolding grown
grown_more zero m n h = h
grown_more (suc k) m n h = grown_more k (2 * m + 255) (2 * n + 255) (omega arith)

-- i bytes make n
abbrev pub Small : ℕ → ℕ → Type 0
Small i n = grown (name_size - i) n ≤ 16777216

pub small_start : Small 0 0
unfolding grown
small_start = omega arith

pub small_now : (i n : ℕ) → Small i n → n ≤ 16777216
small_now i n s = omega (arith, s, grown_least (name_size - i) n)

pub small_turn : (i n b : ℕ) → i < name_size → b < byte_limit → Small i n → Small (i + 1) (2 * n + b)
unfolding grown
small_turn i n b h k s =
    let m : name_size - i ≡ suc (name_size - (i + 1)) = omega arith in
    omega (arith, rw m at s, grown_more (name_size - (i + 1)) (2 * n + b) (2 * n + 255) (omega arith))

-- ---- the numbers of rows

-- they are the numbers of the locations that the rows say
pub numbers_of : (n : ℕ) (ws : List ℤ) → several name_number location_size n ws ≡ map number_of (several loc_in location_size n ws)
numbers_of zero ws = refl
numbers_of (suc n) ws = ap (λ (l : List ℤ). name_number ws ∷ l) (numbers_of n (drop location_size ws))

-- a row of another name is known by the number of that name, or else by its words
pub by_numbers : (row : List ℤ) (rs : List (List ℤ)) → all (other_row row (name_number row)) (zip rs (map name_number rs)) ≡ all (other_name row) (map loc_in rs)
by_numbers row [] = refl
by_numbers row (r ∷ rs) = rw (by_numbers row rs) (ap (λ (b : Bool). not b && all (other_name row) (map loc_in rs)) (one (eq_z (name_number row) (name_number r)) refl)) where
  same : Bool
  same = same_bytes (loc_in row).name (loc_in r).name

  one : (b : Bool) → eq_z (name_number row) (name_number r) ≡ b → b && same ≡ same
  one true e = refl
  one false e = sym (numbers_apart row r (λ q. absurd (from_false e (subst (λ z. T (eq_z (name_number row) z)) q (eq_z_refl (name_number row))))))

pub rows_by_numbers : (row : List ℤ) (n : ℕ) (ws : List ℤ) → location_size * n ≤ length ws → all (other_row row (name_number row)) (zip (several (take location_size) location_size n ws) (several name_number location_size n ws)) ≡ all (other_name row) (several loc_in location_size n ws)
rows_by_numbers row n ws h =
    let rs = several (take location_size) location_size n ws in
    let nums : map name_number rs ≡ several name_number location_size n ws = rows_read location_size name_number (λ r k. ap number_of (loc_part r k)) n ws h in
    let locs : map loc_in rs ≡ several loc_in location_size n ws = rows_read location_size loc_in loc_part n ws h in
    ap (λ (l : List ℤ). all (other_row row (name_number row)) (zip rs l)) (sym nums) ∙ by_numbers row rs ∙ ap (all (other_name row)) locs

-- one number more
pub numbers_turn : (ns ws : List ℤ) (i : ℕ) → i < length ns → location_size * i + location_size ≤ length ws → take i ns ≡ several name_number location_size i ws → (z : ℤ) → z ≡ name_number (take location_size (drop (location_size * i) ws))
    → take (i + 1) (set ns i z) ≡ several name_number location_size (i + 1) ws
numbers_turn ns ws i h room s z e =
    let r : z ≡ name_number (drop (location_size * i) ws) = e ∙ ap number_of (loc_part (drop (location_size * i) ws) (simp length-drop (omega arith))) in
    rw (add-one i, take-suc-set ns i z h, s, r) (sym (rows_more name_number location_size i ws))

-- row i differs from those after it, and these from each other
module _ (ns ws : List ℤ) (i : ℕ) (h : i < length ns) (room : location_size * length ns ≤ length ws) (are : ns ≡ several name_number location_size (length ns) ws) where
  abbrev here : List ℤ
  here = drop (location_size * i) ws

  abbrev after : List ℤ
  after = drop (location_size * (i + 1)) ws

  abbrev left : ℕ
  left = length ns - (i + 1)

  pub differ_turn : (ok b : Bool) → b ≡ all (other_row (take location_size here) (get_or ns i (pos 0))) (zip (several (take location_size) location_size left after) (drop (i + 1) ns))
      → ok && distinct_names (several loc_in location_size (length ns - i) here) ≡ ok && b && distinct_names (several loc_in location_size left after)
  differ_turn ok b e =
      let m : length ns - i ≡ suc left = omega arith in
      let own : loc_in (take location_size here) ≡ loc_in here = loc_part here (simp length-drop (omega arith)) in
      let number : get_or ns i (pos 0) ≡ name_number (take location_size here) =
      ap (λ (l : List ℤ). get_or l i (pos 0)) are ∙ rows_at name_number location_size (pos 0) i (length ns) ws h ∙ ap number_of (sym own) in
      let numbers : drop (i + 1) ns ≡ several name_number location_size left after = ap (drop (i + 1)) are ∙ rows_from name_number location_size (i + 1) (length ns) ws in
      let others : b ≡ all (other_name here) (several loc_in location_size left after) =
      (rw (number, numbers) at e) ∙ rows_by_numbers (take location_size here) left after (simp length-drop (omega arith))
      ∙ ap (λ (l : Loc). all (λ m. not (same_bytes l.name m.name)) (several loc_in location_size left after)) own in
      let place : location_size * i + location_size ≡ location_size * (i + 1) = omega arith in
      rw (m, drop-drop location_size (location_size * i) ws, place, others) (and_regroup ok (all (other_name here) (several loc_in location_size left after)) (distinct_names (several loc_in location_size left after)))
