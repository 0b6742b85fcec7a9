-- The name of a location, as its words have it, and that its numbers are bytes where the words are in form.
-- Assumes nothing.
use Rattle.std.specs.Prelude.{Option, Some, None}
use Rattle.std.specs.Option.{unwrap_or}
use Rattle.std.specs.List.{position_or_len}
use Rattle.std.specs.Ordering.{int_eq}
use Rattle.semantics.proofs.Prelude.{cond, not, ◌&&◌, ◌||◌, ◌-◌, leb, add-one, take_all, length-drop, length-take-le, ltb, ltb-false, ◌≡◌, refl, ap, ◌∙◌, Bool, true, false, List, [], ◌∷◌, map, ℕ, zero, suc, ◌+◌, ◌*◌, ◌≤◌, ◌<◌, arith, lt-ltb, T, ℤ, pos, nat_abs, length, get_or, take, drop, drop-drop}
use Rattle.semantics.specs.Layout.{kind_place, counts_size, variable_size, name_size, location_size, name_place, byte_limit}
use Rattle.semantics.specs.Lists.{all, pick}
use Rattle.semantics.specs.Text.{between, name_byte, name_ok}
use Rattle.semantics.specs.Chart.{Loc, eq_z}
use Rattle.semantics.specs.Listing.{loc_text}
use Rattle.semantics.specs.Encoding.{word_at, kind_word, name_in, loc_in, several, decode, well_formed, variable_count, location_count}
use Rattle.semantics.proofs.Bools.{and_left, and_right}
use Rattle.semantics.proofs.Integers.{eq_z_sym}
use Rattle.words.proofs.Iterating.{int_eq_is}
use Rattle.semantics.proofs.Encoded.{formed_bounds}
use Rattle.semantics.proofs.Texts.{plain_range}
use Rattle.semantics.proofs.Rendered.{byte_plain}
use Rattle.semantics.specs.Memory.{zeros}
use Rattle.chart.specs.Encoded.{locations_at, byte_of, name_word, location_fine}
use Rattle.chart.proofs.Rows.{past_drop}

-- location k of n
text_at : (n k : ℕ) (ws : List ℤ) → k < n → loc_text (several loc_in location_size n ws) k ≡ (loc_in (drop (location_size * k) ws)).name
text_at zero k ws h = absurd (omega arith)
text_at (suc n) zero ws h = refl
text_at (suc n) (suc k) ws h =
    let e : location_size + location_size * k ≡ location_size * suc k = omega arith in
    text_at n k (drop location_size ws) (omega arith) ∙ rw (drop-drop (location_size * k) location_size ws, e)

text_past : (n k : ℕ) (ws : List ℤ) → n ≤ k → loc_text (several loc_in location_size n ws) k ≡ []
text_past zero k ws h = refl
text_past (suc n) zero ws h = absurd (omega arith)
text_past (suc n) (suc k) ws h = text_past n k (drop location_size ws) (omega arith)

module _ (ws : List ℤ) (k : ℕ) where
  pub name_at : k < location_count ws → loc_text (decode ws).locs k ≡ (loc_in (drop (locations_at ws + location_size * k) ws)).name
  unfolding decode
  name_at h =
      rw (past_drop variable_size (variable_count ws) (drop counts_size ws), drop-drop (variable_size * variable_count ws) counts_size ws)
      (text_at (location_count ws) k (drop (locations_at ws) ws) h ∙ rw (drop-drop (location_size * k) (locations_at ws) ws))

  pub no_name : location_count ws ≤ k → loc_text (decode ws).locs k ≡ []
  unfolding decode
  no_name h = text_past (location_count ws) k _ h

-- a name has a word for each byte
pub bytes_in : (n : ℕ) (ws : List ℤ) → (map nat_abs (take (length (name_in n ws)) ws) ≡ name_in n ws) × (length (name_in n ws) ≤ length ws)
bytes_in zero ws = (refl, omega arith)
bytes_in (suc n) [] = (refl, omega arith)
bytes_in (suc n) (x ∷ xs) = go (eq_z x (pos 0)) (bytes_in n xs) where
  go : (b : Bool) → (map nat_abs (take (length (name_in n xs)) xs) ≡ name_in n xs) × (length (name_in n xs) ≤ length xs)
      → (map nat_abs (take (length (pick b [] (nat_abs x ∷ (name_in n xs)))) (x ∷ xs)) ≡ pick b [] (nat_abs x ∷ (name_in n xs))) × (length (pick b [] (nat_abs x ∷ (name_in n xs))) ≤ length (x ∷ xs))
  go true ih = (refl, omega arith)
  go false ih = (ap (λ (bs : List ℕ). nat_abs x ∷ bs) ih.0, omega (arith, ih.1))

-- it ends before the first 0
pub name_ends : (n : ℕ) (ws : List ℤ) → length (name_in n ws) ≡ position_or_len (λ w. int_eq w (pos 0)) (take n ws)
name_ends zero ws = refl
name_ends (suc n) [] = refl
name_ends (suc n) (x ∷ xs) = rw (int_eq_is x (pos 0), eq_z_sym (pos 0) x) (go (eq_z x (pos 0)) (name_ends n xs)) where
  go : (b : Bool) → length (name_in n xs) ≡ position_or_len (λ w. int_eq w (pos 0)) (take n xs) → length (pick b [] (nat_abs x ∷ name_in n xs)) ≡ cond (not b) (1 + position_or_len (λ w. int_eq w (pos 0)) (take n xs)) 0
  go true e = refl
  go false e = omega (arith, e)

-- what `position` answers there
pub found_or : (k m : ℕ) (r : Option ℕ) (u : ℕ) → k ≤ m → r ≡ cond (ltb k m) (Some k) None → u ≡ unwrap_or r m → u ≡ k
found_or k m r u h e f = f ∙ ap (λ (o : Option ℕ). unwrap_or o m) e ∙ go (ltb k m) refl where
  go : (b : Bool) → ltb k m ≡ b → unwrap_or (cond b (Some k) None) m ≡ k
  go true q = refl
  go false q = omega (arith, ltb-false k m q)

module _ (ws : List ℤ) (k at : ℕ) (place : at ≡ locations_at ws + location_size * k + name_place) where
  pub name_from : k < location_count ws → loc_text (decode ws).locs k ≡ name_in name_size (drop at ws)
  name_from h = name_at ws k h ∙ rw (drop-drop name_place (locations_at ws + location_size * k) ws, place)

-- a location's row, its name parted from the words after it
pub location_parts : (row : List ℤ) (n : ℕ) → length row ≡ location_size → n ≡ length (name_in name_size (take name_size (drop name_place row)))
    → (eq_z (word_at row kind_place) (kind_word false) || eq_z (word_at row kind_place) (kind_word true))
    && leb 1 (length (take n (take name_size (drop name_place row)))) && all name_word (take n (take name_size (drop name_place row))) && zeros (drop n (take name_size (drop name_place row)))
    ≡ location_fine row
unfolding location_fine
location_parts [] n l e = absurd (omega arith)
location_parts (k ∷ xs) n l e =
    let w : take name_size xs ≡ xs = take_all name_size xs (omega arith) in
    let m = length (name_in name_size xs) in
    let f : n ≡ m = rw w at e in
    rw (w, f, length-take-le m xs (bytes_in name_size xs).1, add-one m, take_all (name_size - m) (drop m xs) (simp length-drop (omega arith)))

-- ---- in form, the numbers are bytes

small_byte : (b : ℕ) → T (name_byte b) → b < byte_limit
small_byte b t = let r = plain_range b (byte_plain b t) in omega arith

small_bytes : (bs : List ℕ) (i : ℕ) → T (all name_byte bs) → get_or bs i 0 < byte_limit
small_bytes [] i t = omega arith
small_bytes (b ∷ bs) zero t = small_byte b (and_left (name_byte b) (all name_byte bs) t)
small_bytes (b ∷ bs) (suc i) t = small_bytes bs i (and_right (name_byte b) (all name_byte bs) t)

small_names : (ls : List Loc) (k i : ℕ) → T (all (λ l. name_ok l.name) ls) → get_or (loc_text ls k) i 0 < byte_limit
small_names [] k i t = omega arith
small_names (l ∷ ls) zero i t = small_bytes l.name i (and_right (between 1 name_size (length l.name)) (all name_byte l.name) (and_left (name_ok l.name) (all (λ m. name_ok m.name) ls) t))
small_names (l ∷ ls) (suc k) i t = small_names ls k i (and_right (name_ok l.name) (all (λ m. name_ok m.name) ls) t)

-- so `byte_of` answers the byte of the name itself
pub names_are_bytes : (ws : List ℤ) → T (well_formed ws) → (k i : ℕ) → byte_of (get_or (loc_text (decode ws).locs k) i 0) ≡ get_or (loc_text (decode ws).locs k) i 0
names_are_bytes ws t k i =
    let b = formed_bounds ws t in
    rw (lt-ltb (get_or (loc_text (decode ws).locs k) i 0) byte_limit (small_names (decode ws).locs k i b.names))
