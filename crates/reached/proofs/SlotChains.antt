-- The chains of the slots of a table; and slots on another chain than that of a state are passed over: its test and its
-- merge change nothing there. Assumes nothing.
use Rattle.semantics.proofs.Prelude.{◌≡◌, refl, sym, ap, ◌∙◌, Bool, true, false, List, [], ◌∷◌, ◌++◌, map, map-append, ℕ, zero, suc, ◌+◌, ◌-◌, ◌*◌, ◌≤◌, ◌<◌, mul-le-mul_right, suc-mul, add-one, ltb, ltb-true, ltb-false, arith, nat_abs, ℤ, length, get_or, take, drop, length-map, drop-drop, take-append-drop}
use Rattle.semantics.specs.Lists.{pick}
use Rattle.semantics.specs.Algorithm.{wait}
use Rattle.words.proofs.Rows.{row_in, part_length}
use Rattle.words.proofs.Words.{eq_z_true}
use Rattle.words.proofs.LentNumbers.{over_all}
use Rattle.state.specs.declared.Layout.{Layout}
use Rattle.state.specs.Rows.{width_of, location_word, row_of, rows_of, same_place, row_leq, row_join, row_merge, rows_merge, same_words}
use Rattle.state.proofs.RowLoops.{same_refl}
use Rattle.state.proofs.Slots.{drop_slot, merge_turn}
use Rattle.reached.specs.Reached.{lies_from, rewaits}
use Rattle.reached.specs.Links.{chain_of, chain_in, chains_of, Passed}
use Rattle.reached.proofs.SlotLoops.{slot_tested}
use Rattle.reached.proofs.Table.{drop_next, rows_length, rows_next}

module _ (y : Layout) where
  abbrev d : ℕ
  d = y.stride

  pub chains_length : (n : ℕ) (t : List ℤ) → length (chains_of y n t) ≡ n
  chains_length n t = length-map (rows_of y n t) chain_in ∙ rows_length y n t

  pub chains_next : (n : ℕ) (t : List ℤ) → chains_of y (n + 1) t ≡ chains_of y n t ++ (chain_in (row_of y n t) ∷ [])
  chains_next n t = ap (map chain_in) (rows_next y n t) ∙ map-append chain_in (rows_of y n t) (row_of y n t ∷ [])

  pub chains_get : (n s : ℕ) (t : List ℤ) → s < n → get_or (chains_of y n t) s 0 ≡ chain_in (row_of y s t)
  chains_get zero s t h = absurd (omega arith)
  chains_get (suc n) zero t h = let z : 0 * d ≡ 0 = omega arith in rw z
  chains_get (suc n) (suc s) t h = rw (drop_next y s t) (chains_get n s (drop d t) (omega arith))

-- a merge keeps the location
location_joined : (e s : List ℤ) → location_word (row_join e s) ≡ location_word s
location_joined [] [] = refl
location_joined (x ∷ []) [] = refl
location_joined (x ∷ z ∷ e) [] = refl
location_joined e (y ∷ s) = refl

location_merged : (e s : List ℤ) → location_word (row_merge e s) ≡ location_word s
location_merged e s = go (same_place e s)
  where
    go : (b : Bool) → location_word (pick b (row_join e s) s) ≡ location_word s
    go true = location_joined e s
    go false = refl

pub chains_merged : (e : List ℤ) (en : List (List ℤ)) → map chain_in (map (row_merge e) en) ≡ map chain_in en
chains_merged e [] = refl
chains_merged e (x ∷ xs) = λ i. chain_of (nat_abs (location_merged e x i)) ∷ chains_merged e xs i

-- ---- passed over

pub drop_later : {A : Type 0} (t t₀ : List A) (a b : ℕ) → a ≤ b → drop a t ≡ drop a t₀ → drop b t ≡ drop b t₀
drop_later t t₀ a b h q =
    let k : b ≡ a + (b - a) = omega arith in
    rw k (sym (drop-drop (b - a) a t) ∙ ap (drop (b - a)) q ∙ drop-drop (b - a) a t₀)

module _ (e r : List ℤ) (other : chain_in r ≡ chain_in e → ⊥) where
  other_place : same_place e r ≡ false
  other_place = go (same_place e r) refl
    where
      go : (b : Bool) → same_place e r ≡ b → same_place e r ≡ false
      go true p = absurd (other (ap (λ (z : ℤ). chain_of (nat_abs z)) (sym (eq_z_true (location_word e) (location_word r) p))))
      go false p = p

  not_under : row_leq e r ≡ false
  not_under = rw other_place

  unmerged : row_merge e r ≡ r
  unmerged = rw other_place

module _ (y : Layout) (used : ℕ) (e : List ℤ) where
  -- what links over the slots of t₀ pass over, in a table that has the same slots from s on
  pub passed_rows : (t₀ t : List ℤ) (s m : ℕ) → Passed (chains_of y used t₀) (chain_in e) s m → drop (s * y.stride) t ≡ drop (s * y.stride) t₀
      → (j : ℕ) → s ≤ j → j < m → j < used → chain_in (row_of y j t) ≡ chain_in e → ⊥
  passed_rows t₀ t s m p q j lo hi i o =
      let same : row_of y j t ≡ row_of y j t₀ = ap (take (width_of y)) (drop_later t t₀ (s * y.stride) (j * y.stride) (mul-le-mul_right y.stride lo) q) in
      p j lo hi (omega (arith, i, chains_length y used t₀)) (chains_get y used j t₀ i ∙ ap chain_in (sym same) ∙ o)

  -- the slots left at s, of used ones
  left : (s : ℕ) → s < used → used - s ≡ suc (used - (s + 1))
  left s h = omega arith

  none : (s : ℕ) → used ≤ s → used - s ≡ 0
  none s h = omega arith

  module _ (t : List ℤ) where
    abbrev Over : ℕ → Type 0
    Over s = s < used → chain_in (row_of y s t) ≡ chain_in e → ⊥

    abbrev tested : ℕ → Bool
    tested = lies_from y used e t

    test_one : (s : ℕ) → Over s → tested s ≡ tested (s + 1)
    test_one s o = go (ltb s used) refl
      where
        go : (b : Bool) → ltb s used ≡ b → tested s ≡ tested (s + 1)
        go true b = let i = ltb-true s used b in slot_tested y used e t s false i (not_under e (row_of y s t) (o i))
        go false b = let i = ltb-false s used b in rw (none s i, none (s + 1) (omega (arith, i)))

    pub passed_test : (s m : ℕ) → s ≤ m → ((j : ℕ) → s ≤ j → j < m → Over j) → tested s ≡ tested m
    passed_test = over_all tested Over test_one

    module _ (wa : List ℕ) where
      abbrev waiting : ℕ → List ℕ
      waiting s = rewaits e s (rows_of y (used - s) (drop (s * y.stride) t)) wa

      wait_one : (s : ℕ) → Over s → waiting s ≡ waiting (s + 1)
      wait_one s o = go (ltb s used) refl
        where
          go : (b : Bool) → ltb s used ≡ b → waiting s ≡ waiting (s + 1)
          go true b =
              let i = ltb-true s used b in
              let r = row_of y s t in
              let same : same_words (row_merge e r) r ≡ true = ap (λ (x : List ℤ). same_words x r) (unmerged e r (o i)) ∙ same_refl r in
              ap (λ (n : ℕ). rewaits e s (rows_of y n (drop (s * y.stride) t)) wa) (left s i)
              ∙ (λ j. rewaits e (sym (add-one s) j) (rows_of y (used - (s + 1)) (drop_slot y s t j)) (pick (same j) wa (wait s wa)))
          go false b = let i = ltb-false s used b in rw (none s i, none (s + 1) (omega (arith, i)))

      pub passed_waits : (s m : ℕ) → s ≤ m → ((j : ℕ) → s ≤ j → j < m → Over j) → waiting s ≡ waiting m
      passed_waits = over_all waiting Over wait_one

    module _ (apart : width_of y ≤ y.stride) (fits : used * y.stride ≤ length t) where
      abbrev merging : ℕ → List ℤ
      merging s = take (s * y.stride) t ++ rows_merge e y (used - s) (drop (s * y.stride) t)

      merge_one : (s : ℕ) → Over s → merging s ≡ merging (s + 1)
      merge_one s o = go (ltb s used) refl
        where
          go : (b : Bool) → ltb s used ≡ b → merging s ≡ merging (s + 1)
          go true b =
              let i = ltb-true s used b in
              let a = s * y.stride in
              let room : a + y.stride ≤ length t = omega (arith, row_in s used y.stride i) in
              let k : (s + 1) * y.stride ≡ a + y.stride = rw add-one (suc-mul s y.stride) in
              let same : take a t ++ (take (width_of y) (drop a t) ++ drop (width_of y) (drop a t)) ≡ t = rw (take-append-drop (width_of y) (drop a t)) (take-append-drop a t) in
              rw (left s i, k) (merge_turn e t y a (used - (s + 1)) (row_of y s t) room apart (part_length t a (width_of y) (omega (arith, room))) (sym (unmerged e (row_of y s t) (o i)))
              ∙ ap (λ (x : List ℤ). take (a + y.stride) x ++ rows_merge e y (used - (s + 1)) (drop (a + y.stride) x)) same)
          go false b =
              let i = ltb-false s used b in
              rw (none s i, none (s + 1) (omega (arith, i))) (take-append-drop (s * y.stride) t ∙ sym (take-append-drop ((s + 1) * y.stride) t))

      pub passed_merge : (s m : ℕ) → s ≤ m → ((j : ℕ) → s ≤ j → j < m → Over j) → merging s ≡ merging m
      passed_merge = over_all merging Over merge_one
