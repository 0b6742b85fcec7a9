-- Laws of the table as rows and the tails after them: the merge of all slots, the row of a slot, a state and its origin
-- stored at the next slot. Assumes nothing.
use Rattle.semantics.proofs.Prelude.{◌≡◌, refl, sym, ap, ◌∙◌, List, [], ◌∷◌, ◌++◌, map, append_assoc, some, ℕ, zero, suc, ◌+◌, ◌-◌, ◌*◌, ◌≤◌, ◌<◌, suc-mul, add_comm, add-one, arith, ℤ, pos, length, take, drop, replicate, length-drop, length-append, take_at, drop_at, drop-drop, take-add, take-take, take-append-le, length-take-le}
use Rattle.semantics.specs.Lists.{pick, get}
use Rattle.semantics.specs.Layout.{origin_size}
use Rattle.semantics.specs.Algorithm.{wait}
use Rattle.semantics.specs.Tidy.{Every, Queue}
use Rattle.words.proofs.Rows.{drop_zeros, put_here, drop_put, length_put}
use Rattle.state.specs.declared.Layout.{Layout}
use Rattle.state.specs.Rows.{width_of, row_of, row_merge, slot_merge, rows_merge, by_slot, rows_of, tails_of, same_words}
use Rattle.state.proofs.RowLoops.{length_row_merge}
use Rattle.state.proofs.Slots.{slot_length}
use Rattle.reached.specs.Reached.{rewaits}
use Rattle.reached.proofs.SlotLoops.{unless_queue}

-- each row has w words
abbrev pub Sized : ℕ → List (List ℤ) → Type 0
Sized w en = Every (λ x. length x ≡ w) en

module _ (y : Layout) where
  abbrev w : ℕ
  w = width_of y

  abbrev d : ℕ
  d = y.stride

  fits_next : (n : ℕ) (t : List ℤ) → suc n * d ≤ length t → (d ≤ length t) × (n * d ≤ length (drop d t))
  fits_next n t h = let e = suc-mul n d in (omega (arith, e, h), rw length-drop (omega (arith, e, h)))

  pub drop_next : (n : ℕ) (t : List ℤ) → drop (suc n * d) t ≡ drop (n * d) (drop d t)
  drop_next n t = let e : suc n * d ≡ d + n * d = suc-mul n d ∙ add_comm (n * d) d in rw e (sym (drop-drop (n * d) d t))

  -- what f makes of each slot; it looks at the slot alone where a rest x past it changes nothing
  module _ {A : Type 0} (f : List ℤ → A) where
    by_length : (n : ℕ) (t : List ℤ) → length (by_slot f d n t) ≡ n
    by_length zero t = refl
    by_length (suc n) t = ap suc (by_length n (drop d t))

    by_snoc : (n : ℕ) (t : List ℤ) → by_slot f d (suc n) t ≡ by_slot f d n t ++ (f (drop (n * d) t) ∷ [])
    by_snoc zero t = let z : 0 * d ≡ 0 = omega arith in rw z
    by_snoc (suc n) t = rw (drop_next n t) (ap (λ (r : List A). f t ∷ r) (by_snoc n (drop d t)))

    by_get : (n s : ℕ) (t : List ℤ) → s < n → get (by_slot f d n t) s ≡ some (f (drop (s * d) t))
    by_get zero s t h = absurd (omega arith)
    by_get (suc n) zero t h = let z : 0 * d ≡ 0 = omega arith in rw z
    by_get (suc n) (suc s) t h = rw (drop_next s t) (by_get n s (drop d t) (omega arith))

    by_prefix : ((t x : List ℤ) → d ≤ length t → f (take d t ++ x) ≡ f t) → (n : ℕ) (t x : List ℤ) → n * d ≤ length t → by_slot f d n (take (n * d) t ++ x) ≡ by_slot f d n t
    by_prefix own zero t x h = refl
    by_prefix own (suc n) t x h =
        let m = fits_next n t h in
        let e : suc n * d ≡ d + n * d = suc-mul n d ∙ add_comm (n * d) d in
        let lt : length (take d t) ≡ d = length-take-le d t m.0 in
        let rest = take (n * d) (drop d t) ++ x in
        let s : take (suc n * d) t ++ x ≡ take d t ++ rest = rw (e, take-add d (n * d) t) (append_assoc (take d t) (take (n * d) (drop d t)) x) in
        ap (by_slot f d (suc n)) s ∙ (λ i. own t rest m.0 i ∷ (ap (by_slot f d n) (drop_at (take d t) rest d lt) ∙ by_prefix own n (drop d t) x m.1) i)

  pub rows_length : (n : ℕ) (t : List ℤ) → length (rows_of y n t) ≡ n
  rows_length n t = by_length (take w) n t

  pub rows_next : (n : ℕ) (t : List ℤ) → rows_of y (n + 1) t ≡ rows_of y n t ++ (row_of y n t ∷ [])
  rows_next n t = rw add-one (by_snoc (take w) n t)

  -- the state of slot s
  pub rows_get : (n s : ℕ) (t : List ℤ) → s < n → get (rows_of y n t) s ≡ some (row_of y s t)
  rows_get n s t h = by_get (take w) n s t h

  -- a tail is a part of its slot
  tail_own : (t x : List ℤ) → d ≤ length t → drop w (take d (take d t ++ x)) ≡ drop w (take d t)
  tail_own t x h = ap (drop w) (take_at (take d t) x d (length-take-le d t h))

  pub tails_prefix : (n : ℕ) (t x : List ℤ) → n * d ≤ length t → tails_of y n (take (n * d) t ++ x) ≡ tails_of y n t
  tails_prefix = by_prefix (λ s. drop w (take d s)) tail_own

  module _ (apart : w ≤ d) where
    pub rows_sized : (n : ℕ) (t : List ℤ) → n * d ≤ length t → Sized w (rows_of y n t)
    rows_sized zero t h = tt
    rows_sized (suc n) t h = let f = fits_next n t h in (length-take-le w t (omega (arith, f.0)), rows_sized n (drop d t) f.1)

    -- and so is a state
    row_own : (t x : List ℤ) → d ≤ length t → take w (take d t ++ x) ≡ take w t
    row_own t x h = take-append-le w (take d t) x (omega (arith, length-take-le d t h)) ∙ take-take w d t apart

    pub rows_prefix : (n : ℕ) (t x : List ℤ) → n * d ≤ length t → rows_of y n (take (n * d) t ++ x) ≡ rows_of y n t
    rows_prefix = by_prefix (take w) row_own

    -- the merge of all slots
    module _ (e : List ℤ) where
      row_size : (t : List ℤ) → d ≤ length t → length (row_merge e (take w t)) ≡ w
      row_size t h = length_row_merge e (take w t) ∙ length-take-le w t (omega arith)

      slot_size : (t : List ℤ) → d ≤ length t → length (slot_merge e y t) ≡ d
      slot_size t h = slot_length t 0 w d (row_merge e (take w t)) (omega arith) apart (row_size t h)

      pub rows_merged : (n : ℕ) (t : List ℤ) → n * d ≤ length t → rows_of y n (rows_merge e y n t) ≡ map (row_merge e) (rows_of y n t)
      rows_merged zero t h = refl
      rows_merged (suc n) t h =
          let f = fits_next n t h in
          let rest = rows_merge e y n (drop d t) in
          let row = row_merge e (take w t) in
          let here : take w (slot_merge e y t ++ rest) ≡ row = take-append-le w (slot_merge e y t) rest (omega (arith, slot_size t f.0)) ∙ take_at row (drop w (take d t)) w (row_size t f.0) in
          rw (here, drop_at (slot_merge e y t) rest d (slot_size t f.0), rows_merged n (drop d t) f.1)

      -- it leaves what stands past the states
      pub tails_merged : (n : ℕ) (t : List ℤ) → n * d ≤ length t → tails_of y n (rows_merge e y n t) ≡ tails_of y n t
      tails_merged zero t h = refl
      tails_merged (suc n) t h =
          let f = fits_next n t h in
          let rest = rows_merge e y n (drop d t) in
          let size = slot_size t f.0 in
          let here : drop w (take d (slot_merge e y t ++ rest)) ≡ drop w (take d t) = ap (drop w) (take_at (slot_merge e y t) rest d size) ∙ drop_at (row_merge e (take w t)) (drop w (take d t)) w (row_size t f.0) in
          λ i. here i ∷ (ap (tails_of y n) (drop_at (slot_merge e y t) rest d size) ∙ tails_merged n (drop d t) f.1) i

      pub drop_merged : (n : ℕ) (t : List ℤ) → n * d ≤ length t → drop (n * d) (rows_merge e y n t) ≡ drop (n * d) t
      drop_merged zero t h = refl
      drop_merged (suc n) t h =
          let f = fits_next n t h in
          let rest = rows_merge e y n (drop d t) in
          drop_next n (slot_merge e y t ++ rest) ∙ rw (drop_at (slot_merge e y t) rest d (slot_size t f.0)) (drop_merged n (drop d t) f.1 ∙ sym (drop_next n t))

-- a state e and the words p of an origin stored at the next slot
module _ (y : Layout) (n : ℕ) (t e p : List ℤ) (fits : n * y.stride + y.stride ≤ length t) (tailed : y.stride ≡ width_of y + origin_size) (len : length e ≡ width_of y) (two : length p ≡ origin_size) where
  abbrev at : ℕ
  at = n * y.stride

  abbrev pub stored_next : List ℤ
  stored_next = take at t ++ ((e ++ p) ++ drop y.stride (drop at t))

  whole : length (e ++ p) ≡ y.stride
  whole = length-append e p ∙ omega arith

  -- the slots before it are as they were, and it holds e and p
  here : take y.stride (drop at stored_next) ≡ e ++ p
  here = put_here t at y.stride (e ++ p) fits whole

  pub rows_stored : rows_of y (n + 1) stored_next ≡ rows_of y n t ++ (e ∷ [])
  rows_stored =
      let apart : width_of y ≤ y.stride = omega arith in
      let row : take (width_of y) (drop at stored_next) ≡ e = sym (take-take (width_of y) y.stride (drop at stored_next) apart) ∙ ap (take (width_of y)) here ∙ take_at e p (width_of y) len in
      rw add-one (by_snoc y (take (width_of y)) n stored_next ∙ (λ i. rows_prefix y apart n t ((e ++ p) ++ drop y.stride (drop at t)) (omega arith) i ++ (row i ∷ [])))

  pub tails_stored : tails_of y (n + 1) stored_next ≡ tails_of y n t ++ (p ∷ [])
  tails_stored =
      let own : drop (width_of y) (take y.stride (drop at stored_next)) ≡ p = ap (drop (width_of y)) here ∙ drop_at e p (width_of y) len in
      rw add-one (by_snoc y (λ s. drop (width_of y) (take y.stride s)) n stored_next ∙ (λ i. tails_prefix y n t ((e ++ p) ++ drop y.stride (drop at t)) (omega arith) i ++ (own i ∷ [])))

  pub stored_length : length stored_next ≡ length t
  stored_length = length_put t at y.stride (e ++ p) fits whole

  pub rest_stored : drop at t ≡ replicate (length t - at) (pos 0) → drop ((n + 1) * y.stride) stored_next ≡ replicate (length t - (n + 1) * y.stride) (pos 0)
  rest_stored z =
      let k : (n + 1) * y.stride ≡ at + y.stride = rw add-one (suc-mul n y.stride) in
      let q : length t - at - y.stride ≡ length t - (at + y.stride) = omega arith in
      rw (k, drop_put t at y.stride (e ++ p) fits whole, z, drop_zeros y.stride (length t - at), q)

-- the slots that wait again are in use
pub rewaits_queue : (e : List ℤ) (n i : ℕ) (en : List (List ℤ)) (wa : List ℕ) → i + length en ≤ n → Queue n wa → Queue n (rewaits e i en wa)
rewaits_queue e n i [] wa h q = q
rewaits_queue e n i (x ∷ xs) wa h q =
    let same = same_words (row_merge e x) x in
    rewaits_queue e n (suc i) xs (pick same wa (wait i wa)) (omega arith) (unless_queue same n i wa (omega arith) q)
