-- Laws of the waitlist's words that move: a slot put first, the one at a place taken out. Assumes nothing.
use Rattle.semantics.proofs.Prelude.{◌≡◌, refl, sym, ap, subst, ◌∙◌, inl, inr, Bool, true, false, List, [], ◌∷◌, ◌++◌, map, append_assoc, append-nil, some, ℕ, zero, suc, ◌+◌, ◌-◌, ◌≤◌, ◌<◌, add-one, arith, eqb, eqb-true, eqb-false, eq-eqb, ne_eqb, ltb, ltb-true, ltb-false, cond, ℤ, pos, nat_abs, length, take, drop, get_or, set, replicate, length-map, length-append, length-replicate, length-drop, set_at, take-suc, take_all, map-append, length-take, drop_of_length-le, drop-cons, drop-drop, sub-zero}
use Rattle.std.proofs.lemmas.List.{take-map, drop-map, take-append-le, get_or-take}
use Rattle.std.proofs.Common.{Option, Some, None}
use Rattle.std.specs.List.{copy_within, position_or_len}
use Rattle.semantics.specs.declared.Order.{Order}
use Rattle.semantics.specs.declared.Order.TheVariants.{Old, New}
use Rattle.semantics.specs.Algorithm.{without, take_by, take_last}
use Rattle.semantics.specs.Chart.{eq_z}
use Rattle.semantics.specs.Encoding.{count}
use Rattle.semantics.specs.Lists.{In}
use Rattle.semantics.specs.Tidy.{Distinct}
use Rattle.semantics.proofs.Waitlist.{take_last_snoc}
use Rattle.words.proofs.Rows.{drop_take, drop_zeros}
use Rattle.waitlist.specs.Waits.{waits, Stored, next_place, others}
use Rattle.waitlist.proofs.WaitWords.{front, zeros_after}

-- past the words in use there are zeros
zeros_from : {l : List ℤ} {n : ℕ} {wa : List ℕ} → Stored l n wa → (m : ℕ) → n ≤ m → drop m l ≡ replicate (length l - m) (pos 0)
zeros_from {l} {n} p m h =
    let e : m ≡ n + (m - n) = omega arith in
    let f : length l - n - (m - n) ≡ length l - m = omega arith in
    ap (λ (j : ℕ). drop j l) e ∙ sym (drop-drop (m - n) n l) ∙ ap (drop (m - n)) (zeros_after p) ∙ drop_zeros (m - n) (length l - n) ∙ rw f

-- ---- the front

moved_up : (l : List ℤ) (n : ℕ) (x : ℤ) → 0 < length l → set (copy_within l 0 n 1) 0 x ≡ x ∷ (take n l ++ drop (n + 1) l)
moved_up [] n x h = absurd (omega arith)
moved_up (y ∷ l) n x h = let e : 1 + n ≡ n + 1 = omega arith in rw (sub-zero, e)

-- the words in use go up, and the next slot's is the first
pub put_first : {l : List ℤ} {n : ℕ} {wa : List ℕ} (k : ℕ) → Stored l n wa → n < length l → Stored (set (copy_within l 0 n 1) 0 (pos k)) (n + 1) (k ∷ wa)
put_first {l} {n} {wa} k p h =
    rw (moved_up l n (pos k) (omega arith), front p, zeros_from p (n + 1) (omega arith))
    record {
      count = rw (add-one, p.count);
      fits = simp (length-append, length-map, length-replicate) (omega (arith, p.count));
      words = let e : length (map pos wa ++ replicate (length l - (n + 1)) (pos 0)) ≡ length l - 1 = simp (length-append, length-map, length-replicate) (omega (arith, p.count)) in
          let f : length l - (n + 1) ≡ suc (length (map pos wa ++ replicate (length l - (n + 1)) (pos 0))) - (n + 1) = omega (arith, e) in
          ap (λ (m : ℕ). pos k ∷ (map pos wa ++ replicate m (pos 0))) f;
    }

-- ---- a slot taken out

module _ {l : List ℤ} {n i : ℕ} {wa : List ℕ} (p : Stored l n wa) (h : i < n) where
  abbrev A : List ℤ
  A = map pos (others i wa)

  abbrev Z : List ℤ
  Z = replicate (length l - n) (pos 0)

  before : take i l ≡ map pos (take i wa)
  before =
      let f : i ≤ length (map pos wa) = simp length-map (omega (arith, p.count)) in
      ap (take i) p.words ∙ take-append-le i (map pos wa) (replicate (length l - n) (pos 0)) f ∙ take-map pos i wa

  after : take (n - (i + 1)) (drop (i + 1) l) ≡ map pos (drop (i + 1) wa)
  after = sym (drop_take (i + 1) n l) ∙ ap (drop (i + 1)) (front p) ∙ drop-map pos (i + 1) wa

  last : drop (i + (n - (i + 1))) l ≡ get_or l (n - 1) (pos 0) ∷ Z
  last =
      let e : i + (n - (i + 1)) ≡ n - 1 = omega arith in
      let f : suc (n - 1) ≡ n = omega arith in
      rw e (drop-cons l (n - 1) (pos 0) (omega (arith, p.fits)) ∙ rw (f, zeros_after p))

  size : length A ≡ n - 1
  size = simp (length-map, length-append, length-take, length-drop) (omega (arith, p.count))

  moved : set (copy_within l (i + 1) n i) (n - 1) (pos 0) ≡ A ++ (pos 0 ∷ Z)
  moved =
      let parts : copy_within l (i + 1) n i ≡ A ++ (get_or l (n - 1) (pos 0) ∷ Z) = rw (before, after, last, map-append, append_assoc) in
      ap (λ (x : List ℤ). set x (n - 1) (pos 0)) parts ∙ set_at A (get_or l (n - 1) (pos 0)) Z (pos 0) (n - 1) size

  -- the words after it go down, and the last becomes 0
  pub put_others : Stored (set (copy_within l (i + 1) n i) (n - 1) (pos 0)) (n - 1) (others i wa)
  put_others =
      let len : length (A ++ (pos 0 ∷ Z)) ≡ length l = simp (length-append, length-replicate) (omega (arith, size, p.fits)) in
      rw moved
      record {
        count = sym size ∙ length-map (others i wa) pos;
        fits = omega (arith, len, p.fits);
        words = let e : suc (length l - n) ≡ length (A ++ (pos 0 ∷ Z)) - (n - 1) = omega (arith, len, p.fits) in ap (λ (m : ℕ). A ++ replicate m (pos 0)) e;
      }

-- ---- the slot that is next

pub next_taken : (o : Order) (wa : List ℕ) → 0 < length wa → take_by o wa ≡ some (record { slot = get_or wa (next_place o (length wa)) 0; rest = others (next_place o (length wa)) wa })
next_taken Old [] h = absurd (omega arith)
next_taken Old (x ∷ wa) h = refl
next_taken New wa h =
    let n = length wa - 1 in
    let e : suc (length wa - 1) ≡ length wa = omega arith in
    let f : length wa - 1 + 1 ≡ length wa = omega arith in
    let split : wa ≡ take (length wa - 1) wa ++ (get_or wa (length wa - 1) 0 ∷ []) = sym (take_all (suc (length wa - 1)) wa (omega arith)) ∙ take-suc wa (length wa - 1) 0 (omega arith) in
    ap take_last split ∙ take_last_snoc (take n wa) (get_or wa n 0) ∙ rw (f, drop_of_length-le wa {i = length wa} (omega arith), append-nil)

said : (l : List ℤ) (i : ℕ) → get_or (map nat_abs l) i 0 ≡ count l i
said [] i = refl
said (x ∷ l) zero = refl
said (x ∷ l) (suc i) = said l i

-- the same of the words in use
pub next_said : (o : Order) (l : List ℤ) (n : ℕ) → 0 < n → n ≤ length l
    → take_by o (waits n l) ≡ some (record { slot = count l (next_place o n); rest = others (next_place o n) (waits n l) })
next_said o l n h f =
    let e : length (waits n l) ≡ n = simp (length-map, length-take) (omega arith) in
    let g : get_or (take n l) (next_place o n) (pos 0) ≡ get_or l (next_place o n) (pos 0) = get_or-take n l (next_place o n) (pos 0) (below o n h) in
    next_taken o (waits n l) (omega (arith, e)) ∙ rw (e, said (take n l) (next_place o n), g)
  where
    below : (o : Order) (n : ℕ) → 0 < n → next_place o n < n
    below Old n h = h
    below New n h = omega arith

-- ---- where a slot waits

place_of : (k : ℕ) (wa : List ℕ) → position_or_len (eq_z (pos k)) (map pos wa) ≡ position_or_len (eqb k) wa
place_of k [] = refl
place_of k (x ∷ wa) = rw (place_of k wa)

-- by whether the first slot is k
module _ (k x : ℕ) (wa : List ℕ) where
  without_here : k ≡ x → without k (x ∷ wa) ≡ without k wa
  without_here e = rw (eq-eqb k x e)

  without_later : (k ≡ x → ⊥) → without k (x ∷ wa) ≡ x ∷ without k wa
  without_later e = rw (ne_eqb k x e)

absent : (k : ℕ) (wa : List ℕ) → (In k wa → ⊥) → without k wa ≡ wa
absent k [] d = refl
absent k (x ∷ wa) d = without_later k x wa (λ e. d (inl e)) ∙ ap (λ (w : List ℕ). x ∷ w) (absent k wa (λ j. d (inr j)))

others_of : (k : ℕ) (wa : List ℕ) → Distinct wa → (i : ℕ) → position_or_len (eqb k) wa ≡ i → i < length wa → others i wa ≡ without k wa
others_of k [] d i e h = absurd (omega arith)
others_of k (x ∷ wa) d i e h = go (eqb k x) refl i e h (others_of k wa d.1)
  where
    go : (b : Bool) → eqb k x ≡ b → (i : ℕ) → position_or_len (eqb k) (x ∷ wa) ≡ i → i < length (x ∷ wa) → ((j : ℕ) → position_or_len (eqb k) wa ≡ j → j < length wa → others j wa ≡ without k wa) → others i (x ∷ wa) ≡ without k (x ∷ wa)
    go true t i e h ih =
        let z : 0 ≡ i = (rw t at e) in
        let f : k ≡ x = eqb-true k x t in
        rw (← z) (sym (absent k wa (λ j. d.0 (subst (λ (m : ℕ). In m wa) f j))) ∙ sym (without_here k x wa f))
    go false t zero e h ih = absurd (omega (arith, rw t at e))
    go false t (suc i) e h ih =
        let m : suc i + 1 ≡ suc (i + 1) = omega arith in
        rw m (ap (λ (w : List ℕ). x ∷ w) (ih i (omega (arith, rw t at e)) (omega arith)) ∙ sym (without_later k x wa (eqb-false k x t)))

none_of : (k : ℕ) (wa : List ℕ) → length wa ≤ position_or_len (eqb k) wa → without k wa ≡ wa
none_of k [] e = refl
none_of k (x ∷ wa) e = go (eqb k x) refl (none_of k wa)
  where
    go : (b : Bool) → eqb k x ≡ b → (length wa ≤ position_or_len (eqb k) wa → without k wa ≡ wa) → without k (x ∷ wa) ≡ x ∷ wa
    go true t ih = absurd (omega (arith, rw t at e))
    go false t ih = without_later k x wa (eqb-false k x t) ∙ ap (λ (w : List ℕ). x ∷ w) (ih (omega (arith, rw t at e)))

-- what `position` answers in the words in use
module _ {l : List ℤ} {n : ℕ} {wa : List ℕ} (p : Stored l n wa) (d : Distinct wa) (k : ℕ) {r : Option ℕ}
    (e : r ≡ cond (ltb (position_or_len (eq_z (pos k)) (take n l)) (length (take n l))) (Some (position_or_len (eq_z (pos k)) (take n l))) None) where
  place : r ≡ cond (ltb (position_or_len (eqb k) wa) (length wa)) (Some (position_or_len (eqb k) wa)) None
  place = e ∙ rw (front p, place_of k wa, length-map)

  pub without_at : {i : ℕ} → r ≡ Some i → others i wa ≡ without k wa
  without_at {i} h = go (ltb (position_or_len (eqb k) wa) (length wa)) refl
    where
      go : (b : Bool) → ltb (position_or_len (eqb k) wa) (length wa) ≡ b → others i wa ≡ without k wa
      go true t =
          let f : Some i ≡ Some (position_or_len (eqb k) wa) = sym h ∙ place ∙ rw t in
          let q : position_or_len (eqb k) wa ≡ i = cc in
          others_of k wa d i q (omega (arith, ltb-true _ _ t, q))
      go false t = let f : Some i ≡ None = sym h ∙ place ∙ rw t in absurd cc

  pub without_none : r ≡ None → without k wa ≡ wa
  without_none h = go (ltb (position_or_len (eqb k) wa) (length wa)) refl
    where
      go : (b : Bool) → ltb (position_or_len (eqb k) wa) (length wa) ≡ b → without k wa ≡ wa
      go true t = let f : None ≡ Some (position_or_len (eqb k) wa) = sym h ∙ place ∙ rw t in absurd cc
      go false t = none_of k wa (ltb-false _ _ t)
