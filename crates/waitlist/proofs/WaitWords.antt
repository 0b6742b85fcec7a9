-- Laws of the waitlist's words: what they hold, a word more, and room for a slot that does not wait. Assumes nothing.
use Rattle.semantics.proofs.Prelude.{◌≡◌, refl, sym, ap, subst, ◌∙◌, inl, inr, Bool, true, false, List, [], ◌∷◌, ◌++◌, map, ℕ, suc, ◌+◌, ◌-◌, ◌<◌, arith, eqb, ℤ, pos, nat_abs, length, take, drop, set, replicate, length-map, length-append, length-set, take_at, drop_at, set_at, append_snoc, map-append}
use Rattle.semantics.specs.declared.Order.TheVariants.{Old}
use Rattle.semantics.specs.Chart.{eq_z}
use Rattle.semantics.specs.Lists.{In, some_of}
use Rattle.semantics.specs.Algorithm.{without}
use Rattle.semantics.specs.Tidy.{Queue}
use Rattle.semantics.proofs.Tidy.{some_not, queue_few, back_queue}
use Rattle.semantics.proofs.MemoryOf.{map_back}
use Rattle.waitlist.specs.Waits.{waits, Stored}

module _ {l : List ℤ} {n : ℕ} {wa : List ℕ} (p : Stored l n wa) where
  count_words : length (map pos wa) ≡ n
  count_words = length-map wa pos ∙ sym p.count

  pub front : take n l ≡ map pos wa
  front = ap (λ (x : List ℤ). take n x) p.words ∙ take_at (map pos wa) (replicate (length l - n) (pos 0)) n count_words

  pub zeros_after : drop n l ≡ replicate (length l - n) (pos 0)
  zeros_after = ap (drop n) p.words ∙ drop_at (map pos wa) (replicate (length l - n) (pos 0)) n count_words

  -- the slots that are stored are those that are read
  pub waits_are : waits n l ≡ wa
  waits_are = ap (map nat_abs) front ∙ map_back wa

  pub kept : Stored l n (waits n l)
  kept = subst (λ (x : List ℕ). Stored l n x) (sym waits_are) p

  -- the next word is written
  pub put_last : (k : ℕ) → n < length l → Stored (set l n (pos k)) (n + 1) (wa ++ (k ∷ []))
  put_last k h = record { count = rw (length-append, ← p.count); fits = omega (arith, len); words = words }
    where
      len : length (set l n (pos k)) ≡ length l
      len = simp length-set

      split : l ≡ map pos wa ++ pos 0 ∷ replicate (length l - (n + 1)) (pos 0)
      split = let e : length l - n ≡ suc (length l - (n + 1)) = omega arith in p.words ∙ rw e

      words : set l n (pos k) ≡ map pos (wa ++ (k ∷ [])) ++ replicate (length (set l n (pos k)) - (n + 1)) (pos 0)
      words =
          ap (λ (x : List ℤ). set x n (pos k)) split ∙ set_at (map pos wa) (pos 0) (replicate (length l - (n + 1)) (pos 0)) (pos k) n count_words
          ∙ rw (len, map-append, append_snoc)

-- ---- the test

pub any_some : (k : ℕ) (wa : List ℕ) → some_of (eq_z (pos k)) (map pos wa) ≡ some_of (eqb k) wa
any_some k [] = refl
any_some k (x ∷ wa) = ap (λ (t : Bool). elim (eqb k x) [ true ↦ true | false ↦ t ]) (any_some k wa)

-- ---- room

-- a slot that does not wait finds a place
pub queue_room : (n k : ℕ) (w : List ℕ) → Queue n w → k < n → some_of (eqb k) w ≡ false → length w < n
queue_room n k w q h e = queue_few n (k ∷ w) (record { once = (some_not k w e, q.once); used = used })
  where
    used : (j : ℕ) → In j (k ∷ w) → j < n
    used j (inl p) = subst (λ (m : ℕ). m < n) (sym p) h
    used j (inr i) = q.used j i

-- and so does one that was taken out
pub back_room : (n k : ℕ) (w : List ℕ) → Queue n w → k < n → length (without k w) < n
back_room n k w q h = queue_few n (k ∷ without k w) (back_queue n Old k w h q)
