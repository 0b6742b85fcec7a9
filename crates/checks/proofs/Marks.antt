-- The waitlist judged by marks of the slots that are named: the list passes after the marks, word for word. Assumes nothing.
use Rattle.semantics.proofs.Prelude.{◌≡◌, refl, ap, sym, ◌∙◌, Bool, true, false, ◌&&◌, not, and_assoc, and-false, and-true, List, [], ◌∷◌, ℕ, zero, suc, ◌+◌, ◌<◌, add-one, eqb, eqb-true, eqb-false, ltb-true, ℤ, pos, negsuc, nat_abs, length, drop, drop-cons, get_or, set, replicate, get_or-set_same, get_or-set_other}
use Rattle.semantics.specs.Lists.{some_of, all}
use Rattle.semantics.specs.Chart.{eq_z}
use Rattle.semantics.specs.Encoding.{word_at}
use Rattle.semantics.specs.Memory.{below, each_once}
use Rattle.semantics.proofs.Bools.{from_true}
use Rattle.chart.proofs.Rows.{interchange}

-- in use, and not marked
abbrev pub fresh : ℕ → List Bool → ℤ → Bool
fresh n ms x = below n x && not (get_or ms (nat_abs x) false)

-- what is left of the list passes, where the slots named before are marked
abbrev pub passes : ℕ → List Bool → List ℤ → Bool
passes n ms l = all (fresh n ms) l && each_once l

-- before the first word no slot is marked
pub none_marked : (n m : ℕ) (l : List ℤ) → passes n (replicate m false) l ≡ (all (below n) l && each_once l)
none_marked n m l = ap (λ (b : Bool). b && each_once l) (same l) where
  no_mark : (m j : ℕ) → get_or (replicate m false) j false ≡ false
  no_mark zero j = refl
  no_mark (suc m) zero = refl
  no_mark (suc m) (suc j) = no_mark m j

  same : (l : List ℤ) → all (fresh n (replicate m false)) l ≡ all (below n) l
  same [] = refl
  same (x ∷ l) = rw (no_mark m (nat_abs x), and-true (below n x), same l)

module _ (n : ℕ) (ms : List Bool) where
  -- a slot is marked: it is fresh no more, and all others are as before
  module _ (k : ℕ) (h : k < length ms) where
    one_marked : (y : ℤ) → fresh n ms y && not (eq_z (pos k) y) ≡ fresh n (set ms k true) y
    one_marked (negsuc j) = refl
    one_marked (pos j) = go (eqb k j) refl where
      go : (b : Bool) → eqb k j ≡ b → fresh n ms (pos j) && not (eqb k j) ≡ fresh n (set ms k true) (pos j)
      go true e =
          let q : get_or (set ms k true) j false ≡ true = ap (λ (i : ℕ). get_or (set ms k true) i false) (sym (eqb-true k j e)) ∙ get_or-set_same ms k true false h in
          rw (e, q) (simp and-false)
      go false e = rw (e, get_or-set_other ms k j true false (λ q. eqb-false k j e (sym q))) (and-true (fresh n ms (pos j)))

    all_marked : (l : List ℤ) → all (fresh n ms) l && not (some_of (eq_z (pos k)) l) ≡ all (fresh n (set ms k true)) l
    all_marked [] = refl
    all_marked (y ∷ l) =
        ap (λ (b : Bool). (fresh n ms y && all (fresh n ms) l) && b) (neither (eq_z (pos k) y) (some_of (eq_z (pos k)) l))
        ∙ interchange (fresh n ms y) (all (fresh n ms) l) (not (eq_z (pos k) y)) (not (some_of (eq_z (pos k)) l))
        ∙ (λ j. one_marked y j && all_marked l j)
      where
        neither : (a b : Bool) → not (elim a [ true ↦ true | false ↦ b ]) ≡ not a && not b
        neither true b = refl
        neither false b = refl

  module _ (l : List ℤ) (i : ℕ) (h : i < length l) where
    -- a word that is not fresh: the list does not pass
    pub refused : fresh n ms (word_at l i) ≡ false → passes n ms (drop i l) ≡ false
    refused e = rw (drop-cons l i (pos 0) h, e)

    -- one that is fresh says slot k, which is marked
    pub marks_turn : (k : ℕ) → word_at l i ≡ pos k → k < length ms → fresh n ms (word_at l i) ≡ true → passes n ms (drop i l) ≡ passes n (set ms k true) (drop (i + 1) l)
    marks_turn k w m e =
        let xs = drop (suc i) l in
        rw (add-one i, drop-cons l i (pos 0) h, e, w)
        (sym (and_assoc (all (fresh n ms) xs) (not (some_of (eq_z (pos k)) xs)) (each_once xs)) ∙ ap (λ (b : Bool). b && each_once xs) (all_marked k m xs))

-- what a word says that is in use
pub says_slot : (n : ℕ) (z : ℤ) → below n z ≡ true → (z ≡ pos (nat_abs z)) × (nat_abs z < n)
says_slot n (pos k) e = (refl, ltb-true k n e)
says_slot n (negsuc k) e = absurd (from_true e)
