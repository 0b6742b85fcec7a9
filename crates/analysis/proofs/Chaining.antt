-- The chains of no edge, and one more edge at the head of its chain. Assumes nothing.
use Rattle.semantics.proofs.Prelude.{◌≡◌, refl, sym, ap, ◌∙◌, Bool, true, false, List, ℕ, ◌+◌, ◌-◌, ◌≤◌, arith, eqb-true, eqb-false, eqb, ℤ, get_or, set, replicate, get_or-set_other}
use Rattle.words.proofs.LentNumbers.{replicate_most, set_most}
use Rattle.analysis.specs.Chains.{from_at, Passed, Chained}

module _ (c : List ℤ) where
  pub unchained : (edges n m : ℕ) → Chained c edges (replicate n (edges + 1)) (replicate m 0)
  unchained edges n m = record {
    head = λ l j a b e. omega (arith, replicate_most n l (edges + 1));
    next = λ h j a b e. omega (arith, replicate_most m h 0);
  }

  module _ (g l : ℕ) (heads nexts : List ℕ) (from : l ≡ from_at c g) (s : Chained c (g + 1) heads nexts) where
    pub linked : Chained c g (set heads l (g + 1)) (set nexts g (get_or heads l 0))
    linked = record { head = λ k. head k (eqb k l) refl; next = λ h. next h (eqb h g) refl }
      where
        head : (k : ℕ) (b : Bool) → eqb k l ≡ b → Passed c k g (get_or (set heads l (g + 1)) k 0 - 1)
        head k true q j lo hi e =
            let same = eqb-true k l q in
            let most : get_or (set heads l (g + 1)) k 0 ≤ g + 1 = rw same (set_most heads l (g + 1)) in
            omega arith
        head k false q j lo hi e = go (eqb j g) refl
          where
            go : (b : Bool) → eqb j g ≡ b → ⊥
            go true r = eqb-false k l q (sym e ∙ ap (from_at c) (eqb-true j g r) ∙ sym from)
            go false r = s.head k j (omega (arith, eqb-false j g r)) (rw (get_or-set_other heads l k (g + 1) 0 (eqb-false k l q)) at hi) e

        next : (h : ℕ) (b : Bool) → eqb h g ≡ b → Passed c (from_at c h) (h + 1) (get_or (set nexts g (get_or heads l 0)) h 0 - 1)
        next h true q j lo hi e =
            let same = eqb-true h g q in
            let most : get_or (set nexts g (get_or heads l 0)) h 0 ≤ get_or heads l 0 = rw same (set_most nexts g (get_or heads l 0)) in
            s.head l j (omega arith) (omega arith) (e ∙ ap (from_at c) same ∙ sym from)
        next h false q j lo hi e = s.next h j lo (rw (get_or-set_other nexts g h (get_or heads l 0) 0 (eqb-false h g q)) at hi) e
