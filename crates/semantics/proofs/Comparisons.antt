-- Comparisons go by the ends of the values that satisfy them, and so count these values as document 02 says. Assumes nothing.
use Rattle.semantics.proofs.Prelude.{◌≡◌, refl, sym, ap, ◌∙◌, subst, Bool, true, false, List, [], ◌∷◌, some, ℕ, zero, suc, T, get_or, set, ℤ, pos, le_z}
use Rattle.semantics.specs.declared.Span.{Span}
use Rattle.semantics.specs.Lists.{get, pick}
use Rattle.semantics.specs.Chart.{Value, known, top, Var, var, Rel, eq_z, holds}
use Rattle.semantics.specs.Algorithm.{Step, blocked, fault, to}
use Rattle.semantics.specs.Constants.{one_of, turned, satisfying, refine}
use Rattle.semantics.specs.Exact.{Satisfies, Counts, ComparesExactly}
use Rattle.semantics.proofs.AtAndIn.{clash}
use Rattle.semantics.proofs.Bools.{from_true, from_false, and_left, and_right, both_true}
use Rattle.semantics.proofs.Integers.{eq_z_refl, eq_z_same, le_z_antisym, le_z_trans}
use Rattle.semantics.proofs.SpanNumbers.{Among, satisfying_has, satisfying_ends, holds_turned}
use Rattle.semantics.proofs.Covering.{blocked_to}

-- the value of variable k after a step that has one
abbrev value_after : ℕ → Step (List Value) → Value
value_after k blocked = top
value_after k fault = top
value_after k (to us) = get_or us k (known (pos 0))

known_top : (z : ℤ) → known z ≡ top → ⊥
known_top z e = clash cc

known_same : (x y : ℤ) → known x ≡ known y → x ≡ y
known_same x y e = cc

-- where variable k is at top, and so one of vs: what is set there is found there, and top changes nothing
set_get : (vs : List Value) (k : ℕ) (v : Value) → get_or vs k (known (pos 0)) ≡ top → get_or (set vs k v) k (known (pos 0)) ≡ v
set_get [] k v e = absurd (known_top (pos 0) e)
set_get (w ∷ ws) zero v e = refl
set_get (w ∷ ws) (suc k) v e = set_get ws k v e

set_top : (vs : List Value) (k : ℕ) → get_or vs k (known (pos 0)) ≡ top → set vs k top ≡ vs
set_top [] k e = refl
set_top (w ∷ ws) zero e = ap (λ (v : Value). v ∷ ws) (sym e)
set_top (w ∷ ws) (suc k) e = ap (λ (us : List Value). w ∷ us) (set_top ws k e)

module _ (v : Var) (g : Rel) (z : ℤ) (p : ℤ → Bool) (same : (x : ℤ) → holds g x z ≡ p x) (k : ℕ) (vs : List Value) (unspecific : get_or vs k (known (pos 0)) ≡ top) where
  abbrev range : Span
  range = record { low = v.lo; high = v.hi }

  abbrev s : Span
  s = satisfying g z range

  abbrev Left : ℤ → Type 0
  Left = Satisfies v p

  -- what satisfies it lies between the ends, and these satisfy it where there are any
  among : (x : ℤ) → Left x → Among s x
  among x h = satisfying_has g z range x (and_left (le_z v.lo x) (le_z x v.hi) h.0, and_right (le_z v.lo x) (le_z x v.hi) h.0) (subst T (sym (same x)) h.1)

  ends : T (le_z s.low s.high) → Left s.low × Left s.high
  ends t =
      let e = satisfying_ends g z range t in
      let left : (x : ℤ) → Among range x × T (holds g x z) → Left x = λ x h. (both_true (le_z v.lo x) (le_z x v.hi) h.0.0 h.0.1, subst T (same x) h.1) in
      (left s.low e.0, left s.high e.1)

  alone : (x y : ℤ) → s.low ≡ s.high → Left x → Left y → x ≡ y
  alone x y e h i =
      let a = among x h in
      let b = among y i in
      let low : (w : ℤ) → Among s w → w ≡ s.low = λ w m. le_z_antisym w s.low (subst (λ (u : ℤ). T (le_z w u)) (sym e) m.1) m.0 in
      low x a ∙ sym (low y b)

  counts : (vars : List Var) → get vars k ≡ some v → Counts v p k vs (refine vars g (var k) z vs)
  counts vars e = rw e (by_order (le_z s.low s.high) refl)
    where
      none_left : le_z s.low s.high ≡ false → (x : ℤ) → Left x → ⊥
      none_left e x h = let a = among x h in from_false e (le_z_trans s.low x s.high a.0 a.1)

      -- one value, or two, which are the ends
      by_ends : T (le_z s.low s.high) → (b : Bool) → eq_z s.low s.high ≡ b → Counts v p k vs (to (set vs k (pick b (known s.low) top)))
      by_ends t true e =
          let only : s.low ≡ s.high = eq_z_same s.low s.high (from_true e) in
          let it : Left s.low = (ends t).0 in
          record {
            none = (λ q. absurd (blocked_to q refl), λ h. absurd (h s.low it));
            one = λ x. (
              λ q.
                  let found : s.low ≡ x = known_same s.low x (sym (set_get vs k (known s.low) unspecific) ∙ ap (value_after k) q ∙ set_get vs k (known x) unspecific) in
                  (subst Left found it, λ y h. sym found ∙ alone s.low y only it h),
              λ h. ap (λ (y : ℤ). to (set vs k (known y))) (sym (h.1 s.low it)),
            );
            more = (λ q. absurd (known_top s.low (sym (set_get vs k (known s.low) unspecific) ∙ ap (value_after k) q ∙ unspecific)), λ h. absurd (h.4 (alone h.0 h.1 only h.2 h.3)));
          }
      by_ends t false e =
          let two : s.low ≡ s.high → ⊥ = λ q. from_false e (subst (λ (y : ℤ). T (eq_z s.low y)) q (eq_z_refl s.low)) in
          record {
            none = (λ q. absurd (blocked_to q refl), λ h. absurd (h s.low (ends t).0));
            one = λ x. (
              λ q. absurd (known_top x (sym (set_get vs k (known x) unspecific) ∙ sym (ap (value_after k) q) ∙ set_get vs k top unspecific)),
              λ h. absurd (two (sym (h.1 s.low (ends t).0) ∙ h.1 s.high (ends t).1)),
            );
            more = (λ q. (s.low, s.high, (ends t).0, (ends t).1, two), λ h. ap to (set_top vs k unspecific));
          }

      -- some, or none
      by_order : (b : Bool) → le_z s.low s.high ≡ b → Counts v p k vs (pick b (to (set vs k (one_of s.low s.high))) blocked)
      by_order true e = by_ends (from_true e) (eq_z s.low s.high) refl
      by_order false e = record {
        none = (λ q. none_left e, λ h. refl);
        one = λ x. (λ q. absurd (blocked_to refl q), λ h. absurd (none_left e x h.0));
        more = (λ q. absurd (blocked_to refl q), λ h. absurd (none_left e h.0 h.2));
      }

pub compares_exactly : ComparesExactly
compares_exactly = record {
  left = λ vars r k v a vs z here u e. rw (u, e) (counts v r z (λ x. holds r x z) (λ x. refl) k vs u vars here);
  right = λ vars r j k v vs z here e u. rw (e, u) (counts v (turned r) z (λ x. holds r z x) (λ x. holds_turned r z x) k vs u vars here);
  decided = λ vars r k a vs x z p q. rw (p, q);
  passes = λ vars r k a vs p q. rw (p, q);
}
