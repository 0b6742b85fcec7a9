-- The numbers of a span: of a sum and a difference of spans, and those that a comparison leaves. Assumes nothing.
use Rattle.semantics.proofs.Prelude.{◌≡◌, refl, sym, ap, ◌∙◌, subst, ◌⊎◌, inl, inr, Bool, true, false, not, T, not_T, ℤ, pos, ◌+ℤ◌, ◌-ℤ◌, le_z, lt_z}
use Rattle.semantics.specs.declared.Span.{Span}
use Rattle.semantics.specs.Lists.{pick}
use Rattle.semantics.specs.Chart.{Rel, eq, ne, lt, le, gt, ge, eq_z, holds}
use Rattle.semantics.specs.Constants.{only, sums, differences, turned, at_least, at_most, other_than, satisfying}
use Rattle.semantics.proofs.Bools.{from_true, from_false, not_both}
use Rattle.semantics.proofs.Integers.{eq_z_refl, eq_z_same, eq_z_sym, le_z_refl, le_z_antisym, le_z_trans, lt_le, not_lt, lt_of, lt_apart, lt_suc, lt_pred, add_mono, sub_mono}

-- x is a number of the span
abbrev pub Among : Span → ℤ → Type 0
Among r x = T (le_z r.low x) × T (le_z x r.high)

pub among_only : (z x : ℤ) → z ≡ x → Among (only z) x
among_only z x e = subst (Among (only z)) e (le_z_refl z, le_z_refl z)

pub among_sums : (a b : Span) (x y : ℤ) → Among a x → Among b y → Among (sums a b) (x +ℤ y)
among_sums a b x y h k = (add_mono a.low x b.low y h.0 k.0, add_mono x a.high y b.high h.1 k.1)

pub among_differences : (a b : Span) (x y : ℤ) → Among a x → Among b y → Among (differences a b) (x -ℤ y)
among_differences a b x y h k = (sub_mono a.low x y b.high h.0 k.1, sub_mono x a.high b.low y h.1 k.0)

-- ---- what a comparison leaves

-- the numbers from z on are those that are no less than z
at_least_has : (z : ℤ) (r : Span) (x : ℤ) → Among r x → T (le_z z x) → Among (at_least z r) x
at_least_has z r x h l = go (lt_z r.low z)
  where
    go : (b : Bool) → Among (pick b (record { low = z; high = r.high }) r) x
    go true = (l, h.1)
    go false = h

at_least_only : (z : ℤ) (r : Span) (x : ℤ) → Among (at_least z r) x → Among r x × T (le_z z x)
at_least_only z r x h = go (lt_z r.low z) refl h
  where
    go : (b : Bool) → lt_z r.low z ≡ b → Among (pick b (record { low = z; high = r.high }) r) x → Among r x × T (le_z z x)
    go true e h = ((le_z_trans r.low z x (lt_le r.low z (from_true e)) h.0, h.1), h.0)
    go false e h = (h, le_z_trans z r.low x (not_lt r.low z e) h.0)

-- and those up to z are no more
at_most_has : (z : ℤ) (r : Span) (x : ℤ) → Among r x → T (le_z x z) → Among (at_most z r) x
at_most_has z r x h l = go (lt_z z r.high)
  where
    go : (b : Bool) → Among (pick b (record { low = r.low; high = z }) r) x
    go true = (h.0, l)
    go false = h

at_most_only : (z : ℤ) (r : Span) (x : ℤ) → Among (at_most z r) x → Among r x × T (le_z x z)
at_most_only z r x h = go (lt_z z r.high) refl h
  where
    go : (b : Bool) → lt_z z r.high ≡ b → Among (pick b (record { low = r.low; high = z }) r) x → Among r x × T (le_z x z)
    go true e h = ((h.0, le_z_trans x z r.high h.1 (lt_le z r.high (from_true e))), h.1)
    go false e h = (h, le_z_trans x r.high z h.1 (not_lt z r.high e))

-- x is an end of the span
abbrev End : Span → ℤ → Type 0
End r x = (x ≡ r.low) ⊎ (x ≡ r.high)

apart : (x z : ℤ) → (x ≡ z → ⊥) → T (not (eq_z x z))
apart x z h = not_T (eq_z x z) (λ t. h (eq_z_same x z t))

-- but for z itself, by the tests of the two ends: all others are left, and the ends are two of them
abbrev by_tests : ℤ → Span → Bool → Bool → Span
by_tests z r p q = pick p (at_least (z +ℤ pos 1) r) (pick q (at_most (z -ℤ pos 1) r) r)

other_has : (z : ℤ) (r : Span) (x : ℤ) → Among r x → (x ≡ z → ⊥) → Among (other_than z r) x
other_has z r x h d = go (eq_z r.low z) refl (eq_z r.high z) refl
  where
    go : (p : Bool) → eq_z r.low z ≡ p → (q : Bool) → eq_z r.high z ≡ q → Among (by_tests z r p q) x
    go true e q f = at_least_has (z +ℤ pos 1) r x h (subst T (lt_suc z x) (lt_of z x (subst (λ (y : ℤ). T (le_z y x)) (eq_z_same r.low z (from_true e)) h.0) d))
    go false e true f = at_most_has (z -ℤ pos 1) r x h (subst T (lt_pred x z) (lt_of x z (subst (λ (y : ℤ). T (le_z x y)) (eq_z_same r.high z (from_true f)) h.1) (λ k. d (sym k))))
    go false e false f = h

other_end : (z : ℤ) (r : Span) (x : ℤ) → Among (other_than z r) x → End (other_than z r) x → Among r x × (x ≡ z → ⊥)
other_end z r x h d = go (eq_z r.low z) refl (eq_z r.high z) refl h d
  where
    is_not : (y : ℤ) → eq_z y z ≡ false → x ≡ y → x ≡ z → ⊥
    is_not y e p q = from_false e (subst (λ (w : ℤ). T (eq_z y w)) (sym p ∙ q) (eq_z_refl y))

    go : (p : Bool) → eq_z r.low z ≡ p → (q : Bool) → eq_z r.high z ≡ q → Among (by_tests z r p q) x → End (by_tests z r p q) x → Among r x × (x ≡ z → ⊥)
    go true e q f h d = let u = at_least_only (z +ℤ pos 1) r x h in (u.0, λ k. lt_apart z x (subst T (sym (lt_suc z x)) u.1) (sym k))
    go false e true f h d = let u = at_most_only (z -ℤ pos 1) r x h in (u.0, lt_apart x z (subst T (sym (lt_pred x z)) u.1))
    go false e false f h d = (h, elim d [ inl p ↦ is_not r.low e p | inr p ↦ is_not r.high f p ])

-- a number of r that satisfies the relation is left
pub satisfying_has : (g : Rel) (z : ℤ) (r : Span) (x : ℤ) → Among r x → T (holds g x z) → Among (satisfying g z r) x
satisfying_has eq z r x h t =
    let e : x ≡ z = eq_z_same x z t in
    at_least_has z (at_most z r) x (at_most_has z r x h (subst (λ (y : ℤ). T (le_z x y)) e (le_z_refl x))) (subst (λ (y : ℤ). T (le_z y x)) e (le_z_refl x))
satisfying_has ne z r x h t = other_has z r x h (λ e. not_both (eq_z x z) (subst (λ (y : ℤ). T (eq_z x y)) e (eq_z_refl x)) t)
satisfying_has lt z r x h t = at_most_has (z -ℤ pos 1) r x h (subst T (lt_pred x z) t)
satisfying_has le z r x h t = at_most_has z r x h t
satisfying_has gt z r x h t = at_least_has (z +ℤ pos 1) r x h (subst T (lt_suc z x) t)
satisfying_has ge z r x h t = at_least_has z r x h t

-- the ends of what is left satisfy it
satisfying_end : (g : Rel) (z : ℤ) (r : Span) (x : ℤ) → Among (satisfying g z r) x → End (satisfying g z r) x → Among r x × T (holds g x z)
satisfying_end eq z r x h d =
    let u = at_least_only z (at_most z r) x h in
    let w = at_most_only z r x u.0 in
    (w.0, subst (λ (y : ℤ). T (eq_z x y)) (le_z_antisym x z w.1 u.1) (eq_z_refl x))
satisfying_end ne z r x h d = let u = other_end z r x h d in (u.0, apart x z u.1)
satisfying_end lt z r x h d = let u = at_most_only (z -ℤ pos 1) r x h in (u.0, subst T (sym (lt_pred x z)) u.1)
satisfying_end le z r x h d = at_most_only z r x h
satisfying_end gt z r x h d = let u = at_least_only (z +ℤ pos 1) r x h in (u.0, subst T (sym (lt_suc z x)) u.1)
satisfying_end ge z r x h d = at_least_only z r x h

pub satisfying_ends : (g : Rel) (z : ℤ) (r : Span) → let s = satisfying g z r in T (le_z s.low s.high) → (Among r s.low × T (holds g s.low z)) × (Among r s.high × T (holds g s.high z))
satisfying_ends g z r t =
    let s = satisfying g z r in
    (satisfying_end g z r s.low (le_z_refl s.low, t) (inl refl), satisfying_end g z r s.high (t, le_z_refl s.high) (inr refl))

-- the sides changed over, the relation turned
pub holds_turned : (g : Rel) (x y : ℤ) → holds (turned g) y x ≡ holds g x y
holds_turned eq x y = eq_z_sym y x
holds_turned ne x y = ap not (eq_z_sym y x)
holds_turned lt x y = refl
holds_turned le x y = refl
holds_turned gt x y = refl
holds_turned ge x y = refl
