-- The way to a slot, followed back from parent to parent, and the slots of a table that it names. Assumes nothing.
use Rattle.semantics.proofs.Prelude.{◌≡◌, refl, sym, ap, ◌∙◌, List, [], ◌∷◌, ◌++◌, map, append_snoc, some, ℕ, zero, suc, ◌+◌, ◌-◌, ◌*◌, ◌≤◌, ◌<◌, zero-add, suc-mul, add-one, arith, T, eqb-suc-zero, ltb→lt, ℤ, nat_abs, length, take, drop, get_or, set, drop-drop, drop-cons, drop-set-lt}
use Rattle.semantics.specs.Lists.{get}
use Rattle.semantics.specs.Chart.{Chart}
use Rattle.semantics.specs.declared.Verdict.{Verdict}
use Rattle.semantics.specs.declared.Verdict.TheVariants.{Open, Safe, Alarm, Full}
use Rattle.semantics.specs.Algorithm.{Origin}
use Rattle.semantics.specs.Memory.{Memory, state_in, states_in, origin_in, origins_in, locations, origins_ok, is_alarm, empty_if_safe}
use Rattle.semantics.specs.Encoding.{decode}
use Rattle.semantics.specs.Path.{parent_of, edge_of, way_to}
use Rattle.semantics.specs.Tidy.{Every}
use Rattle.semantics.proofs.Bools.{and_left}
use Rattle.semantics.proofs.Tidy.{every_snoc}
use Rattle.semantics.proofs.PathHolds.{origin_at}
use Rattle.semantics.proofs.MemoryInForm.{form, origins_count}
use Rattle.semantics.proofs.PathShort.{taken_waited, below_in}
use Rattle.state.specs.declared.Layout.{Layout}
use Rattle.state.specs.Rows.{row_of, tail_of, origins_of}
use Rattle.state.proofs.Layouts.{LayoutOf, origins_say}
use Rattle.waitlist.specs.Waits.{NextBy}
use Rattle.checks.specs.Form.{InForm}

-- ---- the slots of a table by their number

drop_next : (d s : ℕ) (t : List ℤ) → drop (s * d) (drop d t) ≡ drop (suc s * d) t
drop_next d s t = let e : d + s * d ≡ suc s * d = omega (arith, suc-mul s d) in drop-drop (s * d) d t ∙ ap (λ (n : ℕ). drop n t) e

-- the origin of slot s
origin_get : (y : Layout) (n s : ℕ) (t : List ℤ) → s < n → get (origins_of y n t) s ≡ some (origin_in (tail_of y s t))
origin_get y zero s t h = absurd (omega arith)
origin_get y (suc n) zero t h = let z : 0 * y.stride ≡ 0 = omega arith in rw z
origin_get y (suc n) (suc s) t h = rw (← drop_next y.stride s t) (origin_get y n s (drop y.stride t) (omega arith))

-- what it says
module _ (y : Layout) (n s : ℕ) (t : List ℤ) (h : s < n) where
  pub parent_get : parent_of (origins_of y n t) s ≡ (origin_in (tail_of y s t)).parent
  parent_get = rw (origin_get y n s t h)

  pub edge_get : edge_of (origins_of y n t) s ≡ (origin_in (tail_of y s t)).edge
  edge_get = rw (origin_get y n s t h)

-- the state of slot s
pub state_get : (c : Chart) (y : Layout) → LayoutOf c y → (n s : ℕ) (t : List ℤ) → s < n → get (states_in c n t) s ≡ some (state_in (row_of y s t))
state_get c y o zero s t h = absurd (omega arith)
state_get c y o (suc n) zero t h = let z : 0 * y.stride ≡ 0 = omega arith in rw (z, o.wide)
state_get c y o (suc n) (suc s) t h = rw (← drop_next y.stride s t, ← o.stride) (state_get c y o n s (drop y.stride t) (omega arith))

-- ---- the way where parents fall

-- a property of each slot of a way holds of the one at place i
pub every_at : (P : ℕ → Type 0) (ks : List ℕ) (i : ℕ) → Every P ks → i < length ks → P (get_or ks i 0)
every_at P [] i h l = absurd (omega arith)
every_at P (k ∷ ks) zero h l = h.0
every_at P (k ∷ ks) (suc i) h l = every_at P ks i h.1 (omega arith)

-- each of the first n slots but slot 0 has a parent below it
abbrev pub Falls : List Origin → ℕ → Type 0
Falls os n = (s : ℕ) → 0 < s → s < n → parent_of os s < s

-- rule 21 asks it of the origins
pub parents_fall : (c : Chart) (ls : List ℕ) (os : List Origin) → T (origins_ok c ls 0 os) → Falls os (length os)
parents_fall c ls os t zero p h = absurd (omega arith)
parents_fall c ls os t (suc s) p h =
    let (o, e, u) = origin_at c ls os 0 (suc s) t h in
    let v = rw (zero-add (suc s)) at u in
    rw e (ltb→lt o.parent (suc s) (search and_left))

module _ (os : List Origin) (n : ℕ) (falls : Falls os n) where
  -- as many parents as the slot's number are enough
  way_enough : (a b s : ℕ) → s ≤ a → s ≤ b → s < n → way_to os a s ≡ way_to os b s
  way_enough zero zero s p q h = refl
  way_enough zero (suc b) zero p q h = refl
  way_enough zero (suc b) (suc s) p q h = absurd (omega arith)
  way_enough (suc a) zero zero p q h = refl
  way_enough (suc a) zero (suc s) p q h = absurd (omega arith)
  way_enough (suc a) (suc b) zero p q h = refl
  way_enough (suc a) (suc b) (suc s) p q h =
      let f = falls (suc s) (omega arith) h in
      rw (eqb-suc-zero s) (ap (λ (l : List ℕ). l ++ (suc s ∷ [])) (way_enough a b (parent_of os (suc s)) (omega (arith, f)) (omega (arith, f)) (omega (arith, f))))

  -- the way to a slot that is not the first is that to its parent, and the slot
  way_parent : (s : ℕ) → (s ≡ 0 → ⊥) → s < n → way_to os s s ≡ way_to os (parent_of os s) (parent_of os s) ++ (s ∷ [])
  way_parent zero z h = absurd (z refl)
  way_parent (suc s) z h =
      let f = falls (suc s) (omega arith) h in
      rw (eqb-suc-zero s) (ap (λ (l : List ℕ). l ++ (suc s ∷ [])) (way_enough s (parent_of os (suc s)) (parent_of os (suc s)) (omega (arith, f)) (omega arith) (omega (arith, f))))

  -- no slot of the way is above the one that it leads to
  pub way_below : (a s : ℕ) → s < n → Every (λ k. k < n) (way_to os a s)
  way_below zero s h = (h, tt)
  way_below (suc a) zero h = (h, tt)
  way_below (suc a) (suc s) h =
      let f = falls (suc s) (omega arith) h in
      rw (eqb-suc-zero s) (every_snoc (λ k. k < n) (way_to os a (parent_of os (suc s))) (suc s) (way_below a (parent_of os (suc s)) (omega (arith, f))) h)

  -- ---- the way written from its end: slot s stands at the place `at`, and those after it follow
  module _ (whole way : List ℕ) (at s : ℕ) (inside : at < length way) (here : get_or way at 0 ≡ s) (left : whole ≡ way_to os s s ++ drop (at + 1) way) where
    from_here : drop at way ≡ s ∷ drop (at + 1) way
    from_here = rw add-one (drop-cons way at 0 inside ∙ ap (λ (k : ℕ). k ∷ drop (suc at) way) here)

    -- its parent is written before it
    pub traced_turn : (s ≡ 0 → ⊥) → s < n → 1 ≤ at → (p : ℕ) → p ≡ parent_of os s → whole ≡ way_to os p p ++ drop (at - 1 + 1) (set way (at - 1) p)
    traced_turn z h l p e =
        let back : at - 1 + 1 ≡ at = omega arith in
        let after : drop (at - 1 + 1) (set way (at - 1) p) ≡ s ∷ drop (at + 1) way = ap (λ (k : ℕ). drop k (set way (at - 1) p)) back ∙ drop-set-lt at way (at - 1) p (omega arith) ∙ from_here in
        left
        ∙ ap (λ (l : List ℕ). l ++ drop (at + 1) way) (way_parent s z h)
        ∙ append_snoc (way_to os (parent_of os s) (parent_of os s)) s (drop (at + 1) way)
        ∙ (λ i. way_to os (sym e i) (sym e i) ++ sym after i)

-- ---- what the path of an analysis in form may rely on

-- an alarm has a slot that waits
pub some_waits : (v : Verdict) (n : ℕ) → T (is_alarm v) → T (empty_if_safe v n) → 0 < n
some_waits Open n v t = absurd v
some_waits Safe n v t = absurd v
some_waits Full n v t = absurd v
some_waits Alarm zero v t = absurd t
some_waits Alarm (suc n) v t = omega arith

module _ (words : List ℤ) (m : Memory) (f : InForm words m) where
  -- the slot taken next is in use
  pub next_used : (k : ℕ) → NextBy m.analysis.settings.order (map nat_abs (take m.analysis.waiting m.waitlist)) k → k < m.analysis.used
  next_used k next =
      let waiting = take m.analysis.waiting m.waitlist in
      let waited = rw next.taken at (taken_waited m.analysis.settings.order (map nat_abs waiting)) in
      below_in m.analysis.used waiting (form (decode words) m f.analysis).slots k waited

  -- following parents ends
  pub falls_in : (y : Layout) → LayoutOf (decode words) y → Falls (origins_of y m.analysis.used m.table) m.analysis.used
  falls_in y o =
      let c = decode words in
      let n = m.analysis.used in
      let falls = parents_fall c (locations (states_in c n m.table)) (origins_in c n m.table) (form c m f.analysis).origins in
      λ s p h. rw (origins_say o n m.table) (falls s p (omega (arith, h, origins_count c n m.table)))
