-- Facts behind the check of origins: the edges of a chart by their places, and the locations and origins of slots.
-- Assumes nothing.
use Rattle.semantics.proofs.Prelude.{◌≡◌, refl, Bool, false, ◌&&◌, List, [], ◌∷◌, ℕ, zero, suc, ◌+◌, ◌-◌, ◌*◌, ◌≤◌, ◌<◌, add-zero, add-one, suc-mul, arith, eqb, ltb, ℤ, pos, take, drop, get_or, drop-drop, get_or-drop}
use Rattle.semantics.specs.Chart.{Chart}
use Rattle.semantics.specs.Layout.{edge_size, to_place}
use Rattle.semantics.specs.Algorithm.{Origin}
use Rattle.semantics.specs.Encoding.{count, edge_count, decode}
use Rattle.semantics.specs.Memory.{width, state_in, states_in, origin_in, origins_in, locations, joins, origin_ok, origins_ok}
use Rattle.chart.specs.Encoded.{edges_at}
use Rattle.chart.proofs.Places.{edge_got, edge_past}
use Rattle.state.specs.declared.Layout.{Layout}
use Rattle.state.specs.Rows.{location_in, row_of, tail_of}
use Rattle.state.proofs.Layouts.{LayoutOf}
use Rattle.state.proofs.Slots.{drop_slot}

-- ---- the edges

module _ (ws : List ℤ) where
  -- an edge of the chart, by the place of its words
  pub joins_at : (e at x y : ℕ) → 1 ≤ e → e ≤ edge_count ws → at ≡ edges_at ws + edge_size * (e - 1) → joins (decode ws) e x y ≡ eqb (count ws at) x && eqb (count ws (at + to_place)) y
  joins_at zero at x y l h p = absurd (omega arith)
  joins_at (suc n) at x y l h p = rw (edge_got ws n at (omega arith) (omega (arith, p)), get_or-drop at ws 0 (pos 0), get_or-drop at ws 1 (pos 0), add-zero at)

  -- past the last edge
  pub joins_past : (e x y : ℕ) → edge_count ws < e → joins (decode ws) e x y ≡ false
  joins_past zero x y h = absurd (omega arith)
  joins_past (suc n) x y h = rw (edge_past ws n (omega arith))

-- ---- the slots

state_location : (e : List ℤ) → (state_in e).loc ≡ location_in e
state_location [] = refl
state_location (x ∷ xs) = refl

module _ (c : Chart) (y : Layout) (o : LayoutOf c y) where
  -- where slot s stands
  pub location_at : (n s : ℕ) (t : List ℤ) → s < n → get_or (locations (states_in c n t)) s 0 ≡ location_in (row_of y s t)
  location_at zero s t h = absurd (omega arith)
  location_at (suc n) zero t h = let z : 0 * y.stride ≡ 0 = omega arith in rw (z, o.wide) (state_location (take (width c) t))
  location_at (suc n) (suc s) t h =
      let e : y.stride + s * y.stride ≡ suc s * y.stride = omega (arith, suc-mul s y.stride) in
      rw (← e, ← drop-drop (s * y.stride) y.stride t, ← o.stride) (location_at n s (drop y.stride t) (omega arith))

  -- the origin of slot s is tested, and those after it are left
  pub origins_ok_turn : (ls : List ℕ) (t : List ℤ) (s n : ℕ) (b : Bool) → origin_ok c ls s (origin_in (tail_of y s t)) ≡ b →
      origins_ok c ls s (origins_in c (suc n) (drop (s * y.stride) t)) ≡ b && origins_ok c ls (s + 1) (origins_in c n (drop ((s + 1) * y.stride) t))
  origins_ok_turn ls t s n b q = rw (← drop_slot y s t, ← q, o.wide, o.stride, add-one s)

-- ---- one origin

-- of a slot that is not the first; b is whether its parent is below it
pub origin_later : (c : Chart) (ls : List ℕ) (s : ℕ) (o : Origin) → (s ≡ 0 → ⊥) → (b : Bool) → ltb o.parent s ≡ b →
    origin_ok c ls s o ≡ b && joins c o.edge (get_or ls o.parent 0) (get_or ls s 0)
origin_later c ls zero o h b q = absurd (h refl)
origin_later c ls (suc s) o h b q = rw q
