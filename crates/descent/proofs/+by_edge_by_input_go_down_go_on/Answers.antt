use Rattle.std.proofs.Common.{rules}
use Rattle.semantics.proofs.Prelude.{◌≡◌, refl, sym, ap, ◌∙◌, subst, inl, inr, Bool, true, false, not, List, [], ◌∷◌, ℕ, suc, ◌+◌, ◌-◌, ◌*◌, ◌≤◌, arith, eqb, sfits_of, SFits, w32, to_z, of_z, to_z-of_z, le_z, ℤ, pos, ◌+ℤ◌, length, take, drop, length-append, length-take-le}
use Rattle.semantics.specs.Lists.{In}
use Rattle.semantics.specs.Chart.{numbered}
use Rattle.semantics.specs.Encoding.{decode, edge_count}
use Rattle.semantics.specs.Search.{first_of, interval, inputs, choose}
use Rattle.semantics.proofs.Bools.{from_true, from_false, to_true, to_false}
use Rattle.semantics.proofs.Integers.{lt_not_le, lt_suc, le_z_refl}
use Rattle.semantics.proofs.ChartChoices.{interval_step, interval_stop}
use Rattle.chart.specs.declared.EdgeRow.{EdgeRow}
use Rattle.chart.specs.Encoded.{edges_at}
use Rattle.words.proofs.Words.{told}
use Rattle.state.specs.Rows.{most_width, location_in}
use Rattle.descent.specs.Rows.{state_of, edge_of}
use Rattle.descent.specs.Distances.{distance_in}
use Rattle.descent.specs.Trails.{Went, by_input, by_edge, from_step, Going}
use Rattle.descent.proofs.TurningBack.{turned_back}
use Rattle.descent.proofs.Moves.{edge_small, edge_few, leaves}
use Rattle.descent.proofs.DistanceTests.{edge_asks, is_edge}
use Rattle.descent.proofs.Turns.{turn_found, turn_kept, turn_next, turn_end, went_none, by_edges, not_here, step_went}
use Rattle.descent.proofs.Descending.{edges_left, no_edges_left, end_went, row_narrow, front}
use Rattle.descent.proofs.+by_edge_by_input_go_down_go_on.Goals as goal

-- ---- by_edge

-- no number is below itself
past_end : (z : ℤ) → le_z (z +ℤ pos 1) z ≡ false
past_end z = to_false (le_z (z +ℤ pos 1) z) (λ t. from_false (lt_not_le z z (lt_suc z z ∙ to_true (le_z (z +ℤ pos 1) z) t)) (le_z_refl z))

is_false : (b : Bool) → not b ≡ true → b ≡ false
is_false true e = sym e
is_false false e = refl

-- the edge leaves another location
pub by_edge-returns-then-ne : goal.by_edge-returns-then-ne
by_edge-returns-then-ne t c =
    let a = c.args in
    let ws = a.guide.now.chart.now in
    let from = rw c.args.guide.now.same at c.edge_from.ensures.location in
    let other = rw (from, c.location_of.ensures.location) at (is_false (eqb c.edge_from.result.0 c.location_of.result.0) (sym c.ne.ensures ∙ c.if-ne.true)) in
    let e : eqb (edge_of ws a.edge).edge.from (location_in a.row.now) ≡ false = ap (λ (n : ℕ). eqb n (location_in a.row.now)) (leaves ws a.edge) ∙ other in
    went_none (not_here (decode ws) a.left (state_of a.row.now) (edge_of ws a.edge) e) refl

pub by_edge-input_range-low-requires : goal.by_edge-input_range-low-requires
by_edge-input_range-low-requires t c = edge_small _ c.args.guide.now.formed _ c.requires.1

-- the input values, by the words of the chart
range_is : (ws words : List ℤ) (e : EdgeRow) (r : ℤ × ℤ) → words ≡ ws → inputs (edge_of words e).edge.op ≡ interval r.0 r.1 → SFits w32 r.0 → SFits w32 r.1
    → inputs (edge_of ws e).edge.op ≡ interval (to_z w32 (of_z w32 r.0)) (to_z w32 (of_z w32 r.1))
range_is ws words e r same is low high = rw (told low refl, told high refl) (rw same at is)

pub by_edge-loop-z-init : goal.by_edge-loop-z-init
by_edge-loop-z-init t c =
    let a = c.args in
    let r = c.input_range-low in
    let range = range_is a.guide.now.chart.now _ a.edge r.result c.args.guide.now.same r.ensures (sfits_of {w = w32} {z = r.result.0} (omega arith)) (sfits_of {w = w32} {z = r.result.1} (omega arith)) in
    (refl, λ x i. rw range i, rw range)

pub by_edge-by_input-requires : goal.by_edge-by_input-requires
by_edge-by_input-requires t c =
    let a = c.args in
    let b = c.loop-z in
    let z = to_z w32 b.z-bits in
    let high = to_z w32 (of_z w32 c.input_range-low.result.1) in
    let here : In z (interval z high) = rw (interval_step z high (from_true c.loop-z-test.true)) (inl refl) in
    (omega (arith, c.decreases), (subst (Going a.guide.now.chart.now a.row.now (suc a.left)) (sym b.invariant.0) c.requires.0, c.requires.1, b.invariant.1 z here))

pub by_edge-returns-in-Some : goal.by_edge-returns-in-Some
by_edge-returns-in-Some t c =
    let a = c.args in
    let b = c.loop-z in
    let z = to_z w32 b.z-bits in
    let high = to_z w32 (of_z w32 c.input_range-low.result.1) in
    let f = by_input (decode a.guide.now.chart.now) a.left (state_of a.row.now) (edge_of a.guide.now.chart.now a.edge) in
    let step = interval_step z high (from_true c.loop-z-test.true) in
    let inv = b.invariant.2 ∙ ap (first_of f) step in
    turn_found f z (interval (z +ℤ pos 1) high) inv b.invariant.0 c.by_input.ensures c.in-Some.is

pub by_edge-loop-z-preserved : goal.by_edge-loop-z-preserved
by_edge-loop-z-preserved t c =
    let a = c.args in
    let b = c.loop-z in
    let z = to_z w32 b.z-bits in
    let high = to_z w32 (of_z w32 c.input_range-low.result.1) in
    let f = by_input (decode a.guide.now.chart.now) a.left (state_of a.row.now) (edge_of a.guide.now.chart.now a.edge) in
    let step = interval_step z high (from_true c.loop-z-test.true) in
    let inv = b.invariant.2 ∙ ap (first_of f) step in
    let next : to_z w32 (of_z w32 (z +ℤ pos 1)) ≡ z +ℤ pos 1 = search rules in
    rw next (
      turn_kept f z (interval (z +ℤ pos 1) high) inv b.invariant.0 c.by_input.ensures c.in_default.is,
      λ x i. b.invariant.1 x (rw step (inr i)),
      turn_next f z (interval (z +ℤ pos 1) high) inv b.invariant.0 c.by_input.ensures c.in_default.is,
    )

pub by_edge-returns-else-ne : goal.by_edge-returns-else-ne
by_edge-returns-else-ne t c =
    let a = c.args in
    let b = c.loop-z in
    let z = to_z w32 b.z-bits in
    let high = to_z w32 (of_z w32 c.input_range-low.result.1) in
    turn_end (by_input (decode a.guide.now.chart.now) a.left (state_of a.row.now) (edge_of a.guide.now.chart.now a.edge)) (interval z high) b.invariant.2 (interval_stop z high c.loop-z-test.false) b.invariant.0

pub by_edge-returns-in_default : goal.by_edge-returns-in_default
by_edge-returns-in_default t c =
    let a = c.args in
    let b = c.loop-z in
    let z = to_z w32 b.z-bits in
    let high = to_z w32 (of_z w32 c.input_range-low.result.1) in
    let f = by_input (decode a.guide.now.chart.now) a.left (state_of a.row.now) (edge_of a.guide.now.chart.now a.edge) in
    let step = interval_step z high (from_true c.loop-z-test.true) in
    let inv = b.invariant.2 ∙ ap (first_of f) step in
    let last : z ≡ high = search rules in
    let past : interval (z +ℤ pos 1) high ≡ [] = rw last (interval_stop (high +ℤ pos 1) high (past_end high)) in
    turn_end f (interval (z +ℤ pos 1) high) (turn_next f z (interval (z +ℤ pos 1) high) inv b.invariant.0 c.by_input.ensures c.in_default.is) past (turn_kept f z (interval (z +ℤ pos 1) high) inv b.invariant.0 c.by_input.ensures c.in_default.is)

-- ---- by_input

-- the array that a successor is written into
abbrev no_row : List ℤ
no_row = pos 0 ∷ pos 0 ∷ pos 0 ∷ pos 0 ∷ pos 0 ∷ pos 0 ∷ pos 0 ∷ pos 0 ∷ pos 0 ∷ []

-- the length of what is written
out_length : (row out : List ℤ) → length row ≤ most_width → length out ≡ length (take (length row) no_row) → length out ≡ length row
out_length row out h e = e ∙ length-take-le (length row) no_row h

pub by_input-slice_bounds-next-end : goal.by_input-slice_bounds-next-end
by_input-slice_bounds-next-end t c = row_narrow c.args.guide.now.chart.now c.args.row.now c.args.guide.now.formed c.requires.0.concrete

pub by_input-slice_bounds-advance-end : goal.by_input-slice_bounds-advance-end
by_input-slice_bounds-advance-end t c =
    sym (length-take-le (length c.args.row.now) no_row (row_narrow c.args.guide.now.chart.now c.args.row.now c.args.guide.now.formed c.requires.0.concrete))

pub by_input-advance-requires : goal.by_input-advance-requires
by_input-advance-requires t c =
    let a = c.args in
    rw (to_z-of_z w32 a.z c.ranges.z) (record {
      edge = c.requires.1;
      input = c.requires.2;
      concrete = c.requires.0.concrete;
      room = length-take-le (length a.row.now) no_row (row_narrow a.guide.now.chart.now a.row.now a.guide.now.formed c.requires.0.concrete);
    })

pub by_input-slice_bounds-next-end-in-Successor : goal.by_input-slice_bounds-next-end-in-Successor
by_input-slice_bounds-next-end-in-Successor t c =
    let narrow = row_narrow c.args.guide.now.chart.now c.args.row.now c.args.guide.now.formed c.requires.0.concrete in
    let out = c.advance.new.out in
    omega (arith, out_length c.args.row.now out narrow c.advance.auto.out, length-append out (drop (length c.args.row.now) no_row))

pub by_input-slice_bounds-go_on-end : goal.by_input-slice_bounds-go_on-end
by_input-slice_bounds-go_on-end t c =
    let narrow = row_narrow c.args.guide.now.chart.now c.args.row.now c.args.guide.now.formed c.requires.0.concrete in
    let out = c.advance.new.out in
    let same = out_length c.args.row.now out narrow c.advance.auto.out in
    sym (ap length (front out (drop (length c.args.row.now) no_row) (length c.args.row.now) same) ∙ same)

pub by_input-go_on-requires : goal.by_input-go_on-requires
by_input-go_on-requires t c =
    let a = c.args in
    let ws = a.guide.now.chart.now in
    let g = c.requires.0 in
    let out = c.advance.new.out in
    let same = out_length a.row.now out (row_narrow ws a.row.now a.guide.now.formed g.concrete) c.advance.auto.out in
    let ready : Going ws out (suc a.left) a.path.now = record { concrete = c.in-Successor.ensures.1; room = subst (λ (n : ℕ). suc a.left * suc n ≤ length a.path.now) (sym same) g.room } in
    (omega (arith, c.decreases), (subst (λ (l : List ℤ). Going ws l (suc a.left) a.path.now) (sym (front out (drop (length a.row.now) no_row) (length a.row.now) same)) ready, edge_few ws a.guide.now.formed a.edge c.requires.1))

pub by_input-returns-in-Successor : goal.by_input-returns-in-Successor
by_input-returns-in-Successor t c =
    let a = c.args in
    let ws = a.guide.now.chart.now in
    let out = c.advance.new.out in
    let same = out_length a.row.now out (row_narrow ws a.row.now a.guide.now.formed c.requires.0.concrete) c.advance.auto.out in
    let g = edge_of ws a.edge in
    let moved = rw (to_z-of_z w32 a.z c.ranges.z) at c.in-Successor.ensures in
    step_went (decode ws) a.left (state_of a.row.now) (state_of out) g a.z moved.0
    (subst (λ (l : List ℤ). Went (from_step (decode ws) a.left (choose g a.z) (state_of l)) a.path.now c.go_on.new.path c.go_on.result) (front out (drop (length a.row.now) no_row) (length a.row.now) same) (c.go_on.ensures (choose g a.z) refl))

-- ---- go_down

-- the state is further from an error location
pub go_down-returns-then-left-distance : goal.go_down-returns-then-left-distance
go_down-returns-then-left-distance t c =
    let a = c.args in
    let ws = a.guide.now.chart.now in
    let far = rw (c.distance.ensures, c.location_of.ensures.location) at c.if-left-distance.true in
    went_none (turned_back (decode ws) (distance_in a.guide.now.dist.now) a.guide.now.near a.left (state_of a.row.now) c.requires.concrete.ranged far) refl

pub go_down-returns-then-left-eq0 : goal.go_down-returns-then-left-eq0
go_down-returns-then-left-eq0 t c =
    end_went (decode c.args.guide.now.chart.now) (state_of c.args.row.now) c.args.left c.if-left-eq0.true c.at_end.ensures

pub go_down-loop-number-init : goal.go_down-loop-number-init
go_down-loop-number-init t c =
    (refl, by_edges (decode c.args.guide.now.chart.now) c.args.left (state_of c.args.row.now) c.if-left-eq0.false)

pub go_down-edge_of-edge-requires : goal.go_down-edge_of-edge-requires
go_down-edge_of-edge-requires t c =
    let a = c.args in
    let b = c.loop-number in
    let ws = a.guide.now.chart.now in
    let formed = c.args.guide.now.formed in
    let place = c.first_edge-first.ensures.place ∙ ap edges_at c.args.guide.now.same in
    let count = c.edge_count-number-end.ensures.count ∙ ap edge_count c.args.guide.now.same in
    edge_asks ws formed c.first_edge-first.result b.number place (omega (arith, b.auto.number)) (omega arith)

pub go_down-returns-in-Some : goal.go_down-returns-in-Some
go_down-returns-in-Some t c =
    let a = c.args in
    let b = c.loop-number in
    let ws = a.guide.now.chart.now in
    let formed = c.args.guide.now.formed in
    let place = c.first_edge-first.ensures.place ∙ ap edges_at c.args.guide.now.same in
    let count = c.edge_count-number-end.ensures.count ∙ ap edge_count c.args.guide.now.same in
    let e = c.edge_of-edge in
    let is = is_edge ws formed c.first_edge-first.result b.number place (omega (arith, b.auto.number)) (omega arith) e.result e.ensures.id e.ensures.place in
    let f = by_edge (decode ws) (a.left - 1) (state_of a.row.now) in
    let rest = drop b.number (numbered (decode ws)) in
    let inv = b.invariant.1 ∙ ap (first_of f) (edges_left ws formed e.result is b.number e.ensures.id) in
    turn_found f (edge_of ws e.result) rest inv b.invariant.0 c.by_edge.ensures c.in-Some.is

pub go_down-loop-number-preserved : goal.go_down-loop-number-preserved
go_down-loop-number-preserved t c =
    let a = c.args in
    let b = c.loop-number in
    let ws = a.guide.now.chart.now in
    let formed = c.args.guide.now.formed in
    let place = c.first_edge-first.ensures.place ∙ ap edges_at c.args.guide.now.same in
    let count = c.edge_count-number-end.ensures.count ∙ ap edge_count c.args.guide.now.same in
    let e = c.edge_of-edge in
    let is = is_edge ws formed c.first_edge-first.result b.number place (omega (arith, b.auto.number)) (omega arith) e.result e.ensures.id e.ensures.place in
    let f = by_edge (decode ws) (a.left - 1) (state_of a.row.now) in
    let rest = drop b.number (numbered (decode ws)) in
    let inv = b.invariant.1 ∙ ap (first_of f) (edges_left ws formed e.result is b.number e.ensures.id) in
    let next : b.number + 1 - 1 ≡ b.number = omega arith in
    rw next (turn_kept f (edge_of ws e.result) rest inv b.invariant.0 c.by_edge.ensures c.in_default.is, turn_next f (edge_of ws e.result) rest inv b.invariant.0 c.by_edge.ensures c.in_default.is)

pub go_down-returns-else-left-eq0 : goal.go_down-returns-else-left-eq0
go_down-returns-else-left-eq0 t c =
    let a = c.args in
    let b = c.loop-number in
    let ws = a.guide.now.chart.now in
    let count = c.edge_count-number-end.ensures.count ∙ ap edge_count c.args.guide.now.same in
    turn_end (by_edge (decode ws) (a.left - 1) (state_of a.row.now)) (drop (b.number - 1) (numbered (decode ws))) b.invariant.1 (no_edges_left ws (b.number - 1) (omega (arith, b.auto.number, b.auto.number-end))) b.invariant.0

pub go_down-returns-in_default : goal.go_down-returns-in_default
go_down-returns-in_default t c =
    let a = c.args in
    let b = c.loop-number in
    let ws = a.guide.now.chart.now in
    let formed = c.args.guide.now.formed in
    let place = c.first_edge-first.ensures.place ∙ ap edges_at c.args.guide.now.same in
    let count = c.edge_count-number-end.ensures.count ∙ ap edge_count c.args.guide.now.same in
    let e = c.edge_of-edge in
    let is = is_edge ws formed c.first_edge-first.result b.number place (omega (arith, b.auto.number)) (omega arith) e.result e.ensures.id e.ensures.place in
    let f = by_edge (decode ws) (a.left - 1) (state_of a.row.now) in
    let rest = drop b.number (numbered (decode ws)) in
    let inv = b.invariant.1 ∙ ap (first_of f) (edges_left ws formed e.result is b.number e.ensures.id) in
    turn_end f rest (turn_next f (edge_of ws e.result) rest inv b.invariant.0 c.by_edge.ensures c.in_default.is) (no_edges_left ws b.number (omega arith)) (turn_kept f (edge_of ws e.result) rest inv b.invariant.0 c.by_edge.ensures c.in_default.is)
