-- A listing is short: 24,576 bytes hold every listing of an analysis that a call has begun, or that is in form.
-- Assumes nothing.
use Rattle.semantics.proofs.Prelude.{◌≡◌, Bool, true, false, List, [], ◌∷◌, ◌++◌, map, ℕ, zero, suc, ◌+◌, ◌*◌, ◌≤◌, arith, T, eqb, leb→le, length, length-append, pos, le_z}
use Rattle.semantics.specs.Lists.{some_of, all}
use Rattle.semantics.specs.Layout.{most_iterations, most_slots, least_number, most_number, name_size, listing_bytes}
use Rattle.semantics.specs.Text.{bytes, decimal, line_of, name_ok}
use Rattle.semantics.specs.Chart.{Value, known, top, Var, Loc, Chart}
use Rattle.semantics.specs.Algorithm.{Mode, Sep, Order, Old, New, Verdict, Open, Safe, Alarm, Full, Exploration, Join}
use Rattle.semantics.specs.Constants.{AbstractState}
use Rattle.semantics.specs.Encoding.{var_ok}
use Rattle.semantics.specs.Memory.{Memory, load, analysis_ok}
use Rattle.semantics.specs.Outcomes.{listing_of}
use Rattle.semantics.specs.Listing.{mode_text, order_text, verdict_text, loc_text, val_text, mark, slot_text, slots_text, listing_text}
use Rattle.semantics.specs.Tidy.{Every}
use Rattle.semantics.proofs.Integers.{le_z_trans}
use Rattle.semantics.proofs.Bools.{and_left, and_right, both_true}
use Rattle.semantics.proofs.MemoryOf.{counted, Proper}
use Rattle.semantics.proofs.StatesOk.{ValOk, ValsOk, StateOk, Bounds}
use Rattle.semantics.proofs.MemoryInForm.{form, states_count, rows_states}
use Rattle.semantics.proofs.Numbers.{digits_few}
use Rattle.semantics.proofs.Encoded.{name_short}
use Rattle.semantics.proofs.Rendered.{size, dec_short, dec_z_short}

pub line_size : (f : List ℕ) (gs : List (List ℕ)) → length (line_of f gs) ≡ size (f ∷ gs)
unfolding line_of
line_size f [] = length-append f (10 ∷ [])
line_size f (g ∷ gs) = omega (arith, length-append f (9 ∷ line_of g gs), line_size g gs)

pub val_short : (v : Var) (x : Value) → T (var_ok v) → ValOk v x → length (val_text x) ≤ 6
val_short v (known z) t h =
    let a : T (le_z least_number v.lo) = search (and_left, and_right) depth 8 in
    let b : T (le_z v.hi most_number) = search (and_left, and_right) depth 8 in
    let p = le_z_trans least_number v.lo z a (and_left (le_z v.lo z) (le_z z v.hi) h) in
    let q = le_z_trans z v.hi most_number (and_right (le_z v.lo z) (le_z z v.hi) h) b in
    dec_z_short z (both_true (le_z least_number z) (le_z z most_number) p q)
val_short v top t h = omega arith

vals_short : (vs : List Var) (xs : List Value) (m : List ℕ) → T (all var_ok vs) → ValsOk vs xs → size (map val_text xs ++ (m ∷ [])) ≤ 7 * length vs + suc (length m)
vals_short [] [] m t h = omega arith
vals_short [] (x ∷ xs) m t h = absurd h
vals_short (v ∷ vs) [] m t h = absurd h
vals_short (v ∷ vs) (x ∷ xs) m t h = omega (arith, val_short v x (and_left (var_ok v) (all var_ok vs) t) h.0, vals_short vs xs m (and_right (var_ok v) (all var_ok vs) t) h.1)

pub loc_short : (ls : List Loc) (n : ℕ) → T (all (λ l. name_ok l.name) ls) → length (loc_text ls n) ≤ name_size
loc_short [] n t = omega arith
loc_short (l ∷ ls) zero t = name_short l.name (and_left (name_ok l.name) (all (λ l. name_ok l.name) ls) t)
loc_short (l ∷ ls) (suc n) t = loc_short ls n (and_right (name_ok l.name) (all (λ l. name_ok l.name) ls) t)

mark_short : (b : Bool) → length (mark b) ≤ 1
mark_short true = omega arith
mark_short false = omega arith

pub mode_short : (m : Mode) → length (mode_text m) ≤ 4
mode_short Sep = omega arith
mode_short Join = omega arith

order_short : (o : Order) → length (order_text o) ≤ 3
order_short Old = omega arith
order_short New = omega arith

verdict_short : (v : Verdict) → length (verdict_text v) ≤ 5
verdict_short Open = omega arith
verdict_short Safe = omega arith
verdict_short Alarm = omega arith
verdict_short Full = omega arith

pub few_used : (c : Chart) (m : Memory) → T (analysis_ok c m) → m.analysis.used ≤ most_slots
few_used c m t =
    let f = form c m t in
    omega (arith, leb→le m.analysis.used m.analysis.capacity f.used, (counted (pos m.analysis.capacity) f.capacity).few)

module _ (c : Chart) (b : Bounds c) where
  pub slot_short : (s : ℕ) (e : AbstractState) (waits : Bool) → s ≤ most_slots → StateOk c e → length (slot_text c s e waits) ≤ 82
  slot_short s e waits l h =
      let m = mark waits in
      omega (
        arith,
        line_size (decimal s) (loc_text c.locs e.loc ∷ (map val_text e.vals ++ (m ∷ []))),
        dec_short s (omega arith),
        loc_short c.locs e.loc b.names,
        vals_short c.vars e.vals m b.vars h.vals,
        mark_short waits,
        b.few_vars,
      )

  slots_short : (wa : List ℕ) (s : ℕ) (es : List AbstractState) → s + length es ≤ most_slots → Every (StateOk c) es → length (slots_text c wa s es) ≤ length es * 82
  slots_short wa s [] l h = omega arith
  slots_short wa s (e ∷ es) l h = omega (arith, length-append (slot_text c s e (some_of (eqb s) wa)) (slots_text c wa (suc s) es), slot_short s e (some_of (eqb s) wa) (omega arith) h.0, slots_short wa (suc s) es (omega arith) h.1)

  listing_fits : (w : Exploration AbstractState) → length w.reached ≤ most_slots → w.iterations ≤ most_iterations → w.edge ≤ length c.edges → Every (StateOk c) w.reached
      → length (listing_text c w) ≤ listing_bytes
  unfolding listing_text
  listing_fits w n i e every =
      let fs = mode_text w.settings.stop ∷ order_text w.settings.order ∷ verdict_text w.verdict ∷ decimal w.iterations ∷ decimal (length w.reached) ∷ decimal w.edge ∷ [] in
      let h = line_size (bytes "walk") (mode_text w.settings.merge ∷ fs) in
      omega (
        arith,
        length-append (line_of (bytes "walk") (mode_text w.settings.merge ∷ fs)) (slots_text c w.waitlist 0 w.reached),
        h,
        mode_short w.settings.merge,
        mode_short w.settings.stop,
        order_short w.settings.order,
        verdict_short w.verdict,
        iterations_short,
        dec_short (length w.reached) (omega arith),
        dec_short w.edge (omega (arith, b.few_edges)),
        slots_short w.waitlist 0 w.reached (omega arith) every,
      )
    where
      iterations_short : length (decimal w.iterations) ≤ 5
      iterations_short = omega (arith, digits_few 4 w.iterations w.iterations [] (omega (arith, i)))

  pub listing_short : (w : Exploration AbstractState) → Proper c w → length (listing_text c w) ≤ listing_bytes
  listing_short w g = listing_fits w (omega (arith, g.tidy.within, (counted (pos w.capacity) g.capacity).few)) g.iterations g.tidy.edge_in g.tidy.every

  -- and of any analysis in form, whoever made it
  pub text_short : (m : Memory) → T (analysis_ok c m) → length (listing_of c m) ≤ listing_bytes
  unfolding load
  text_short m t =
      let r = m.analysis in
      let f = form c m t in
      listing_fits (load c m)
      (omega (arith, states_count c r.used m.table, few_used c m t))
      (leb→le r.iterations most_iterations f.iterations)
      (leb→le r.edge.0 (length c.edges) f.edge)
      (rows_states c r.used m.table f.rows)
