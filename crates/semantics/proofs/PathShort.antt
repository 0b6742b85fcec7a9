-- A path is short: 24,576 bytes hold every path of an analysis that a call has begun, or that is in form. Assumes nothing.
use Rattle.semantics.proofs.Prelude.{◌≡◌, refl, sym, subst, inl, inr, Bool, true, false, ◌&&◌, List, [], ◌∷◌, ◌++◌, map, Option, none, some, ℕ, zero, suc, ◌+◌, ◌*◌, ◌≤◌, ◌<◌, arith, T, eqb, ltb, leb→le, eqb→eq, ltb→lt, length, length-append, take, get_or, ℤ, pos, nat_abs, non_neg}
use Rattle.semantics.specs.Lists.{In, some_of, get, map_or, each, all, pick}
use Rattle.semantics.specs.Layout.{most_slots, listing_bytes, no_slot}
use Rattle.semantics.specs.Text.{bytes, decimal}
use Rattle.semantics.specs.Chart.{Edge, Chart}
use Rattle.semantics.specs.Algorithm.{Order, Old, New, Origin, Exploration, Taken, later, take_last, take_by}
use Rattle.semantics.specs.Constants.{AbstractState}
use Rattle.semantics.specs.Memory.{Memory, load, below, joins, origin_ok, origins_ok, locations, analysis_ok}
use Rattle.semantics.specs.Outcomes.{path_of}
use Rattle.semantics.specs.Listing.{mode_text, slot_text}
use Rattle.semantics.specs.Path.{parent_of, edge_of, way_to, path_slots, path_header, path_line, path_text}
use Rattle.semantics.specs.Tidy.{Every}
use Rattle.semantics.proofs.Bools.{and_left, and_right}
use Rattle.semantics.proofs.StatesOk.{StateOk, Bounds}
use Rattle.semantics.proofs.MemoryOf.{counted, Proper}
use Rattle.semantics.proofs.MemoryInForm.{form, states_count, rows_states}
use Rattle.semantics.proofs.Rendered.{dec_short}
use Rattle.semantics.proofs.ListingShort.{line_size, mode_short, few_used, slot_short}

-- ---- the slots of a path

-- a slot that is taken was waiting
abbrev Waited : List ℕ → Option Taken → Type 0
Waited wa none = Unit
Waited wa (some t) = In t.slot wa

last_waited : (wa : List ℕ) → Waited wa (take_last wa)
last_waited [] = tt
last_waited (x ∷ xs) = go (take_last xs) (last_waited xs)
  where
    go : (o : Option Taken) → Waited xs o → Waited (x ∷ xs) (later x o)
    go none h = inl refl
    go (some t) h = inr h

pub taken_waited : (o : Order) (wa : List ℕ) → Waited wa (take_by o wa)
taken_waited Old [] = tt
taken_waited Old (x ∷ xs) = inl refl
taken_waited New wa = last_waited wa

-- a slot, and one for each parent that was followed
way_few : (os : List Origin) (n s : ℕ) → length (way_to os n s) ≤ suc n
way_few os zero s = omega arith
way_few os (suc n) s = go (eqb s 0) (way_few os n (parent_of os s))
  where
    go : (b : Bool) → length (way_to os n (parent_of os s)) ≤ suc n → length (pick b (s ∷ []) (way_to os n (parent_of os s) ++ (s ∷ []))) ≤ suc (suc n)
    go true h = omega arith
    go false h = omega (arith, length-append (way_to os n (parent_of os s)) (s ∷ []))

slots_few : (w : Exploration AbstractState) → ((j : ℕ) → In j w.waitlist → j < most_slots) → length (path_slots w) ≤ most_slots
slots_few w h = go (take_by w.settings.order w.waitlist) (taken_waited w.settings.order w.waitlist)
  where
    go : (o : Option Taken) → Waited w.waitlist o → length (map_or o [] (λ t. way_to w.origins t.slot t.slot)) ≤ most_slots
    go none i = omega arith
    go (some t) i = omega (arith, way_few w.origins t.slot t.slot, h t.slot i)

-- the slots in words below n are below n
pub below_in : (n : ℕ) (xs : List ℤ) → T (all (below n) xs) → (j : ℕ) → In j (map nat_abs xs) → j < n
below_in n [] t j i = absurd i
below_in n (x ∷ xs) t j (inl p) = subst (λ (k : ℕ). k < n) (sym p) (ltb→lt (nat_abs x) n (and_right (non_neg x) (ltb (nat_abs x) n) (and_left (below n x) (all (below n) xs) t)))
below_in n (x ∷ xs) t j (inr i) = below_in n xs (and_right (below n x) (all (below n) xs) t) j i

-- ---- the edges of a path

module _ (c : Chart) where
  -- an edge that joins two locations is one of the chart
  pub joins_in : (n x y : ℕ) → T (joins c n x y) → n ≤ length c.edges
  joins_in zero x y t = absurd t
  joins_in (suc n) x y t = go c.edges n t
    where
      go : (gs : List Edge) (n : ℕ) → T (map_or (get gs n) false (λ g. eqb g.from x && eqb g.to y)) → suc n ≤ length gs
      go [] n t = absurd t
      go (g ∷ gs) zero t = omega arith
      go (g ∷ gs) (suc n) t = omega (arith, go gs n t)

  origin_edge : (ls : List ℕ) (s : ℕ) (o : Origin) → T (origin_ok c ls s o) → o.edge ≤ length c.edges
  origin_edge ls zero o t = let p = and_right (eqb o.parent no_slot) (eqb o.edge 0) t in omega (arith, eqb→eq o.edge 0 p)
  origin_edge ls (suc s) o t =
      let at = get_or ls o.parent 0 in
      joins_in o.edge at (get_or ls (suc s) 0) (and_right (ltb o.parent (suc s)) (joins c o.edge at (get_or ls (suc s) 0)) t)

  pub origin_edges : (ls : List ℕ) (s : ℕ) (os : List Origin) → T (origins_ok c ls s os) → (k : ℕ) → edge_of os k ≤ length c.edges
  origin_edges ls s [] t k = omega arith
  origin_edges ls s (o ∷ os) t zero = origin_edge ls s o (and_left (origin_ok c ls s o) (origins_ok c ls (suc s) os) t)
  origin_edges ls s (o ∷ os) t (suc k) = origin_edges ls (suc s) os (and_right (origin_ok c ls s o) (origins_ok c ls (suc s) os) t) k

-- ---- its text

module _ (c : Chart) (b : Bounds c) where
  module _ (w : Exploration AbstractState) (n : length w.reached ≤ most_slots) (every : Every (StateOk c) w.reached) (ok : T (origins_ok c (locations w.reached) 0 w.origins)) where
    line_short : (s : ℕ) → length (path_line c w s) ≤ 88
    line_short s =
        let edge = edge_of w.origins s in
        let few = origin_edges c (locations w.reached) 0 w.origins ok s in
        omega (arith, length-append (decimal edge) (9 ∷ map_or (get w.reached s) [] (λ e. slot_text c s e (some_of (eqb s) w.waitlist))), dec_short edge (omega (arith, few, b.few_edges)), go 0 w.reached s (omega arith) (omega arith) every)
      where
        -- of the states es, the first of them that of slot i, the one at place k
        go : (i : ℕ) (es : List AbstractState) (k : ℕ) → s ≡ i + k → i + length es ≤ most_slots → Every (StateOk c) es → length (map_or (get es k) [] (λ e. slot_text c s e (some_of (eqb s) w.waitlist))) ≤ 82
        go i [] k e l h = omega arith
        go i (x ∷ xs) zero e l h = slot_short c b s x (some_of (eqb s) w.waitlist) (omega arith) h.0
        go i (x ∷ xs) (suc k) e l h = go (suc i) xs k (omega arith) (omega arith) h.1

    lines_short : (ks : List ℕ) → length (each (path_line c w) ks) ≤ length ks * 88
    lines_short [] = omega arith
    lines_short (k ∷ ks) = omega (arith, length-append (path_line c w k) (each (path_line c w) ks), line_short k, lines_short ks)

    path_fits : w.edge ≤ length c.edges → ((j : ℕ) → In j w.waitlist → j < most_slots) → length (path_text c w) ≤ listing_bytes
    unfolding path_text
    path_fits e h =
        omega (
          arith,
          length-append (path_header w.settings.merge w.edge) (each (path_line c w) (path_slots w)),
          line_size (bytes "path") (mode_text w.settings.merge ∷ decimal w.edge ∷ []),
          mode_short w.settings.merge,
          dec_short w.edge (omega (arith, e, b.few_edges)),
          lines_short (path_slots w),
          slots_few w h,
        )

  pub path_short : (w : Exploration AbstractState) → Proper c w → length (path_text c w) ≤ listing_bytes
  path_short w g =
      let few : length w.reached ≤ most_slots = omega (arith, g.tidy.within, (counted (pos w.capacity) g.capacity).few) in
      path_fits w few g.tidy.every g.path.brought.ok g.tidy.edge_in (λ j i. omega (arith, g.tidy.queue.used j i))

  -- and of any analysis in form, whoever made it
  pub path_text_short : (m : Memory) → T (analysis_ok c m) → length (path_of c m) ≤ listing_bytes
  unfolding load
  path_text_short m t =
      let r = m.analysis in
      let f = form c m t in
      let few = few_used c m t in
      path_fits (load c m)
      (omega (arith, states_count c r.used m.table, few))
      (rows_states c r.used m.table f.rows)
      f.origins
      (leb→le r.edge.0 (length c.edges) f.edge)
      (λ j i. omega (arith, below_in r.used (take r.waiting m.waitlist) f.slots j i, few))
