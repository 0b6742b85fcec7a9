-- At the entry of a run call: an analysis that passes form rule 21 is held in form by the capacity's words, and they
-- say what `load` reads. Assumes nothing.
use Rattle.semantics.proofs.Prelude.{◌≡◌, refl, sym, ap, subst, ◌∙◌, inl, inr, Bool, true, false, ◌||◌, not, List, [], ◌∷◌, ◌++◌, map, ℕ, ◌-◌, ◌*◌, ◌≤◌, ◌<◌, mul-le-mul_right, arith, T, ltb, eqb, leb→le, ltb→lt, eqb→eq, ℤ, pos, nat_abs, length, take, drop, replicate, take-append-drop, length-map, length-drop, length-take-le, take-take}
use Rattle.semantics.specs.Layout.{most_iterations}
use Rattle.semantics.specs.declared.Verdict.{Verdict}
use Rattle.semantics.specs.declared.Verdict.TheVariants.{Open, Safe, Alarm, Full}
use Rattle.semantics.specs.Lists.{In, some_of, all}
use Rattle.semantics.specs.Chart.{Chart, eq_z}
use Rattle.semantics.specs.Tidy.{Distinct, Queue, Tidy}
use Rattle.semantics.specs.Memory.{Memory, stride, origin_in, load, below, each_once, zeros, is_alarm, empty_if_safe, analysis_ok}
use Rattle.semantics.proofs.Bools.{failed, and_left, and_right}
use Rattle.semantics.proofs.Tidy.{some_not}
use Rattle.semantics.proofs.MemoryOf.{counted}
use Rattle.semantics.proofs.MemoryInForm.{Form, form, slots_back, zeros_back}
use Rattle.semantics.proofs.Simulate.{ExplorationR}
use Rattle.semantics.proofs.AtAndIn.{clash}
use Rattle.semantics.proofs.Encoded.{every_any}
use Rattle.state.specs.declared.Layout.{Layout}
use Rattle.state.specs.Rows.{rows_of, tails_of}
use Rattle.state.proofs.Layouts.{LayoutOf, slots_in, origins_say}
use Rattle.waitlist.specs.Waits.{waits, Stored}
use Rattle.waitlist.proofs.WaitWords.{any_some}
use Rattle.reached.specs.Reached.{Kept}
use Rattle.reached.proofs.Table.{rows_length, rows_prefix, tails_prefix}
use Rattle.transfer.proofs.Agree.{Says}
use Rattle.transfer.proofs.RowsSayStates.{rows_say, tails_say}
use Rattle.progress.specs.Progress.{load_of}
use Rattle.analysis.specs.Loaded.{Any, Resumable}

pub iterations_few : (c : Chart) (m : Memory) → T (analysis_ok c m) → m.analysis.iterations ≤ most_iterations
iterations_few c m t = leb→le m.analysis.iterations most_iterations (form c m t).iterations

-- ---- words

-- slot numbers below n, each once
distinct : (ks : List ℕ) → T (each_once (map pos ks)) → Distinct ks
distinct [] t = tt
distinct (k ∷ ks) t =
    let b = some_of (eq_z (pos k)) (map pos ks) in
    let o = each_once (map pos ks) in
    (some_not k ks (sym (any_some k ks) ∙ failed b (and_left (not b) o t)), distinct ks (and_right (not b) o t))

in_use : (n : ℕ) (ks : List ℕ) → T (all (below n) (map pos ks)) → (j : ℕ) → In j ks → j < n
in_use n [] t j h = absurd h
in_use n (k ∷ ks) t j (inl p) = subst (λ (i : ℕ). i < n) (sym p) (ltb→lt k n (and_left (ltb k n) (all (below n) (map pos ks)) t))
in_use n (k ∷ ks) t j (inr q) = in_use n ks (and_right (ltb k n) (all (below n) (map pos ks)) t) j q

-- ---- the verdict and the edge

safe_none : (v : Verdict) (n : ℕ) → T (empty_if_safe v n) → v ≡ Safe → n ≡ 0
safe_none Open n t e = absurd (clash cc)
safe_none Safe n t e = eqb→eq n 0 t
safe_none Alarm n t e = absurd (clash cc)
safe_none Full n t e = absurd (clash cc)

none_safe : (v : Verdict) → T (empty_if_safe v 0) → v ≡ Safe
none_safe Open t = absurd t
none_safe Safe t = refl
none_safe Alarm t = absurd t
none_safe Full t = absurd t

alarm_only : (v : Verdict) (b : Bool) → T (b || is_alarm v) → (v ≡ Alarm → ⊥) → T b
alarm_only v true t h = tt
alarm_only Open false t h = t
alarm_only Safe false t h = t
alarm_only Alarm false t h = absurd (h refl)
alarm_only Full false t h = t

-- ---- the capacity's words

module _ (c : Chart) (y : Layout) (o : LayoutOf c y) (m : Memory) (lt : m.analysis.capacity * stride c ≤ length m.table) (ll : m.analysis.capacity ≤ length m.waitlist) (ok : T (analysis_ok c m)) where
  abbrev pub table_in : List ℤ
  table_in = take (m.analysis.capacity * y.stride) m.table

  abbrev pub list_in : List ℤ
  list_in = take m.analysis.capacity m.waitlist

  f : Form c m
  f = form c m ok

  few : m.analysis.used ≤ m.analysis.capacity
  few = leb→le m.analysis.used m.analysis.capacity f.used

  fewer : m.analysis.waiting ≤ m.analysis.used
  fewer = leb→le m.analysis.waiting m.analysis.used f.waiting

  front : take m.analysis.waiting list_in ≡ take m.analysis.waiting m.waitlist
  front = take-take m.analysis.waiting m.analysis.capacity m.waitlist (omega (arith, few, fewer))

  table_fits : m.analysis.capacity * y.stride ≤ length m.table
  table_fits = slots_in o m.analysis.capacity (length m.table) lt

  abbrev in_use_size : ℕ
  in_use_size = m.analysis.used * y.stride

  in_room : in_use_size ≤ m.analysis.capacity * y.stride
  in_room = mul-le-mul_right y.stride few

  -- the slots in use stand in the table, and before whatever else stands in the capacity's words
  in_use_fits : m.analysis.used * stride c ≤ length m.table
  in_use_fits = subst (λ (d : ℕ). m.analysis.used * d ≤ length m.table) o.stride (omega (arith, in_room, table_fits))

  table_parts : table_in ≡ take in_use_size m.table ++ drop in_use_size table_in
  table_parts = sym (take-append-drop in_use_size table_in) ∙ ap (λ (x : List ℤ). x ++ drop in_use_size table_in) (take-take in_use_size (m.analysis.capacity * y.stride) m.table in_room)

  rows_in : rows_of y m.analysis.used table_in ≡ rows_of y m.analysis.used m.table
  rows_in = ap (rows_of y m.analysis.used) table_parts ∙ rows_prefix y (omega (arith, o.wide, o.stride)) m.analysis.used m.table (drop in_use_size table_in) (omega (arith, in_room, table_fits))

  tails_in : tails_of y m.analysis.used table_in ≡ tails_of y m.analysis.used m.table
  tails_in = ap (tails_of y m.analysis.used) table_parts ∙ tails_prefix y m.analysis.used m.table (drop in_use_size table_in) (omega (arith, in_room, table_fits))

  size : length list_in ≡ m.analysis.capacity
  size = length-take-le m.analysis.capacity m.waitlist ll

  put : Stored list_in m.analysis.waiting (waits m.analysis.waiting list_in)
  put =
      let n = m.analysis.waiting in
      let le : n ≤ length list_in = omega (arith, few, fewer, size) in
      let ld : length (drop n list_in) ≡ length list_in - n = length-drop n list_in in
      record {
        count = sym (length-map (take n list_in) nat_abs ∙ length-take-le n list_in le);
        fits = le;
        words = sym (take-append-drop n list_in)
            ∙ ap (λ (x : List ℤ). x ++ drop n list_in) (sym (slots_back m.analysis.used (take n list_in) (rw front f.slots)))
            ∙ ap (λ (x : List ℤ). map pos (waits n list_in) ++ x) (sym (zeros_back (drop n list_in) f.free) ∙ ap (λ (q : ℕ). replicate q (pos 0)) ld);
      }

  queue : Queue m.analysis.used (waits m.analysis.waiting list_in)
  queue =
      let xs = take m.analysis.waiting m.waitlist in
      let ks = map nat_abs xs in
      let e : xs ≡ map pos ks = sym (slots_back m.analysis.used xs f.slots) in
      rw front (record {
        once = distinct ks (subst (λ (x : List ℤ). T (each_once x)) e f.once);
        used = in_use m.analysis.used ks (subst (λ (x : List ℤ). T (all (below m.analysis.used) x)) e f.slots);
      })

  kept : Kept y table_in list_in m.analysis.used m.analysis.waiting
  kept =
      let n = m.analysis.used * y.stride in
      let zero : T (zeros (drop n table_in)) = subst (λ (k : ℕ). T (zeros (drop (m.analysis.used * k) (take (m.analysis.capacity * k) m.table)))) (sym o.stride) f.rest in
      record {
        wide = omega (arith, o.wide);
        tailed = omega (arith, o.wide, o.stride);
        capacity = omega (arith, few, size);
        small = omega (arith, (counted (pos m.analysis.capacity) f.capacity).few, size);
        table = length-take-le (m.analysis.capacity * y.stride) m.table table_fits ∙ ap (λ (k : ℕ). k * y.stride) (sym size);
        rest = sym (zeros_back (drop n table_in) zero) ∙ ap (λ (q : ℕ). replicate q (pos 0)) (length-drop n table_in);
        origins = rw tails_in (tails_say c y o m.analysis.used m.table in_use_fits f.rows);
        slots = put;
        queue = queue;
      }

  tidy : Tidy Any (length c.edges) (load_of y m.analysis table_in list_in)
  tidy =
      let r = m.analysis in
      let n = rows_length y r.used table_in in
      record {
        within = omega (arith, n, few);
        queue = rw n queue;
        safe_empty = λ e. empty (waits r.waiting list_in) (sym put.count ∙ safe_none r.verdict r.waiting f.verdict e);
        empty_safe = λ e. none_safe r.verdict (subst (λ (q : ℕ). T (empty_if_safe r.verdict q)) (put.count ∙ ap length e) f.verdict);
        no_edge = λ h. eqb→eq r.edge.0 0 (alarm_only r.verdict (eqb r.edge.0 0) f.alarm h);
        edge_in = leb→le r.edge.0 (length c.edges) f.edge;
        every = every_any (rows_of y r.used table_in);
      }
    where
      empty : (wa : List ℕ) → length wa ≡ 0 → wa ≡ []
      empty [] e = refl
      empty (x ∷ wa) e = absurd (omega arith)

  pub entered : Resumable y (length c.edges) m.analysis table_in list_in
  entered = record { kept = kept; capacity = size; allowed = f.settings; tidy = tidy }

  pub entry_says : ExplorationR (Says c) (load_of y m.analysis table_in list_in) (load c m)
  unfolding load
  entry_says = record {
    settings = refl;
    capacity = refl;
    iterations = refl;
    reached = rw rows_in (rows_say c y o m.analysis.used m.table f.rows);
    origins = ap (map origin_in) tails_in ∙ origins_say o m.analysis.used m.table;
    waitlist = ap (map nat_abs) front;
    verdict = refl;
    edge = refl;
  }
