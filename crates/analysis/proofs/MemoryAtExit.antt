-- Record and words in form are exactly those of the exploration that they say, also as the semantics' own
-- exploration: what `run_core` leaves, after `start_core` too, is what document 01's run and 2.9's call put there.
-- Assumes nothing.
use Rattle.semantics.proofs.Prelude.{◌≡◌, sym, ap, subst, ◌∙◌, List, [], ◌∷◌, ◌++◌, map, nil≢cons, ℕ, zero, suc, ◌+◌, ◌-◌, ◌*◌, ◌≤◌, min, suc-mul, add_comm, arith, T, ℤ, pos, length, take, drop, replicate, take-append-drop, length-map, take-add, take-take, length-drop, length-take-le}
use Rattle.semantics.specs.Layout.{most_iterations}
use Rattle.semantics.specs.declared.Analysis.{Analysis}
use Rattle.semantics.specs.declared.Settings.{Settings}
use Rattle.semantics.specs.Chart.{Chart, numbered}
use Rattle.semantics.specs.Constants.{AbstractState, constants, initial}
use Rattle.semantics.specs.Algorithm.{Origin, Exploration, run, start}
use Rattle.semantics.specs.Encoding.{decode, well_formed, padded}
use Rattle.semantics.specs.Memory.{Memory, stride, tail, slots, table_of, waitlist_of, analysis_of, load, analysis_ok}
use Rattle.semantics.specs.Outcomes.{started, resumed, begun, put_in}
use Rattle.semantics.proofs.Encoded.{well_formed_split}
use Rattle.semantics.proofs.SettingsKept.{run_kept}
use Rattle.semantics.proofs.Simulate.{AllPairs, ExplorationR, run_R, start_R, same_length}
use Rattle.state.specs.declared.Layout.{Layout}
use Rattle.state.specs.Rows.{width_of, rows_of, tails_of}
use Rattle.state.proofs.Layouts.{LayoutOf}
use Rattle.waitlist.specs.Waits.{waits}
use Rattle.reached.specs.Reached.{Kept}
use Rattle.reached.proofs.Table.{rows_length}
use Rattle.reached.proofs.FormKept.{apart, in_table}
use Rattle.transfer.specs.Transfer.{edges_from, initial_row}
use Rattle.transfer.proofs.Agree.{Says, SameEdge, edges_say, agree, initial_says}
use Rattle.progress.specs.Progress.{load_of}
use Rattle.analysis.specs.Loaded.{domain_of, Loaded}
use Rattle.analysis.proofs.RunEntry.{entry_says}

-- ---- the words of a table in form are its slots, then zeros

-- the states that the rows say, and the origins after them, in words
slots_said : (c : Chart) (y : Layout) → width_of y ≤ y.stride → (n : ℕ) (t : List ℤ) → n * y.stride ≤ length t → (es : List AbstractState) (os : List Origin)
    → AllPairs (Says c) (rows_of y n t) es → tails_of y n t ≡ map tail os → slots es os ≡ take (n * y.stride) t
slots_said c y p zero t l [] os a e = let z : 0 * y.stride ≡ 0 = omega arith in rw z
slots_said c y p zero t l (f ∷ es) os a e = absurd a
slots_said c y p (suc n) t l [] os a e = absurd a
slots_said c y p (suc n) t l (f ∷ es) [] a e = absurd (nil≢cons (sym e))
slots_said c y p (suc n) t l (f ∷ es) (o ∷ os) a e =
    let w = width_of y in
    let d = y.stride in
    let m : suc n * d ≡ d + n * d = suc-mul n d ∙ add_comm (n * d) d in
    let own : drop w (take d t) ≡ tail o = cc in
    let rest : tails_of y n (drop d t) ≡ map tail os = cc in
    let later = slots_said c y p n (drop d t) (omega (arith, length-drop d t, m)) es os a.1 rest in
    rw m (
    (λ i. (sym a.0.words i ++ sym own i) ++ later i)
    ∙ ap (λ (r : List ℤ). (r ++ drop w (take d t)) ++ take (n * d) (drop d t)) (sym (take-take w d t p))
    ∙ ap (λ (r : List ℤ). r ++ take (n * d) (drop d t)) (take-append-drop w (take d t))
    ∙ sym (take-add d (n * d) t)
    )

module _ {y : Layout} {t l : List ℤ} {used waiting : ℕ} (k : Kept y t l used waiting) where
  table_padded : (ws : List ℤ) → ws ≡ take (used * y.stride) t → t ≡ padded (length l * y.stride) ws
  table_padded ws f =
      let d = y.stride in
      let n : length ws ≡ used * d = ap length f ∙ length-take-le (used * d) t (in_table k) in
      let z : length t - used * d ≡ length l * d - length ws = omega (arith, n, k.table) in
      sym (take-append-drop (used * d) t) ∙ ap (λ (x : List ℤ). x ++ drop (used * d) t) (sym f)
      ∙ ap (λ (x : List ℤ). ws ++ x) k.rest
      ∙ ap (λ (m : ℕ). ws ++ replicate m (pos 0)) z

  list_padded : l ≡ padded (length l) (map pos (waits waiting l))
  list_padded =
      let n : length (map pos (waits waiting l)) ≡ waiting = length-map (waits waiting l) pos ∙ sym k.slots.count in
      let z : length l - waiting ≡ length l - length (map pos (waits waiting l)) = omega (arith, n) in
      k.slots.words ∙ ap (λ (m : ℕ). map pos (waits waiting l) ++ replicate m (pos 0)) z

-- ---- over the simulation

-- memory and record are those of the exploration v
pub record Stores (c : Chart) (a : Analysis) (t l : List ℤ) (v : Exploration AbstractState) : Type 0 where
  pub table : t ≡ table_of c v
  pub waitlist : l ≡ waitlist_of v
  pub analysis : a ≡ analysis_of v

module _ (c : Chart) (y : Layout) (o : LayoutOf c y) (last : ℕ) (a : Analysis) (t l : List ℤ) where
  pub stores : (x : Exploration (List ℤ)) (v : Exploration AbstractState) → Loaded y last a t l x → ExplorationR (Says c) x v → Stores c a t l v
  stores x v h s = go (subst (λ (z : Exploration (List ℤ)). ExplorationR (Says c) z v) (sym h.load) s)
    where
      k : Kept y t l a.used a.waiting
      k = h.form.kept

      go : ExplorationR (Says c) (load_of y a t l) v → Stores c a t l v
      go q =
          let words = slots_said c y (apart k) a.used t (in_table k) v.reached v.origins q.reached (k.origins ∙ ap (map tail) q.origins) in
          let used : a.used ≡ length v.reached = sym (rows_length y a.used t) ∙ same_length (Says c) (rows_of y a.used t) v.reached q.reached in
          let waiting : a.waiting ≡ length v.waitlist = k.slots.count ∙ ap length q.waitlist in
          let size : length l ≡ v.capacity = h.form.capacity ∙ q.capacity in
          record {
            table = table_padded k (slots v.reached v.origins) words ∙ (λ i. padded (size i * o.stride i) (slots v.reached v.origins));
            waitlist = list_padded k ∙ (λ i. padded (size i) (map pos (q.waitlist i)));
            analysis = λ i. record {
              settings = q.settings i;
              capacity = q.capacity i;
              iterations = q.iterations i;
              used = used i;
              waiting = waiting i;
              verdict = q.verdict i;
              edge = record { 0 = q.edge i };
            };
          }

-- ---- what `run_core` leaves

module _ (ws : List ℤ) (ok : T (well_formed ws)) (y : Layout) (o : LayoutOf (decode ws) y) (last : ℕ) (r : Analysis) (t l : List ℤ) where
  abbrev c : Chart
  c = decode ws

  pub run_stores : (x : Exploration (List ℤ)) (v : Exploration AbstractState) → ExplorationR (Says c) x v → (gs : List ℕ) → AllPairs (SameEdge c) gs (numbered c) → (n : ℕ)
      → Loaded y last r t l (run (domain_of ws) gs n x) → Stores c r t l (run (constants c) (numbered c) n v)
  run_stores x v s gs z n h =
      stores c y o last r t l (run (domain_of ws) gs n x) (run (constants c) (numbered c) n v) h
      (run_R (domain_of ws) (constants c) (Says c) (SameEdge c) (agree ws ok) gs (numbered c) z n x v s)

-- ---- the lent memory at exit: the capacity's words and the record, and the words past them as they were

module _ (c : Chart) (y : Layout) (o : LayoutOf c y) (m : Memory) (r : Analysis) (t l : List ℤ) (v : Exploration AbstractState) (s : Stores c r t l v) where
  pub put_is : (capacity : ℕ) → v.capacity ≡ capacity
      → put_in c v m ≡ record { table = t ++ drop (capacity * y.stride) m.table; waitlist = l ++ drop capacity m.waitlist; analysis = r }
  put_is capacity e =
      let pt = sym s.table in
      let pl = sym s.waitlist in
      let pa = sym s.analysis in
      let w = sym o.stride in
      λ i. record { table = pt i ++ drop (e i * w i) m.table; waitlist = pl i ++ drop (e i) m.waitlist; analysis = pa i }

module _ (ws : List ℤ) (ok : T (well_formed ws)) (y : Layout) (o : LayoutOf (decode ws) y) (m : Memory) (r : Analysis) (t l : List ℤ) where
  -- a run with a budget, from the capacity's words of an analysis in form
  pub run_at_exit : m.analysis.capacity * stride (decode ws) ≤ length m.table → m.analysis.capacity ≤ length m.waitlist → T (analysis_ok (decode ws) m) → (budget : ℕ)
      → Loaded y (length (decode ws).edges) r t l (run (domain_of ws) (edges_from 0 (length (decode ws).edges)) (min budget (most_iterations - m.analysis.iterations))
      (load_of y m.analysis (take (m.analysis.capacity * y.stride) m.table) (take m.analysis.capacity m.waitlist)))
      → put_in (decode ws) (resumed (decode ws) (pos budget) (load (decode ws) m)) m
      ≡ record { table = t ++ drop (m.analysis.capacity * y.stride) m.table; waitlist = l ++ drop m.analysis.capacity m.waitlist; analysis = r }
  unfolding load
  run_at_exit lt ll form budget h =
      let c = decode ws in
      let v = load c m in
      let n = min budget (most_iterations - m.analysis.iterations) in
      let x = load_of y m.analysis (take (m.analysis.capacity * y.stride) m.table) (take m.analysis.capacity m.waitlist) in
      let z = edges_say c (well_formed_split ws ok).1 in
      put_is c y o m r t l (resumed c (pos budget) v) (run_stores ws ok y o (length c.edges) r t l x v (entry_says c y o m lt ll form) (edges_from 0 (length c.edges)) z n h)
      m.analysis.capacity (run_kept (constants c) (numbered c) n v).capacity

  -- a start, from the row of the initial state, and the run after it with a budget
  pub begin_at_exit : (z : Settings) (capacity budget : ℕ)
      → Loaded y (length (decode ws).edges) r t l (run (domain_of ws) (edges_from 0 (length (decode ws).edges)) (min budget most_iterations) (start (domain_of ws) z capacity (initial_row ws)))
      → put_in (decode ws) (begun (decode ws) z (pos capacity) (pos budget)) m
      ≡ record { table = t ++ drop (capacity * y.stride) m.table; waitlist = l ++ drop capacity m.waitlist; analysis = r }
  unfolding start
  begin_at_exit z capacity budget h =
      let c = decode ws in
      let v = started c z (pos capacity) in
      let n = min budget most_iterations in
      let same = start_R (domain_of ws) (constants c) (Says c) (SameEdge c) (agree ws ok) z capacity (initial_row ws) (initial c) (initial_says ws ok) in
      put_is c y o m r t l (begun c z (pos capacity) (pos budget))
      (run_stores ws ok y o (length c.edges) r t l (start (domain_of ws) z capacity (initial_row ws)) v same (edges_from 0 (length c.edges)) (edges_say c (well_formed_split ws ok).1) n h)
      capacity (run_kept (constants c) (numbered c) n v).capacity
