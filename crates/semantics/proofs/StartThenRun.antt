-- A beginning is document 01's start and the run after it, but for a bad start. Assumes nothing.
use Rattle.semantics.proofs.Prelude.{◌≡◌, refl, sym, ap, ◌∙◌, Bool, true, false, not, List, [], ◌∷◌, ◌++◌, ℕ, zero, suc, ◌-◌, ◌*◌, min, arith, T, ℤ, pos, nat_abs, length, drop, drop-append_seam}
use Rattle.semantics.specs.Lists.{pick}
use Rattle.semantics.specs.Layout.{most_iterations}
use Rattle.semantics.specs.Chart.{Chart, numbered}
use Rattle.semantics.specs.Reading.{ok, check}
use Rattle.semantics.specs.Algorithm.{Settings, Alarm, Exploration, start, first_verdict, has_verdict, allowed}
use Rattle.semantics.specs.Constants.{AbstractState, constants}
use Rattle.semantics.specs.Encoding.{decode, well_formed}
use Rattle.semantics.specs.Memory.{Memory, stride, table_of, waitlist_of, analysis_of, capacity_ok}
use Rattle.semantics.specs.Outcomes.{Outcome, case, refusal, refused_by, settled, fine, size_of, begin_cases, budget_ok, started, resumed, begun, put_in, begin_outcome, run_outcome}
use Rattle.semantics.specs.Program.{Go, unless, sized, explored}
use Rattle.semantics.specs.StartThenRun.{start_cases, start_outcome, pair_outcome, bad_start, BadStart, StartThenRun}
use Rattle.semantics.proofs.Bools.{passed, to_true}
use Rattle.semantics.proofs.FirstCase.{NoneMet, none_met}
use Rattle.semantics.proofs.SettingsKept.{run_kept, run_closed, run_none}
use Rattle.semantics.proofs.StatesOk.{Bounds}
use Rattle.semantics.proofs.MemoryOf.{Proper, table_length, list_length}
use Rattle.semantics.proofs.Encoded.{well_formed_split, formed_bounds}
use Rattle.semantics.proofs.WholeWalks.{started_iterations, started_verdict, started_edge, started_good}
use Rattle.semantics.proofs.MemoryPut.{enough_held, load_held, held_ok}

-- a call that answers 0 was refused by nothing
through : (n : ℕ) (m : Memory) (sp : List ℕ) (o : Outcome) → (settled n m sp o).answer.number ≡ 0 → n ≡ 0
through zero m sp o e = refl
through (suc n) m sp o e = absurd (omega arith)

-- a run that may play nothing, or that has a verdict
resumed_none : (c : Chart) (w : Exploration AbstractState) → resumed c (pos 0) w ≡ w
resumed_none c w = run_none (constants c) (numbered c) (min 0 (most_iterations - w.iterations)) w (omega arith)

resumed_closed : (c : Chart) (a : ℤ) (w : Exploration AbstractState) → has_verdict w.verdict ≡ true → resumed c a w ≡ w
resumed_closed c a w v = run_closed (constants c) (numbered c) (min (nat_abs a) (most_iterations - w.iterations)) w v

-- one exploration put over another of its capacity
put_twice : (c : Chart) → Bounds c → (w v : Exploration AbstractState) → Proper c w → v.capacity ≡ w.capacity → (m : Memory) → put_in c v (put_in c w m) ≡ put_in c v m
put_twice c b w v good e m =
    let p = drop_over (table_of c w) (drop (w.capacity * stride c) m.table) (v.capacity * stride c) (ap (λ (n : ℕ). n * stride c) e ∙ sym (table_length c b w good)) in
    let q = drop_over (waitlist_of w) (drop w.capacity m.waitlist) v.capacity (e ∙ sym (list_length c b w good)) in
    λ i. record {
      table = table_of c v ++ (p ∙ ap (λ (n : ℕ). drop (n * stride c) m.table) (sym e)) i;
      waitlist = waitlist_of v ++ (q ∙ ap (λ (n : ℕ). drop n m.waitlist) (sym e)) i;
      analysis = analysis_of v;
    }
  where
    drop_over : (xs ys : List ℤ) (n : ℕ) → n ≡ length xs → drop n (xs ++ ys) ≡ ys
    drop_over xs ys n e = ap (λ (k : ℕ). drop k (xs ++ ys)) e ∙ drop-append_seam xs ys

-- nothing refuses the beginning
module _ (words : List ℤ) (z : Settings) (r a : ℤ) (m : Memory) (none : NoneMet (begin_cases z r a (size_of words (nat_abs r) (length m.table) (length m.waitlist)))) where
  abbrev c : Chart
  c = decode words

  abbrev w : Exploration AbstractState
  w = started c z r

  formed : T (well_formed words)
  formed = passed (well_formed words) none.1.1.1.0

  good : Proper c w
  good = started_good c (well_formed_split words formed).1 z r (passed (capacity_ok r) none.0) (passed (allowed z.merge z.stop) none.1.0)

  start_is : start_outcome words z r m ≡ record { answer = fine 0; memory = put_in c w m; space = [] }
  unfolding start_outcome
  start_is = rw (none.0, none.1.0, none.1.1.1.0, none.1.1.1.1.0)

  begin_is : begin_outcome words z r a m ≡ record { answer = fine 0; memory = put_in c (begun c z r a) m; space = [] }
  unfolding begin_outcome
  begin_is = rw (none.0, none.1.0, none.1.1.0, none.1.1.1.0, none.1.1.1.1.0)

  -- the run on what the start left: 22 alone can refuse it
  run_is : (v : Bool) → has_verdict w.verdict ≡ v
      → run_outcome words a (put_in c w m) ≡ settled (pick v 22 0) (put_in c w m) [] (record { answer = fine 0; memory = put_in c (begun c z r a) m; space = [] })
  unfolding run_outcome start
  run_is v e =
      let b = formed_bounds words formed in
      rw (
        none.1.1.0,
        none.1.1.1.0,
        enough_held c b w good m,
        held_ok c b w good m,
        e,
        load_held c b w good m,
        put_twice c b w (begun c z r a) good (run_kept (constants c) (numbered c) (min (nat_abs a) (most_iterations - w.iterations)) w).capacity m,
      )

  as_pair : bad_start c ≡ false → ((start_outcome words z r m).answer ≡ fine 0) × (begin_outcome words z r a m ≡ pair_outcome words z r a m)
  as_pair h =
      let v : has_verdict w.verdict ≡ false = ap has_verdict (started_verdict c z r ∙ ap first_verdict h) in
      (ap (λ (o : Outcome). o.answer) start_is, begin_is ∙ sym (ap (λ (o : Outcome). run_outcome words a o.memory) start_is ∙ run_is false v))

  as_bad : bad_start c ≡ true → BadStart words z r a m
  as_bad h =
      let alarm : w.verdict ≡ Alarm = started_verdict c z r ∙ ap first_verdict h in
      let v : has_verdict w.verdict ≡ true = ap has_verdict alarm in
      let o = begin_is ∙ ap (λ (x : Exploration AbstractState). record { answer = fine 0; memory = put_in c x m; space = [] }) (resumed_closed c a w v) in
      record {
        run_met = ap (λ (o : Outcome). run_outcome words a o.memory) start_is ∙ run_is true v ∙ ap (λ (o : Outcome). record { answer = refused_by 22 0; memory = o.memory; space = [] }) (sym start_is);
        start_answers = ap (λ (o : Outcome). o.answer) start_is;
        same = o ∙ sym start_is;
        alarm = ap (λ (o : Outcome). o.memory.analysis.verdict) o ∙ alarm;
        iterations = ap (λ (o : Outcome). o.memory.analysis.iterations) o ∙ started_iterations c z r;
        edge = ap (λ (o : Outcome). o.memory.analysis.edge.0) o ∙ started_edge c z r;
      }

-- what a beginning that goes through may rely on
none_of : (words : List ℤ) (z : Settings) (r a : ℤ) (m : Memory) → (begin_outcome words z r a m).answer.number ≡ 0 → NoneMet (begin_cases z r a (size_of words (nat_abs r) (length m.table) (length m.waitlist)))
unfolding begin_outcome
none_of words z r a m e = none_met (begin_cases z r a (size_of words (nat_abs r) (length m.table) (length m.waitlist))) tt (through _ m [] _ e)

settled_answer : (n : ℕ) (m : Memory) (sp : List ℕ) (o p : Outcome) → o.answer ≡ p.answer → (settled n m sp o).answer ≡ (settled n m sp p).answer
settled_answer zero m sp o p e = e
settled_answer (suc n) m sp o p e = refl

answers_alike : (words : List ℤ) (z : Settings) (r a : ℤ) (m : Memory) → T (budget_ok a) → (begin_outcome words z r a m).answer ≡ (start_outcome words z r m).answer
unfolding begin_outcome start_outcome
answers_alike words z r a m t =
    rw (to_true (budget_ok a) t) (settled_answer (refusal (start_cases z r (size_of words (nat_abs r) (length m.table) (length m.waitlist)))) m [] _ _ refl)

begun_with_0 : (words : List ℤ) (z : Settings) (r : ℤ) (m : Memory) → begin_outcome words z r (pos 0) m ≡ start_outcome words z r m
unfolding begin_outcome start_outcome
begun_with_0 words z r m =
    let c = decode words in
    ap (λ (w : Exploration AbstractState). settled (refusal (start_cases z r (size_of words (nat_abs r) (length m.table) (length m.waitlist)))) m [] (record { answer = fine 0; memory = put_in c w m; space = [] }))
    (resumed_none c (started c z r))

listed_before : (c : Chart) (g : Go) → let w = started c g.settings g.capacity in explored c g ≡ pick (has_verdict w.verdict) w (resumed c g.budget w)
listed_before c g = go (has_verdict w.verdict) refl
  where
    w : Exploration AbstractState
    w = started c g.settings g.capacity

    go : (v : Bool) → has_verdict w.verdict ≡ v → resumed c g.budget w ≡ pick v w (resumed c g.budget w)
    go true e = resumed_closed c g.budget w e
    go false e = refl

judged_before : (z : Settings) (r a : ℤ)
    → sized z r a ≡ check (capacity_ok r) 11 (check (allowed z.merge z.stop) 12 (check (budget_ok a) 13 (ok (record { settings = z; capacity = r; budget = a }))))
unfolding check
judged_before z r a = go (capacity_ok r) (allowed z.merge z.stop) (budget_ok a)
  where
    asked : Go
    asked = record { settings = z; capacity = r; budget = a }

    go : (x y v : Bool) → unless (refusal (case 11 (not x) ∷ case 12 (not y) ∷ case 13 (not v) ∷ [])) (ok asked) ≡ check x 11 (check y 12 (check v 13 (ok asked)))
    go false y v = refl
    go true false v = refl
    go true true false = refl
    go true true true = refl

pub start_then_run : StartThenRun
start_then_run = record {
  pair = λ words z r a m e. as_pair words z r a m (none_of words z r a m e);
  bad = λ words z r a m e. as_bad words z r a m (none_of words z r a m e);
  same_answer = answers_alike;
  plain_start = begun_with_0;
  program_lists = listed_before;
  go_line_judged = judged_before;
}
