-- One call in place of two: what a beginning has to do with document 01's start, which is no call any more, and the run
-- after it. Document 02, 2.9. Assumes nothing.
use Rattle.std.specs.Prelude.{◌≡◌, Bool, true, false, not, List, [], ◌∷◌, T, length, ℤ, pos, nat_abs}
use Rattle.semantics.specs.Lists.{pick}
use Rattle.semantics.specs.Chart.{Chart}
use Rattle.semantics.specs.Reading.{ok, check}
use Rattle.semantics.specs.Constants.{constants, initial}
use Rattle.semantics.specs.Algorithm.{Settings, Alarm, allowed, has_verdict}
use Rattle.semantics.specs.Encoding.{decode}
use Rattle.semantics.specs.Memory.{Memory, capacity_ok}
use Rattle.semantics.specs.Outcomes.{Outcome, Case, case, refusal, fine, refused_by, settled, budget_ok, size_of, started, resumed, put_in, begin_outcome, run_outcome}
use Rattle.semantics.specs.Program.{Go, sized, explored}

-- ---- the start as it was

-- document 01: "Start: 11, 12, 20, 14", where size has 20 and 14
abbrev pub start_cases : Settings → ℤ → List Case → List Case
start_cases z r size = case 11 (not (capacity_ok r)) ∷ case 12 (not (allowed z.merge z.stop)) ∷ size

-- a start: refused, or the new exploration in the capacity's words
unfoldable pub start_outcome : List ℤ → Settings → ℤ → Memory → Outcome
start_outcome words z r m =
    let c = decode words in
    settled (refusal (start_cases z r (size_of words (nat_abs r) (length m.table) (length m.waitlist))))
    m [] (record { answer = fine 0; memory = put_in c (started c z r) m; space = [] })

-- ---- "the old pair's"

-- the run on the memory that the start left
abbrev pub pair_outcome : List ℤ → Settings → ℤ → ℤ → Memory → Outcome
pair_outcome words z r a m = run_outcome words a (start_outcome words z r m).memory

-- "a bad start": the initial state is at an error location
abbrev pub bad_start : Chart → Bool
bad_start c = (constants c).error (initial c)

-- "a bad start answers 0 with its alarm where the run met 22", which changed nothing: what the start did, at 0 rounds and
-- edge 0
pub record BadStart (words : List ℤ) (z : Settings) (r a : ℤ) (m : Memory) : Type 0 where
  pub run_met : pair_outcome words z r a m ≡ record { answer = refused_by 22 0; memory = (start_outcome words z r m).memory; space = [] }
  pub start_answers : (start_outcome words z r m).answer ≡ fine 0
  pub same : begin_outcome words z r a m ≡ start_outcome words z r m
  pub alarm : (begin_outcome words z r a m).memory.analysis.verdict ≡ Alarm
  pub iterations : (begin_outcome words z r a m).memory.analysis.iterations ≡ 0
  pub edge : (begin_outcome words z r a m).memory.analysis.edge.0 ≡ 0

-- "Where it goes through, the outcome equals the old pair's, but a bad start ...": of any words and any memory
pub record StartThenRun : Type 0 where
  pub pair : (words : List ℤ) (z : Settings) (r a : ℤ) (m : Memory) → (begin_outcome words z r a m).answer.number ≡ 0 → bad_start (decode words) ≡ false
      → ((start_outcome words z r m).answer ≡ fine 0) × (begin_outcome words z r a m ≡ pair_outcome words z r a m)
  pub bad : (words : List ℤ) (z : Settings) (r a : ℤ) (m : Memory) → (begin_outcome words z r a m).answer.number ≡ 0 → bad_start (decode words) ≡ true
      → BadStart words z r a m
  -- an allowance that 13 lets pass moves no answer: the start's refusals are all that are left
  pub same_answer : (words : List ℤ) (z : Settings) (r a : ℤ) (m : Memory) → T (budget_ok a) → (begin_outcome words z r a m).answer ≡ (start_outcome words z r m).answer
  -- "0 giving the plain start", refused or not
  pub plain_start : (words : List ℤ) (z : Settings) (r : ℤ) (m : Memory) → begin_outcome words z r (pos 0) m ≡ start_outcome words z r m
  -- the program's output does not move: it lists what it listed when it started, looked at the verdict and ran
  pub program_lists : (c : Chart) (g : Go) → let w = started c g.settings g.capacity in explored c g ≡ pick (has_verdict w.verdict) w (resumed c g.budget w)
  -- and a go line is judged by 11, 12 and 13 as by the three tests in turn
  pub go_line_judged : (z : Settings) (r a : ℤ)
      → sized z r a ≡ check (capacity_ok r) 11 (check (allowed z.merge z.stop) 12 (check (budget_ok a) 13 (ok (record { settings = z; capacity = r; budget = a }))))
