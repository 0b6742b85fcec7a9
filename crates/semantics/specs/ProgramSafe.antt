-- What the word `safe` in the program's output promises of the chart in its input: bytes in, bytes out; and what its path
-- does, and what its search does. Document 01, "The walk program and its listing" (the header) and "Runs"; document 02, 2.1:
-- "safe" now speaks of overruns too; 2.2; 2.3. Assumes nothing.
use Rattle.std.specs.Prelude.{◌≡◌, ◌⊎◌, not, List, ◌∷◌, ℕ, ◌≤◌, T, ℤ, nat_abs, take}
use Rattle.std.proofs.Math.Option.{some}
use Rattle.semantics.specs.Lists.{At, In}
use Rattle.semantics.specs.Text.{bytes, fields, number_of}
use Rattle.semantics.specs.Chart.{Chart, Edge, State, Overruns, Error}
use Rattle.semantics.specs.Reading.{ok, nth, accepted, read}
use Rattle.semantics.specs.Coverage.{system, Execution}
use Rattle.semantics.specs.PathHolds.{PathHolds}
use Rattle.semantics.specs.Search.{ErrorRun, moves, first_run, Choice, explicit}
use Rattle.semantics.specs.RealRuns.{run_states, Ends, ErrsWithin}
use Rattle.semantics.specs.RunListing.{found_text, moves_ok, too_wide}
use Rattle.semantics.specs.Program.{Listing, first_line, past_line, Go, go_line, explored, output, search_output}

-- "Header: merge, stop, order, verdict ...", after the word `walk`: the fifth field of the first line; a refusal has three
abbrev pub verdict_field : List ℕ → List ℕ
verdict_field out = nth (fields (first_line out)) 4

-- the text is a chart; no state of its executions stands at an error location, and at none of them an edge overruns
pub record ChartSafe (text : List ℕ) : Type 0 where
  pub chart : Chart
  pub reads : read text ≡ accepted chart
  pub safe : (ss : List State) → Execution (system chart) ss → (j : ℕ) (s : State) → At ss j s → Error chart s → ⊥
  pub no_overrun : (ss : List State) → Execution (system chart) ss → (j : ℕ) (s : State) → At ss j s → (g : Edge) → In g chart.edges → Overruns chart g s → ⊥

-- for every input of the program without arguments; its chart is what stands after the go line
abbrev pub ProgramSafe : Type 0
ProgramSafe = (input : List ℕ) → verdict_field (output Listing input) ≡ bytes "safe" → ChartSafe (past_line input)

-- of every input whose go line and chart are accepted, what holds of a path holds of the one that the program shows
abbrev pub ProgramPath : Type 0
ProgramPath = (input : List ℕ) (g : Go) (c : Chart) → go_line input ≡ ok g → read (past_line input) ≡ accepted c → PathHolds c (explored c g)

-- ---- 2.3: what the words `none` and `run` promise, with which the output of a search begins

-- the text is a chart, and no execution of at most k moves errs
pub record NoneErrs (text : List ℕ) (k : ℕ) : Type 0 where
  pub chart : Chart
  pub reads : read text ≡ accepted chart
  pub none_errs : (s : State) (ss : List State) → Execution (system chart) (s ∷ ss) → ErrsWithin chart k s ss → ⊥

-- the text is a chart, the output shows a run, and that is an execution of at most k moves that ends at an error location or
-- overruns; it is the one that is found, so that all that RealRuns says holds of it
pub record RunErrs (text out : List ℕ) (k : ℕ) : Type 0 where
  pub chart : Chart
  pub reads : read text ≡ accepted chart
  pub run : ErrorRun Choice State
  pub shown : out ≡ found_text chart k (some run)
  pub execution : Execution (system chart) (run_states run)
  pub ends : Ends chart run
  pub short : moves run.trail ≤ k
  pub found : first_run (explicit chart) k ≡ some run

-- of every input, and every argument k that is a number, z
pub record ProgramSearch (k input : List ℕ) (z : ℤ) : Type 0 where
  pub says_none : number_of k ≡ some z → take 4 (search_output k input) ≡ bytes "none" → NoneErrs input (nat_abs z)
  pub says_run : number_of k ≡ some z → take 3 (search_output k input) ≡ bytes "run" → RunErrs input (search_output k input) (nat_abs z)
  -- one of the two is said wherever nothing refuses it
  pub answered : number_of k ≡ some z → T (moves_ok z) → (c : Chart) → read input ≡ accepted c → T (not (too_wide c)) → (take 4 (search_output k input) ≡ bytes "none") ⊎ (take 3 (search_output k input) ≡ bytes "run")
