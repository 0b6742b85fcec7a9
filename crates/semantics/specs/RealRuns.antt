-- What the search owes: what it answers is a run, found exactly when one exists, the shortest, and of these the first; told of
-- any system, then of a chart in its executions. Document 02, 2.3. Assumes nothing.
use Rattle.std.specs.Prelude.{◌≡◌, ◌⊎◌, List, [], ◌∷◌, ℕ, suc, ◌≤◌, ◌<◌, T, length, set, ℤ, pos}
use Rattle.std.proofs.Math.Option.{Option, none, some}
use Rattle.std.specs.Int.Signed.{lt_z}
use Rattle.semantics.specs.Lists.{In}
use Rattle.semantics.specs.Chart.{Op, assign, add, sub, input, assume, skip, Edge, Chart, Numbered, numbered, State, Initial, Moves, Overruns, Error, within}
use Rattle.semantics.specs.Coverage.{System, system, Execution}
use Rattle.semantics.specs.Layout.{most_inputs, most_starts}
use Rattle.semantics.specs.Encoding.{chart_ok}
use Rattle.semantics.specs.Search.{Trail, here, overrun, by, ErrorRun, moves, first_run, Choice, inputs, choices, explicit}
use Rattle.semantics.specs.RunListing.{too_wide}

-- ---- runs and their order, over any system

module _ {A S : Type 0} where
  -- the choices of a trail, move by move
  abbrev pub choices_of : Trail A S → List A
  choices_of here = []
  choices_of (overrun a) = a ∷ []
  choices_of (by a t r) = a ∷ choices_of r

  -- the states that it leads to
  abbrev pub states_of : Trail A S → List S
  states_of here = []
  states_of (overrun a) = []
  states_of (by a t r) = t ∷ states_of r

  -- the choice that is a fault at its end, if one is
  abbrev pub overrun_of : Trail A S → Option A
  overrun_of here = none
  overrun_of (overrun a) = some a
  overrun_of (by a t r) = overrun_of r

  module _ (M : System A S) where
    -- the trail is one of the system's, from s on
    abbrev pub Follows : S → Trail A S → Type 0
    Follows s here = M.Error s
    Follows s (overrun a) = In a M.edges × M.Faults a s
    Follows s (by a t r) = In a M.edges × M.Moves a s t × Follows t r

    -- the run is one of the system's, "into a bad location or overrun"
    abbrev pub Errs : ErrorRun A S → Type 0
    Errs r = M.Initial r.start × Follows r.start r.trail

-- one list comes before another of its length: at the first place where they differ it has the lesser
abbrev pub Lex : {A : Type 0} → (A → A → Type 0) → List A → List A → Type 0
Lex R [] ys = ⊥
Lex R (x ∷ xs) [] = ⊥
Lex R (x ∷ xs) (y ∷ ys) = R x y ⊎ ((x ≡ y) × Lex R xs ys)

-- "by starting values ..., then, move by move": by the order of first states, then by that of choices
abbrev pub Before : {A S : Type 0} → (S → S → Type 0) → (A → A → Type 0) → ErrorRun A S → ErrorRun A S → Type 0
Before P R q r = P q.start r.start ⊎ ((q.start ≡ r.start) × Lex R (choices_of q.trail) (choices_of r.trail))

-- what the answer of a search for runs of at most k moves owes
pub record Answers {A S : Type 0} (M : System A S) (P : S → S → Type 0) (R : A → A → Type 0) (k : ℕ) (o : Option (ErrorRun A S)) : Type 0 where
  -- "Found exactly when one exists": what is found is a run of at most k moves,
  pub sound : (q : ErrorRun A S) → o ≡ some q → Errs M q × (moves q.trail ≤ k)
  -- and where there is one, one is found
  pub complete : (r : ErrorRun A S) → Errs M r → moves r.trail ≤ k → (q : ErrorRun A S) × (o ≡ some q)
  -- "shown is the shortest"
  pub shortest : (q r : ErrorRun A S) → o ≡ some q → Errs M r → moves q.trail ≤ moves r.trail
  -- "among equals the first": any other of as many moves comes after it
  pub first : (q r : ErrorRun A S) → o ≡ some q → Errs M r → moves q.trail ≡ moves r.trail → (q ≡ r) ⊎ Before P R q r
  -- and so none comes before it
  pub none_before : (q r : ErrorRun A S) → o ≡ some q → Errs M r → moves q.trail ≡ moves r.trail → Before P R r q → ⊥

-- ---- a chart's

-- ys come of xs by this input value; an edge without `in` reads none
abbrev pub Reads : Op → ℤ → List ℤ → List ℤ → Type 0
Reads (assign v a) z xs ys = Unit
Reads (add v a b) z xs ys = Unit
Reads (sub v a b) z xs ys = Unit
Reads (input v p q) z xs ys = ys ≡ set xs v z
Reads (assume v r a) z xs ys = Unit
Reads skip z xs ys = Unit

-- the chart as coverage has it, an edge told apart by what it reads
abbrev pub choosing : Chart → System Choice State
choosing c = record {
  edges = choices c;
  Initial = Initial c;
  Moves = λ a s t. Moves c a.edge.edge s t × Reads a.edge.edge.op a.input s.vals t.vals;
  Error = Error c;
  Faults = λ a. Overruns c a.edge.edge;
}

-- "by starting values ascending, variable 0 first"
abbrev pub Lower : State → State → Type 0
Lower s t = Lex (λ x y. T (lt_z x y)) s.vals t.vals

-- "by edge number and input value"
abbrev pub Earlier : Choice → Choice → Type 0
Earlier a b = (a.edge.no < b.edge.no) ⊎ ((a.edge.no ≡ b.edge.no) × T (lt_z a.input b.input))

-- the value that an edge may read: one of p..q; for one that reads none, 0
abbrev pub MayRead : Op → ℤ → Type 0
MayRead (assign v a) z = z ≡ pos 0
MayRead (add v a b) z = z ≡ pos 0
MayRead (sub v a b) z = z ≡ pos 0
MayRead (input v p q) z = T (within p q z)
MayRead (assume v r a) z = z ≡ pos 0
MayRead skip z = z ≡ pos 0

-- the last of the states, s the first
abbrev pub last : {S : Type 0} → S → List S → S
last s [] = s
last s (t ∷ ts) = last t ts

-- how a run of n moves ends that has j states after its first, s the last: s is an error state; or the edge of the choice
-- overruns at s, and that move counts
abbrev pub EndsAt : Chart → State → ℕ → ℕ → Option Choice → Type 0
EndsAt c s j n none = Error c s × (n ≡ j)
EndsAt c s j n (some a) = In a.edge (numbered c) × Overruns c a.edge.edge s × (n ≡ suc j)

-- the states of a run
abbrev pub run_states : ErrorRun Choice State → List State
run_states r = r.start ∷ states_of r.trail

-- how it ends
abbrev pub Ends : Chart → ErrorRun Choice State → Type 0
Ends c r = EndsAt c (last r.start (states_of r.trail)) (length (states_of r.trail)) (moves r.trail) (overrun_of r.trail)

-- an execution of at most k moves, from s on, errs: it ends at an error location; or an edge overruns where it ends, and that
-- move is one of the k
abbrev pub ErrsWithin : Chart → ℕ → State → List State → Type 0
ErrsWithin c k s ss = ((length ss ≤ k) × Error c (last s ss)) ⊎ ((length ss < k) × ((g : Numbered) × In g (numbered c) × Overruns c g.edge (last s ss)))

-- "Is there a real run?": of the search on a chart
pub record RealRuns (c : Chart) (k : ℕ) : Type 0 where
  -- what is found is an execution of the chart of at most k moves, and it ends so
  pub found_runs : (q : ErrorRun Choice State) → first_run (explicit c) k ≡ some q → Execution (system c) (run_states q) × Ends c q × (moves q.trail ≤ k)
  -- where an execution errs, a run is found
  pub errs_found : (s : State) (ss : List State) → Execution (system c) (s ∷ ss) → ErrsWithin c k s ss → (q : ErrorRun Choice State) × (first_run (explicit c) k ≡ some q)
  -- where none is found, no execution errs
  pub none_errs : first_run (explicit c) k ≡ none → (s : State) (ss : List State) → Execution (system c) (s ∷ ss) → ErrsWithin c k s ss → ⊥
  -- "shown is the shortest": an execution that errs takes as many moves at least
  pub none_shorter : (q : ErrorRun Choice State) → first_run (explicit c) k ≡ some q → (j : ℕ) (s : State) (ss : List State) → Execution (system c) (s ∷ ss) → ErrsWithin c j s ss → moves q.trail ≤ j
  -- and it is the shortest, and of these the first, among all runs of the chart by choices,
  pub answers : Answers (choosing c) Lower Earlier k (first_run (explicit c) k)
  -- which are its edges, each with every value that it may read, and nothing else
  pub chosen : (a : Choice) → In a (choices c) → In a.edge (numbered c) × MayRead a.edge.edge.op a.input
  pub all_chosen : (a : Choice) → In a.edge (numbered c) → MayRead a.edge.edge.op a.input → In a (choices c)

-- ---- 31 counts what would be searched

-- some edge, also one that no run takes, may read more than 16 values, or there are more than 4,096 starting states
abbrev pub TooMany : Chart → Type 0
TooMany c = ((g : Edge) × In g c.edges × (most_inputs < length (inputs g.op))) ⊎ (most_starts < length (explicit c).starts)

-- "an `in` wider than 16 values or more than 4,096 starting states": exactly there a chart in form is too wide
pub record SearchSizes (c : Chart) : Type 0 where
  pub wide_many : T (chart_ok c) → T (too_wide c) → TooMany c
  pub many_wide : T (chart_ok c) → TooMany c → T (too_wide c)
